use Rattle.std.proofs.Common.{◌≡◌, ◌<◌, ◌≤◌, length, Some, refl, sym, ap, ◌∙◌, arith}
use Rattle.std.specs.Prelude.{slice_get}
use Rattle.can_model.proofs.Elements.{element_at}
use Rattle.db_check.proofs.AllSignals.{of_message, of_later}
use Rattle.db_check.proofs.checking.signal_at.Goals as goal

pub returns-then-left-signals : goal.returns-then-left-signals
returns-then-left-signals c =
    let ms = c.args.messages.now in
    let m = c.message-item.result in
    let at : slice_get ms c.loop-message.message-index ≡ Some m = element_at ms ms c.loop-message.message-index m refl c.loop-message-test.true c.message-item.is in
    let lt : c.loop-message.left < length m.signals = let e : length c.items-signals.result.now ≡ length m.signals = ap length c.items-signals.ensures in omega arith in
    sym (element_at m.signals c.items-signals.result.now c.loop-message.left c.index-signals-left.result c.items-signals.ensures c.if-left-signals.true c.index-signals-left.is)
    ∙ sym (of_message ms c.loop-message.message-index c.loop-message.left m at lt)
    ∙ c.loop-message.invariant

pub loop-message-preserved : goal.loop-message-preserved
loop-message-preserved c =
    let ms = c.args.messages.now in
    let m = c.message-item.result in
    let at : slice_get ms c.loop-message.message-index ≡ Some m = element_at ms ms c.loop-message.message-index m refl c.loop-message-test.true c.message-item.is in
    let same : length c.items-signals.result.now ≡ length m.signals = ap length c.items-signals.ensures in
    let le : length m.signals ≤ c.loop-message.left = omega arith in
    rw same (sym (of_later ms c.loop-message.message-index c.loop-message.left m at le) ∙ c.loop-message.invariant)
