use Rattle.std.proofs.Common.{◌≡◌, [], ◌∷◌, ◌++◌, refl, ap, ◌∙◌, arith}
use Rattle.std.specs.Prelude.{if◌then◌else◌}
use Rattle.std.proofs.lemmas.Option.{IfSome_then}
use Rattle.std.proofs.lemmas.Result.{err_from_is_err_and}
use Rattle.cg_out.specs.Words.{look_up}
use Rattle.can_model.specs.declared.check_kind.CheckKind.TheVariants.{MessageTooLong}
use Rattle.db_check.specs.Answer.{fault_of}
use Rattle.can_model.proofs.Elements.{element_at}
use Rattle.db_check.proofs.MessageFaults.{unnamed, passes, same_test, new_frame, not_too_long, first_own, first_of_its_signals, all_passed}
use Rattle.db_check.proofs.messages.check_messages.Goals as goal

pub returns-in-Some-clause-fault : goal.returns-in-Some-clause-fault
returns-in-Some-clause-fault c =
    let at = element_at _ _ _ _ refl c.loop-message-test.true c.message-item.is in
    rw c.in_ok-told.ensures
    (first_own at c.loop-message.invariant c.in-Some.kind _ c.in-Some.ensures (rw c.bytes-name.ensures refl))

pub check_signals-requires-clause-length : goal.check_signals-requires-clause-length
check_signals-requires-clause-length c = not_too_long c.message-item.result.length (c.in_default.ensures MessageTooLong)

pub returns-in_err-check_signals-clause-fault : goal.returns-in_err-check_signals-clause-fault
returns-in_err-check_signals-clause-fault c =
    let at = element_at _ _ _ _ refl c.loop-message-test.true c.message-item.is in
    let p = err_from_is_err_and c.from_residual-in_err-check_signals.result c.from_residual-in_err-check_signals.ensures.1 in
    rw (p.1, p.2)
    (IfSome_then (fault_of c.in_err-check_signals.field-0.0) c.in_err-check_signals.ensures.fault
    (first_of_its_signals at c.loop-message.invariant c.in_default.ensures))

pub put-requires : goal.put-requires
put-requires c =
    let at = element_at _ _ _ _ refl c.loop-message-test.true c.message-item.is in
    ap (λ t. look_up t c.loop-message.names) c.bytes-name.ensures ∙ unnamed at c.loop-message.invariant c.in_default.ensures

pub loop-message-preserved : goal.loop-message-preserved
loop-message-preserved c =
    let m = c.message-item.result in
    let at = element_at _ _ _ _ refl c.loop-message-test.true c.message-item.is in
    let frames : c.insert.new.self.keys ≡ c.loop-message.frames.keys ++ (m.id, m.extended) ∷ [] =
    c.in_ok-insert.ensures.keys
    ∙ ap (λ b. if b then c.loop-message.frames.keys else c.loop-message.frames.keys ++ (m.id, m.extended) ∷ [])
    (same_test m.id m.extended c.loop-message.frames.keys ∙ new_frame at c.loop-message.invariant c.in_default.ensures) in
    rw (frames, c.in_ok-put.ensures, c.bytes-name.ensures)
    (passes at c.loop-message.invariant c.in_default.ensures c.in_ok-check_signals.ensures.clean)

pub returns-clause-clean : goal.returns-clause-clean
returns-clause-clean c =
    all_passed c.args.messages.now c.loop-message.message-index c.loop-message.names c.loop-message.frames.keys (omega arith) c.loop-message.invariant
