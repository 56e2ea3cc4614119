use Rattle.std.proofs.Common.{◌≡◌, ◌<◌, ◌≤◌, length, refl, ap, ◌∙◌, arith}
use Rattle.cg_out.specs.Words.{look_up}
use Rattle.can_model.proofs.Elements.{element_at}
use Rattle.db_check.proofs.SignalFaults.{unnamed, bits, places_inside, start_inside, passes, first_of_signals, all_passed}
use Rattle.db_check.proofs.signals.check_signals.Goals as goal

pub returns-in-Some-clause-fault : goal.returns-in-Some-clause-fault
returns-in-Some-clause-fault c =
    let at = element_at _ _ _ _ c.items-signals.ensures c.loop-signal-test.true c.signal-item.is in
    rw c.in_ok-told.ensures
    (first_of_signals at c.requires.plain c.loop-signal.invariant c.in-Some.kind _ c.in-Some.ensures (rw (c.bytes-name.ensures, c.bytes.ensures) refl))

pub put-requires : goal.put-requires
put-requires c =
    let at = element_at _ _ _ _ c.items-signals.ensures c.loop-signal-test.true c.signal-item.is in
    ap (λ n. look_up n c.loop-signal.names) c.bytes-name.ensures ∙ unnamed at c.requires.plain c.loop-signal.invariant c.in_default.ensures

pub take_places-requires-clause-bits : goal.take_places-requires-clause-bits
take_places-requires-clause-bits c =
    let at = element_at _ _ _ _ c.items-signals.ensures c.loop-signal-test.true c.signal-item.is in
    bits at c.requires.plain c.loop-signal.invariant c.in_default.ensures

pub take_places-requires-clause-start : goal.take_places-requires-clause-start
take_places-requires-clause-start c =
    let at = element_at _ _ _ _ c.items-signals.ensures c.loop-signal-test.true c.signal-item.is in
    let below : c.signal-item.result.start < length c.loop-signal.taken = start_inside at c.requires.plain c.loop-signal.invariant c.in_default.ensures in
    omega arith

pub take_places-requires-clause-inside : goal.take_places-requires-clause-inside
take_places-requires-clause-inside c =
    let at = element_at _ _ _ _ c.items-signals.ensures c.loop-signal-test.true c.signal-item.is in
    places_inside at c.requires.plain c.loop-signal.invariant c.in_default.ensures

pub loop-signal-preserved : goal.loop-signal-preserved
loop-signal-preserved c =
    let at = element_at _ _ _ _ c.items-signals.ensures c.loop-signal-test.true c.signal-item.is in
    rw (c.in_ok-put.ensures, c.bytes-name.ensures)
    (passes at c.requires.plain c.loop-signal.invariant c.in_default.ensures c.take_places.new.taken c.take_places.auto.taken c.take_places.ensures)

pub returns-clause-clean : goal.returns-clause-clean
returns-clause-clean c =
    let all : length c.args.message.now.signals ≤ c.loop-signal.signal-index = let e : length c.items-signals.result.now ≡ length c.args.message.now.signals = ap length c.items-signals.ensures in omega arith in
    all_passed c.args.message.now c.loop-signal.signal-index c.loop-signal.names c.loop-signal.taken all c.loop-signal.invariant
