use Rattle.std.proofs.Common.{◌<◌, length, arith, sym, ◌∙◌}
use Rattle.db_check.proofs.TakenPlaces.{start_below}
use Rattle.db_check.proofs.signals.signal_fault.Goals as goal

pub is_any_taken-requires-clause-start : goal.is_any_taken-requires-clause-start
is_any_taken-requires-clause-start c =
    let below : c.args.signal.now.start < length c.args.taken.now =
    start_below c.args.signal.now (length c.args.taken.now) c.is_outside.result c.is_outside.ensures c.if-is_outside.false (sym c.has_bits.ensures ∙ c.if-not-has_bits.false)
    in omega arith
