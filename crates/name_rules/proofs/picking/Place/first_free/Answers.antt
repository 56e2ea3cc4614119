-- The loop does not end, since below the limit some candidate is free.
use Rattle.std.proofs.Common.{◌<◌, arith}
use Rattle.name_rules.proofs.picking.Place.first_free.Goals as goal

pub unreachable-requires : goal.unreachable-requires
unreachable-requires c =
    let below : c.loop-suffix.suffix < c.limit-suffix-end.result = c.limit-suffix-end.ensures c.args.wanted.now c.loop-suffix.suffix c.loop-suffix.invariant in
    omega arith
