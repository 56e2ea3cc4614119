use Rattle.std.proofs.Common.{◌<◌, length, arith}
use Rattle.db_check.proofs.TakenPlaces.{take_more}
use Rattle.db_check.proofs.places.take_places.Goals as goal

pub bounds-taken-place : goal.bounds-taken-place
bounds-taken-place c =
    let within : c.place.result < length c.args.taken.now = c.requires.inside c.place.result (c.requires.bits, (c.loop-k.k, c.loop-k-test.true, c.place.ensures.is_at)) in
    omega arith

pub loop-k-preserved : goal.loop-k-preserved
loop-k-preserved c =
    let within : c.place.result < length c.args.taken.now = c.requires.inside c.place.result (c.requires.bits, (c.loop-k.k, c.loop-k-test.true, c.place.ensures.is_at)) in
    take_more c.args.signal.now c.args.taken.now c.loop-k.taken c.loop-k.k c.place.result (omega arith) c.place.ensures.is_at c.place.ensures.only c.loop-k.invariant
