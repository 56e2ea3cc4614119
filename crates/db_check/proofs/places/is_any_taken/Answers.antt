use Rattle.db_check.proofs.places.is_any_taken.Goals as goal

pub bounds-taken-place : goal.bounds-taken-place
bounds-taken-place c = c.requires.inside c.place.result (c.requires.bits, (c.loop-k.k, c.loop-k-test.true, c.place.ensures.is_at))
