use Rattle.std.proofs.Common.{ℕ, ◌<◌}
use Rattle.can_model.specs.Place.{IsAt}
use Rattle.db_check.proofs.places.has_bit_from.Given as goal

abbrev pub invariant-loop-k : goal.invariant-loop-k
invariant-loop-k l = (j p : ℕ) → j < l.k → IsAt l.signal j p → p < l.size
