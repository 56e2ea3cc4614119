use Rattle.std.proofs.Common.{◌≡◌, ℕ, ◌<◌, false, get_or}
use Rattle.can_model.specs.Place.{IsAt}
use Rattle.db_check.proofs.places.is_any_taken.Given as goal

abbrev pub invariant-loop-k : goal.invariant-loop-k
invariant-loop-k l = (j p : ℕ) → j < l.k → IsAt l.signal j p → get_or l.taken p false ≡ false
