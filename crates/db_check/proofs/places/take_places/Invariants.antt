use Rattle.std.proofs.Common.{◌≡◌, ◌⊎◌, ◌↔◌, ℕ, ◌<◌, true, false, get_or}
use Rattle.can_model.specs.Place.{IsAt}
use Rattle.db_check.proofs.places.take_places.Given as goal

abbrev pub invariant-loop-k : goal.invariant-loop-k
invariant-loop-k l = (p : ℕ) → (get_or l.taken p false ≡ true) ↔ ((get_or l.initial.taken p false ≡ true) ⊎ ((j : ℕ) × (j < l.k) × IsAt l.signal j p))
