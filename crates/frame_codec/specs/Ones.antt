-- Bits of a frame that become 1.
use Rattle.std.specs.Prelude.{◌≡◌, ◌↔◌, ◌⊎◌, ℕ, ◌<◌, true, List, length, get_or, Option, slice_get, IsSomeAnd, ℤ}
use Rattle.can_model.specs.declared.database.Message.{Message}
use Rattle.can_model.specs.declared.database.Signal.{Signal}
use Rattle.can_model.specs.Place.{IsAt}
use Rattle.can_model.specs.Active.{value_at, IsActive}
use Rattle.can_model.specs.Frame.{is_one, has_bit_in}

abbrev pub AreBytes : List ℕ → Type 0
AreBytes xs = (i : ℕ) → get_or xs i 0 < 256

-- the bits at these places are 1 now, and all others are as before
pub record AddsOnes (old new : List ℕ) (At : ℕ → Type 0) : Type 0 where
  pub size : length new ≡ length old
  pub bytes : AreBytes old → AreBytes new
  pub bits : (p : ℕ) → (is_one new p ≡ true) ↔ ((is_one old p ≡ true) ⊎ At p)

-- one of the first so many bits of the value is 1, and the signal has it at this place
abbrev pub IsBitBelow : Signal → ℤ → ℕ → ℕ → Type 0
IsBitBelow s v n p = (k : ℕ) × (k < n) × IsAt s k p × (has_bit_in v k ≡ true)

-- one of the first so many signals is active and has a bit of its value that is 1 there
abbrev pub IsSetBelow : Message → List (Option ℤ) → ℕ → ℕ → Type 0
IsSetBelow m values n p =
    (i : ℕ) × (i < n) × IsActive m values i × IsSomeAnd (slice_get m.signals i) (λ s. IsSomeAnd (value_at values i) (λ v. IsBitBelow s v s.length p))
