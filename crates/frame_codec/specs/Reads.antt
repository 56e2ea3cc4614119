-- Values of all signals, and those that are left of them where only active ones count.
use Rattle.std.specs.Prelude.{◌≡◌, ◌⊎◌, ◌<◌, ◌≤◌, ℕ, List, length, Option, Some, None, slice_get, IfSome, ℤ}
use Rattle.can_model.specs.declared.database.Message.{Message}
use Rattle.can_model.specs.Active.{value_at, IsActive}
use Rattle.can_model.specs.Frame.{value_in}

-- each of the first so many signals has its value in these bytes
pub record HasRead (m : Message) (bytes : List ℕ) (n : ℕ) (values : List (Option ℤ)) : Type 0 where
  pub size : length values ≡ length m.signals
  pub values_are : (i : ℕ) → i < n → IfSome (slice_get m.signals i) (λ s. value_at values i ≡ Some (value_in bytes s))

-- of the first so many signals those that are not active lost their value, and all others have it as before
pub record DropsInactive (m : Message) (old : List (Option ℤ)) (n : ℕ) (new : List (Option ℤ)) : Type 0 where
  pub size : length new ≡ length old
  pub done : (i : ℕ) → i < n → (IsActive m old i × (value_at new i ≡ value_at old i)) ⊎ ((¬ IsActive m old i) × (value_at new i ≡ None))
  pub later : (i : ℕ) → n ≤ i → value_at new i ≡ value_at old i
