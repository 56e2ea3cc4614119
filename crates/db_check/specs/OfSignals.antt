-- The faults of the signals of a message, in their order.
use Rattle.std.specs.Prelude.{◌≡◌, ℕ, ◌*◌, ◌<◌, Bool, true, false, List, get_or, length, map, take, slice_get, IsSomeAnd, IfSome, None, ◌↔◌}
use Rattle.std.specs.List.{AllByRecursion}
use Rattle.can_model.specs.Place.{HasPlace}
use Rattle.can_model.specs.Validity.{SignalHas, Fault}
use Rattle.can_model.specs.declared.database.Message.{Message}
use Rattle.can_model.specs.declared.database.Signal.{Signal}
use Rattle.db_check.specs.Kinds.{IsClean, IsLeast}

-- no signal of the message is multiplexed
abbrev pub IsPlain : Message → Type 0
IsPlain m = AllByRecursion (λ s. s.parent ≡ None) m.signals

-- this signal has no fault
abbrev pub IsCleanAt : Message → ℕ → Type 0
IsCleanAt m j = IfSome (slice_get m.signals j) (λ s. IsClean (SignalHas m j s))

-- no signal has a fault
abbrev pub AreClean : Message → Type 0
AreClean m = (j : ℕ) → IsCleanAt m j

-- the first fault of the first signal that has one
pub record IsFirstOfSignals (m : Message) (f : Fault) : Type 0 where
  pub index : ℕ
  pub there : IsSomeAnd (slice_get m.signals index) (λ s. IsLeast (SignalHas m index s) f.kind × (f ≡ record { kind = f.kind; line = s.line; message = m.name; signal = s.name }))
  pub before : (j : ℕ) → j < index → IsCleanAt m j

-- one of the first n signals has a bit at this place
abbrev pub IsTaken : Message → ℕ → ℕ → Type 0
IsTaken m n p = (i : ℕ) × (i < n) × IsSomeAnd (slice_get m.signals i) (λ e. HasPlace e p)

-- a signal's name, as an entry of a table
abbrev pub entry_of : Signal → List ℕ × Unit {0}
entry_of s = (s.name, tt)

-- what stands once the first n signals have passed
pub record HavePassed (m : Message) (n : ℕ) (names : List (List ℕ × Unit {0})) (taken : List Bool) : Type 0 where
  pub clean : (j : ℕ) → j < n → IsCleanAt m j
  pub names_are : names ≡ map entry_of (take n m.signals)
  pub size : length taken ≡ 8 * m.length
  pub taken_are : (p : ℕ) → p < length taken → (get_or taken p false ≡ true) ↔ IsTaken m n p
