-- Which signals of a message are active under values of its signals.
use Rattle.std.specs.Prelude.{◌≡◌, ℕ, zero, suc, Bool, true, ◌&&◌, List, ℤ, pos, int_le, Option, Some, slice_get, option_and_then, IsSomeAnd, MatchOption}
use Rattle.std.specs.List.{list_any}
use Rattle.can_model.specs.declared.database.Message.{Message}
use Rattle.can_model.specs.declared.database.Signal.{Signal}
use Rattle.can_model.specs.declared.database.MuxRange.{MuxRange}

-- a value lies in one of the ranges
abbrev pub lies_in : List MuxRange → ℤ → Bool
lies_in ranges v = list_any (λ r. int_le (pos r.first) v && int_le v (pos r.last)) ranges

-- the value of the signal of this index, where it has one
abbrev pub value_at : List (Option ℤ) → ℕ → Option ℤ
value_at values i = option_and_then (λ v. v) (slice_get values i)

-- the chain of signal and selectors from index i on has at most so many signals, its last has no parent, and each selector's value lies in a range of the signal below it
abbrev pub EndsActive : ℕ → List Signal → List (Option ℤ) → ℕ → Type 0
EndsActive zero signals values i = ⊥
EndsActive (suc n) signals values i =
    IsSomeAnd (slice_get signals i) (λ s. MatchOption s.parent (Unit {0}) (λ p.
    (j : ℕ) × (p.selector ≡ Some j) × IsSomeAnd (value_at values j) (λ v. lies_in p.ranges v ≡ true) × EndsActive n signals values j))

-- the signal of this index is active: its chain ends at a signal without a parent, and each selector on it asks for it
abbrev pub IsActive : Message → List (Option ℤ) → ℕ → Type 0
IsActive m values i = (n : ℕ) × EndsActive n m.signals values i
