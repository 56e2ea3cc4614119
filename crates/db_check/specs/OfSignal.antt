-- The faults of one signal, by the names of the earlier signals of its message and by the places that they take.
use Rattle.std.specs.Prelude.{◌≡◌, ℕ, ◌≤◌, Bool, true, false, List, get_or, is_some}
use Rattle.cg_out.specs.Words.{look_up}
use Rattle.limit_fraction.specs.Decimal.{number_of}
use Rattle.limit_fraction.specs.Unit.{IsTooWide}
use Rattle.can_model.specs.Place.{HasPlace}
use Rattle.can_model.specs.RawValue.{has_bits}
use Rattle.can_model.specs.declared.database.Signal.{Signal}
use Rattle.can_model.specs.declared.check_kind.CheckKind.{CheckKind}
use Rattle.can_model.specs.declared.check_kind.CheckKind.TheVariants.{DuplicateSignalName, SignalLength, SignalOutside, Overlap, FloatSignal, ScaleTooWide}

-- a bit of the signal is at this place or behind it
abbrev pub ReachesTo : ℕ → Signal → Type 0
ReachesTo size s = (p : ℕ) × HasPlace s p × (size ≤ p)

-- a bit of the signal is at a taken place
abbrev pub HasTaken : List Bool → Signal → Type 0
HasTaken taken s = (p : ℕ) × HasPlace s p × (get_or taken p false ≡ true)

-- the signal has a fault of this kind, where each earlier name has an entry and so many bits are in the message
abbrev pub Shows : List (List ℕ × Unit {0}) → ℕ → List Bool → Signal → CheckKind → Type 0
Shows names size taken s DuplicateSignalName = is_some (look_up s.name names) ≡ true
Shows names size taken s SignalLength = has_bits s.length ≡ false
Shows names size taken s SignalOutside = ReachesTo size s
Shows names size taken s Overlap = HasTaken taken s
Shows names size taken s FloatSignal = s.is_float ≡ true
Shows names size taken s ScaleTooWide = IsTooWide (number_of s.factor) (number_of s.offset)
Shows names size taken s kind = ⊥
