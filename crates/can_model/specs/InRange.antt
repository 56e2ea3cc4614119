-- The values of a signal that its limits allow.
use Rattle.std.specs.Prelude.{◌≡◌, true, ℤ}
use Rattle.limit_fraction.specs.Decimal.{number_of}
use Rattle.limit_fraction.specs.Limits.{MeetsLimits}
use Rattle.can_model.specs.declared.database.Signal.{Signal}
use Rattle.can_model.specs.RawValue.{is_raw}

-- v is a raw value, and `v * factor + offset` is from the minimum to the maximum, where there are such
pub record IsInRange (s : Signal) (v : ℤ) : Type 0 where
  pub raw : is_raw s.length s.signed v ≡ true
  pub limits : MeetsLimits (number_of s.factor) (number_of s.offset) s.min s.max v
