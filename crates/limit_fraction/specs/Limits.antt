-- The limits of a signal.
use Rattle.std.specs.Prelude.{ℤ, ◌≤ℤ◌, Option, IfSome}
use Rattle.limit_fraction.specs.declared.number.Decimal.{Decimal}
use Rattle.limit_fraction.specs.declared.limits.Range.{Range}
use Rattle.limit_fraction.specs.declared.limits.Range.TheVariants.{Empty, Span}
use Rattle.limit_fraction.specs.Number.{Number, IsAtMost, times, plus}
use Rattle.limit_fraction.specs.Decimal.{number_of}

-- the number that the raw value v stands for: v times the factor, and the offset
abbrev pub physical : Number → Number → ℤ → Number
physical factor offset v = plus (times v factor) offset

-- a number is at least the minimum, where there is one
abbrev pub MeetsMinimum : Option Decimal → Number → Type 0
MeetsMinimum minimum n = IfSome minimum (λ m. IsAtMost (number_of m) n)

-- a number is at most the maximum, where there is one
abbrev pub MeetsMaximum : Option Decimal → Number → Type 0
MeetsMaximum maximum n = IfSome maximum (λ m. IsAtMost n (number_of m))

-- the raw value v meets both limits
pub record MeetsLimits (factor offset : Number) (minimum maximum : Option Decimal) (v : ℤ) : Type 0 where
  pub at_least : MeetsMinimum minimum (physical factor offset v)
  pub at_most : MeetsMaximum maximum (physical factor offset v)

-- v is in the range
abbrev pub IsIn : ℤ → Range → Type 0
IsIn v Empty = ⊥
IsIn v (Span low high) = (low ≤ℤ v) × (v ≤ℤ high)

-- the range has a least and a greatest value, both from low to high, where it is not empty
abbrev pub IsWithin : ℤ → ℤ → Range → Type 0
IsWithin low high Empty = Unit {0}
IsWithin low high (Span least greatest) = (low ≤ℤ least) × (least ≤ℤ greatest) × (greatest ≤ℤ high)
