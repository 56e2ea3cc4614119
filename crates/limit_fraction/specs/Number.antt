-- Numbers with a decimal exponent: what they stand for, and how they are compared and added.
use Rattle.std.specs.Prelude.{◌≡◌, ℕ, ◌%◌, ◌^◌, ◌<◌, ◌≤◌, ℤ, pos, negsuc, ◌+ℤ◌, ◌-ℤ◌, ◌*ℤ◌, ◌≤ℤ◌, unsigned_abs}
use Rattle.std.specs.Int.{int_min}

-- the number `mantissa * 10^exponent`
pub record Number : Type 0 where
  pub mantissa : ℤ
  pub exponent : ℤ

-- z, or 0 where z is negative
abbrev pub natural : ℤ → ℕ
natural (pos n) = n
natural (negsuc n) = 0

-- how many times 10^unit the number is, whole where the unit is at most its exponent
abbrev pub in_unit : ℤ → Number → ℤ
in_unit unit n = n.mantissa *ℤ pos (10 ^ natural (n.exponent -ℤ unit))

-- the greatest power of ten in which both numbers are whole
abbrev pub common_unit : Number → Number → ℤ
common_unit a b = int_min a.exponent b.exponent

-- both are one number
abbrev pub IsSame : Number → Number → Type 0
IsSame a b = in_unit (common_unit a b) a ≡ in_unit (common_unit a b) b

-- a is at most b
abbrev pub IsAtMost : Number → Number → Type 0
IsAtMost a b = in_unit (common_unit a b) a ≤ℤ in_unit (common_unit a b) b

-- the whole number z times 10^unit
abbrev pub units : ℤ → ℤ → Number
units unit z = record { mantissa = z; exponent = unit }

-- v times the number
abbrev pub times : ℤ → Number → Number
times v n = units n.exponent (v *ℤ n.mantissa)

-- the sum
abbrev pub plus : Number → Number → Number
plus a b = units (common_unit a b) (in_unit (common_unit a b) a +ℤ in_unit (common_unit a b) b)

-- the decimals that are kept: 0 with exponent 0, else a mantissa that ten does not divide, of at most 28 digits, and an exponent from -400 to 400
pub record IsKept (mantissa exponent : ℤ) : Type 0 where
  pub trimmed : unsigned_abs mantissa % 10 ≡ 0 → (mantissa ≡ pos 0) × (exponent ≡ pos 0)
  pub short : unsigned_abs mantissa < 10 ^ 28
  pub near : unsigned_abs exponent ≤ 400
