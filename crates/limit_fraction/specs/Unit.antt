-- The unit of a signal.
use Rattle.std.specs.Prelude.{◌^◌, ◌<◌, ◌≤◌, ◌⊎◌, Bool, ◌==◌, if◌then◌else◌, min, ℤ, pos, negsuc, neg_ℤ, suc, unsigned_abs}
use Rattle.std.specs.Int.{int_min}
use Rattle.limit_fraction.specs.Number.{Number, in_unit}

-- the number is 0
abbrev pub is_zero : Number → Bool
is_zero n = unsigned_abs n.mantissa == 0

-- the lesser exponent of factor and offset, where a zero counts for nothing, and 0 where both are zero
abbrev pub unit_of : Number → Number → ℤ
unit_of factor offset =
    if is_zero factor then (if is_zero offset then pos 0 else offset.exponent)
    else (if is_zero offset then factor.exponent else int_min factor.exponent offset.exponent)

-- in the unit the factor reaches 2^60 or the offset reaches 2^100 in size
abbrev pub IsTooWide : Number → Number → Type 0
IsTooWide factor offset = (2 ^ 60 ≤ unsigned_abs (in_unit (unit_of factor offset) factor)) ⊎ (2 ^ 100 ≤ unsigned_abs (in_unit (unit_of factor offset) offset))

-- what a scale keeps: factor and offset are not too wide, and the exponent is from -400 to 400
pub record IsScale (factor offset exponent : ℤ) : Type 0 where
  pub factor_below : unsigned_abs factor < 2 ^ 60
  pub offset_below : unsigned_abs offset < 2 ^ 100
  pub near : unsigned_abs exponent ≤ 400

-- z, or -2^126 or 2^126 where z is farther from 0
abbrev pub cut_off : ℤ → ℤ
cut_off (pos n) = pos (min n (2 ^ 126))
cut_off (negsuc n) = neg_ℤ (pos (min (suc n) (2 ^ 126)))
