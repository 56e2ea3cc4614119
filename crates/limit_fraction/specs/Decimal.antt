-- Decimals as they are kept.
use Rattle.std.specs.Prelude.{◌≡◌, ◌%◌, ◌^◌, ◌<◌, ◌≤◌, ℤ, pos, negsuc, ◌*ℤ◌, unsigned_abs, Option, Some, None, nat_le, if◌then◌else◌}
use Rattle.std.proofs.Common.{refl, lit<, lit≤}
use native.Mathlib.Decide.{ℕ_discrete, dec_lt, dec_le}
use Rattle.limit_fraction.specs.declared.number.Decimal.{Decimal}
use Rattle.limit_fraction.specs.Number.{Number}

-- the number that a decimal stands for
abbrev pub number_of : Decimal → Number
number_of d = record { mantissa = d.mantissa; exponent = d.exponent }

-- 0, kept with exponent 0
abbrev pub zero_decimal : Decimal
zero_decimal = record { mantissa = pos 0; exponent = pos 0; kept = record { trimmed = λ _. (refl, refl); short = lit< tt; near = lit≤ tt } }

-- the decimal with just these parts, where they may be kept as they are
abbrev pub kept_if : (m e : ℤ) → Dec (unsigned_abs m < 10 ^ 28) → Dec (unsigned_abs e ≤ 400) → Dec (unsigned_abs m % 10 ≡ 0) → Option Decimal
kept_if m e (yes short) (yes near) (no differs) = Some (record { mantissa = m; exponent = e; kept = record { trimmed = λ h. absurd (differs h); short = short; near = near } })
kept_if m e short near ten = None

-- the same, decided: None for 0
unfoldable pub kept_parts : ℤ → ℤ → Option Decimal
kept_parts m e = kept_if m e (dec_lt (unsigned_abs m) (10 ^ 28)) (dec_le (unsigned_abs e) 400) (ℕ_discrete (unsigned_abs m % 10) 0)

-- z where it is from -2^64 to 2^64
abbrev pub within_64 : ℤ → Option ℤ
within_64 z = if nat_le (unsigned_abs z) (2 ^ 64) then Some z else None

-- the number of these parts, which is whole where no digit stands behind the point
abbrev pub whole_at : ℤ → ℤ → Option ℤ
whole_at m (pos e) = within_64 (m *ℤ pos (10 ^ e))
whole_at m (negsuc e) = None

-- the number of a decimal, where it is whole and from -2^64 to 2^64
abbrev pub whole_of : Decimal → Option ℤ
whole_of d = whole_at d.mantissa d.exponent
