-- The value that a number has in a type (ISO/IEC 9899:1999, 6.3.1.2 and 6.3.1.3); a signed type wraps.
use Rattle.std.specs.Prelude.{ℕ, zero, ◌-◌, ◌^◌, Bool, ◌&&◌, if◌then◌else◌, ℤ, pos, ◌-ℤ◌, int_le}
use Rattle.std.specs.Int.{int_rem_euclid}
use Rattle.std.specs.Ordering.{int_eq}
use Rattle.c_text.specs.declared.token.IntType.{IntType}
use Rattle.c_text.specs.declared.token.IntType.TheVariants.{Bool as Boolean}
use Rattle.c_widths.specs.DataModel.{DataModel}
use Rattle.c_widths.specs.IntegerType.{is_signed, bits_of}

-- 6.3.1.2: 0 stays, and all else is 1
abbrev pub truth : ℤ → ℤ
truth (pos zero) = pos 0
truth other = pos 1

-- of the numbers that are equal modulo 2 ^ bits, the one that a type of so many bits holds, by the one from 0 to 2 ^ bits - 1
abbrev pub in_range : Bool → ℕ → ℤ → ℤ
in_range signed bits low = if signed && int_le (pos (2 ^ (bits - 1))) low then low -ℤ pos (2 ^ bits) else low

-- 6.3.1.3
unfoldable pub wrap : Bool → ℕ → ℤ → ℤ
wrap signed bits number = in_range signed bits (int_rem_euclid number (pos (2 ^ bits)))

abbrev pub convert : DataModel → IntType → ℤ → ℤ
convert m Boolean number = truth number
convert m type number = wrap (is_signed type) (bits_of m type) number

-- a type holds the numbers that conversion to it leaves as they are
abbrev pub holds : DataModel → IntType → ℤ → Bool
holds m type number = int_eq (convert m type number) number
