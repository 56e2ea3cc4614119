-- The number that each helper gives, for values of w bits (ISO/IEC 9899:1999, 6.5.7 and 6.3.1.3): bits are moved, and a mask keeps those that are wanted.
use Rattle.std.specs.Prelude.{◌≡◌, ℕ, ◌*◌, ◌/◌, ◌%◌, ◌^◌, ◌⊎◌, bit_and}
use Rattle.shift_helpers.specs.declared.helper.HelperKind.{HelperKind}
use Rattle.shift_helpers.specs.declared.helper.HelperKind.TheVariants as h

-- the widths of values (7.18.1.1p3)
abbrev pub IsWidth : ℕ → Type 0
IsWidth w = (w ≡ 8) ⊎ ((w ≡ 16) ⊎ ((w ≡ 32) ⊎ (w ≡ 64)))

-- of a width, a first argument x, a shift and a mask
unfoldable pub result : HelperKind → ℕ → ℕ → ℕ → ℕ → ℕ
result h.PackLeft w x shift mask = bit_and (x * 2 ^ shift % 2 ^ 8) mask
result h.PackRight w x shift mask = bit_and (x / 2 ^ shift % 2 ^ 8) mask
result h.UnpackLeft w x shift mask = bit_and x mask * 2 ^ shift % 2 ^ w
result h.UnpackRight w x shift mask = bit_and x mask / 2 ^ shift

-- the width of the first argument, which is below 2 ^ this
abbrev pub taken_width : HelperKind → ℕ → ℕ
taken_width h.PackLeft w = w
taken_width h.PackRight w = w
taken_width h.UnpackLeft w = 8
taken_width h.UnpackRight w = 8

-- the width of what is given
abbrev pub given_width : HelperKind → ℕ → ℕ
given_width h.PackLeft w = 8
given_width h.PackRight w = 8
given_width h.UnpackLeft w = w
given_width h.UnpackRight w = w

-- shifts are below this: none is undefined (6.5.7p3), and a wider one would leave no bit
abbrev pub shift_limit : HelperKind → ℕ → ℕ
shift_limit h.PackLeft w = 8
shift_limit h.PackRight w = w
shift_limit h.UnpackLeft w = w
shift_limit h.UnpackRight w = 8
