-- Integer constants (ISO/IEC 9899:1999, 6.4.4.1).
use Rattle.std.specs.Prelude.{ℕ, ◌-◌, ◌^◌, Bool, true, false, ◌||◌, ◌&&◌, ◌==◌, nat_lt, if◌then◌else◌, List, [], ◌∷◌, length, take, drop, take_while, Option, Some, None}
use Rattle.std.specs.Str.Parse.{digits_value}
use Rattle.std.specs.Char.{is_digit as is_digit_in}
use Rattle.c_text.specs.declared.token.Constant.{Constant}
use Rattle.c_text.specs.Characters.{first_passes}

-- ---- suffixes

abbrev pub is_u : ℕ → Bool
is_u b = b == 117 || b == 85

abbrev pub is_l : ℕ → Bool
is_l b = b == 108 || b == 76

-- whether a suffix has a `u`, and how many `l`
pub record Suffix : Type 0 where
  pub unsigned : Bool
  pub longs : ℕ

-- a long-suffix or a long-long-suffix, whose letters have one case, or nothing
abbrev pub longs_of : List ℕ → Option ℕ
longs_of [] = Some 0
longs_of (b ∷ []) = if is_l b then Some 1 else None
longs_of (b ∷ c ∷ []) = if is_l b && c == b then Some 2 else None
longs_of (b ∷ c ∷ d ∷ ds) = None

abbrev pub with_longs : Bool → Option ℕ → Option Suffix
with_longs unsigned None = None
with_longs unsigned (Some n) = Some (record { unsigned = unsigned; longs = n })

-- all but the last byte
abbrev pub front : List ℕ → List ℕ
front bs = take (length bs - 1) bs

-- an unsigned-suffix before or behind the letters `l`, or none
abbrev pub suffix_of : List ℕ → Option Suffix
suffix_of bs =
    if first_passes is_u bs then with_longs true (longs_of (drop 1 bs))
    else if first_passes is_u (drop (length bs - 1) bs) then with_longs true (longs_of (front bs))
    else with_longs false (longs_of bs)

-- ---- constants

-- the least number that no constant has
unfoldable pub value_limit : ℕ
value_limit = 2 ^ 64

-- one digit or more with a value below 2^64, and a suffix
abbrev pub constant_from : ℕ → List ℕ → Option Suffix → Option Constant
constant_from base [] suffix = None
constant_from base (d ∷ ds) None = None
constant_from base (d ∷ ds) (Some s) =
    if nat_lt (digits_value base (d ∷ ds)) value_limit then Some (record { value = digits_value base (d ∷ ds); base = base; unsigned = s.unsigned; longs = s.longs })
    else None

abbrev pub in_base : ℕ → ℕ → Bool
in_base base b = is_digit_in b base

-- digits of the base, then a suffix
abbrev pub constant_in : ℕ → List ℕ → Option Constant
constant_in base bs = constant_from base (take_while (in_base base) bs) (suffix_of (drop (length (take_while (in_base base) bs)) bs))

abbrev pub is_x : ℕ → Bool
is_x b = b == 120 || b == 88

-- behind the digit 0: a hexadecimal constant, an octal one, or the number 0, which here has base 10
abbrev pub constant_after_zero : List ℕ → Option Constant
constant_after_zero bs =
    if first_passes is_x bs then constant_in 16 (drop 1 bs)
    else if first_passes (in_base 8) bs then constant_in 8 bs
    else constant_from 10 (48 ∷ []) (suffix_of bs)

-- the constant that all the bytes spell
unfoldable pub constant_of : List ℕ → Option Constant
constant_of [] = None
constant_of (b ∷ bs) = if b == 48 then constant_after_zero bs else constant_in 10 (b ∷ bs)
