-- The decimal that a text spells.
use Rattle.std.specs.Prelude.{ℕ, zero, suc, ◌+◌, ◌/◌, ◌%◌, Bool, true, false, ◌||◌, ◌==◌, if◌then◌else◌, List, [], ◌∷◌, ◌++◌, length, ℤ, pos, negsuc, ◌+ℤ◌, ◌-ℤ◌, Option, Some, None, option_and_then, option_map}
use Rattle.std.specs.List.{list_all}
use Rattle.std.specs.Char.{is_ascii_digit}
use Rattle.limit_fraction.specs.declared.number.Decimal.{Decimal}
use Rattle.limit_fraction.specs.Number.{Number, units, IsSame}
use Rattle.limit_fraction.specs.Digits.{value_after, signed}
use Rattle.limit_fraction.specs.Spelling.{Spells}
use Rattle.limit_fraction.specs.Decimal.{number_of, zero_decimal, kept_parts}

-- whether a text begins with a minus, and what follows its sign
abbrev pub sign_of : List ℕ → Bool × List ℕ
sign_of [] = (false, [])
sign_of (b ∷ bs) = if b == 45 then (true, bs) else (if b == 43 then (false, bs) else (false, b ∷ bs))

-- the digits at the front
abbrev pub digits_of : List ℕ → List ℕ
digits_of [] = []
digits_of (b ∷ bs) = if is_ascii_digit b then b ∷ digits_of bs else []

-- what follows them
abbrev pub after_digits : List ℕ → List ℕ
after_digits [] = []
after_digits (b ∷ bs) = if is_ascii_digit b then after_digits bs else b ∷ bs

-- the digits behind a point at the front
abbrev pub fraction_of : List ℕ → List ℕ
fraction_of [] = []
fraction_of (b ∷ bs) = if b == 46 then digits_of bs else []

-- what follows the point and them
abbrev pub after_fraction : List ℕ → List ℕ
after_fraction [] = []
after_fraction (b ∷ bs) = if b == 46 then after_digits bs else b ∷ bs

-- the value of a text that is digits, at least one
abbrev pub size_of : List ℕ → Option ℕ
size_of [] = None
size_of (d ∷ ds) = if list_all is_ascii_digit (d ∷ ds) then Some (value_after 0 (d ∷ ds)) else None

-- the exponent that a text spells, 0 where there is none
abbrev pub exponent_of : List ℕ → Option ℤ
exponent_of [] = Some (pos 0)
exponent_of (b ∷ bs) = if b == 101 || b == 69 then option_map (signed (sign_of bs).0) (size_of (sign_of bs).1) else None

-- the number of these digits before and behind the point, with the exponent that the tail spells
abbrev pub number_from : Bool → List ℕ → List ℕ → List ℕ → Option Number
number_from negative whole fraction tail =
    if length whole + length fraction == 0 then None
    else option_map (λ x. units (x -ℤ pos (length fraction)) (signed negative (value_after 0 (whole ++ fraction)))) (exponent_of tail)

-- the number that a text behind its sign spells
abbrev pub number_behind : Bool → List ℕ → Option Number
number_behind negative bs = number_from negative (digits_of bs) (fraction_of (after_digits bs)) (after_fraction (after_digits bs))

-- the number that a text spells
abbrev pub number_in : List ℕ → Option Number
number_in bs = number_behind (sign_of bs).0 (sign_of bs).1

-- one ten more was taken off
abbrev one_more : ℕ × ℕ → ℕ × ℕ
one_more r = (r.0, r.1 + 1)

-- n with up to so many tens taken off, and how many those were
unfoldable pub without_tens : ℕ → ℕ → ℕ × ℕ
without_tens zero n = (n, 0)
without_tens (suc most) n = elim (n % 10) [ zero ↦ one_more (without_tens most (n / 10)) | suc k ↦ (n, 0) ]

-- a number other than 0 with all tens taken off its mantissa
abbrev pub trimmed : Bool → ℕ × ℕ → ℤ → Option Decimal
trimmed negative r exponent = kept_parts (signed negative r.0) (exponent +ℤ pos r.1)

-- the decimal that is kept for a number, where one is
abbrev pub decimal_for : ℤ → ℤ → Option Decimal
decimal_for (pos zero) exponent = Some zero_decimal
decimal_for (pos (suc n)) exponent = trimmed false (without_tens (suc n) (suc n)) exponent
decimal_for (negsuc n) exponent = trimmed true (without_tens (suc n) (suc n)) exponent

-- the decimal that is kept for a number that may be there
abbrev pub kept : Option Number → Option Decimal
kept number = option_and_then (λ n. decimal_for n.mantissa n.exponent) number

-- the decimal that a text spells, where it spells one that is kept
unfoldable pub decimal_of : List ℕ → Option Decimal
decimal_of bs = kept (number_in bs)

-- the text spells the number of the decimal
abbrev pub IsSpelled : List ℕ → Decimal → Type 0
IsSpelled bs d = (n : Number) × Spells bs n × IsSame n (number_of d)
