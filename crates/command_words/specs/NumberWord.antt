-- Numbers in words: decimal digits, with a sign before them or none.
use Rattle.std.specs.Prelude.{ℕ, ◌^◌, ◌==◌, Bool, not, ◌&&◌, nat_lt, if◌then◌else◌, List, length, codes, Option, Some, None, ℤ, pos, neg_ℤ}
use Rattle.std.specs.Str.{all_ascii_digits}
use Rattle.std.specs.Str.Parse.{digits_value}
use Rattle.std.specs.Option.{option_map}
use Rattle.command_words.specs.CutWord.{behind}

-- one digit or more, of a number below 2 ^ 64
abbrev pub is_whole : List ℕ → Bool
is_whole digits = not (length digits == 0) && (all_ascii_digits digits && nat_lt (digits_value 10 digits) (2 ^ 64))

abbrev pub whole_in : List ℕ → Option ℕ
whole_in digits = if is_whole digits then Some (digits_value 10 digits) else None

-- by what stands behind a `-`, where the word begins with one
abbrev pub signed_in : List ℕ → Option (List ℕ) → Option ℤ
signed_in word None = option_map pos (whole_in word)
signed_in word (Some digits) = option_map (λ n. neg_ℤ (pos n)) (whole_in digits)

abbrev pub number_in : List ℕ → Option ℤ
number_in word = signed_in word (behind (codes "-") word)

-- one digit or more
abbrev pub are_some_digits : List ℕ → Bool
are_some_digits digits = not (length digits == 0) && all_ascii_digits digits

-- by what stands behind a `-`, where the word begins with one
abbrev pub is_number_behind : List ℕ → Option (List ℕ) → Bool
is_number_behind word None = are_some_digits word
is_number_behind word (Some digits) = are_some_digits digits

-- a decimal whole number, of any size
abbrev pub is_number : List ℕ → Bool
is_number word = is_number_behind word (behind (codes "-") word)
