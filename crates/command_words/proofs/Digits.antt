-- Texts of digits as numbers.
use Rattle.std.proofs.Common.{◌≡◌, ℕ, zero, suc, ◌^◌, ◌<◌, ◌==◌, Bool, true, false, cond, List, [], ◌∷◌, length, Some, None, Result, Ok, Err, refl, sym, ap, ◌∙◌, arith}
use Rattle.std.specs.Prelude.{nat_lt}
use Rattle.std.specs.Result.{result_ok}
use Rattle.std.specs.Str.{all_ascii_digits, IsAscii, IsUtf8}
use Rattle.std.specs.Str.Parse.{digits_value, ParsesUnsigned}
use Rattle.std.proofs.lemmas.Bool.{lt-ltb, ltb-true}
use Rattle.std.proofs.lemmas.Str.{IsUtf8-from_ascii}
use Rattle.std.proofs.lemmas.Str.Parse.{IsNumeralModel, numerals_by_value, tells_all_ascii_digits, parse_digits}
use Rattle.command_words.specs.NumberWord.{whole_in}

own : IsNumeralModel (λ ds. all_ascii_digits ds ≡ true) (digits_value 10)
own = numerals_by_value (λ ds. all_ascii_digits ds ≡ true) tells_all_ascii_digits

digits-ascii : (ds : List ℕ) → all_ascii_digits ds ≡ true → IsAscii ds
digits-ascii [] h i = omega arith
digits-ascii (d ∷ ds) h zero = let parts = tells_all_ascii_digits.parts d ds h in omega (arith, parts.0)
digits-ascii (d ∷ ds) h (suc i) = digits-ascii ds (tells_all_ascii_digits.parts d ds h).1 i

pub digits_utf8 : (ds : List ℕ) → all_ascii_digits ds ≡ true → IsUtf8 ds
digits_utf8 ds h = IsUtf8-from_ascii ds (digits-ascii ds h)

-- by whether the number is below 2 ^ 64
by_size : (ds : List ℕ) (small : Bool) → all_ascii_digits ds ≡ true → (length ds == 0) ≡ false → nat_lt (digits_value 10 ds) (2 ^ 64) ≡ small
    → whole_in ds ≡ cond small (Some (digits_value 10 ds)) None
by_size ds small all some is = rw (some, all, is) refl

some-length : (ds : List ℕ) → (length ds == 0) ≡ false → 0 < length ds
some-length [] h = absurd (cc)
some-length (d ∷ ds) h = omega arith

large : (ds : List ℕ) → all_ascii_digits ds ≡ true → (length ds == 0) ≡ false → (small : Bool) → nat_lt (digits_value 10 ds) (2 ^ 64) ≡ small
    → ¬ ((0 < length ds) × (digits_value 10 ds < 2 ^ 64)) → None ≡ whole_in ds
large ds all some false is not = sym (by_size ds false all some is)
large ds all some true is not = absurd (not (some-length ds some, ltb-true _ _ is))

pub parsed_whole : {E : Type 0} (ds : List ℕ) (r : Result ℕ E) → ParsesUnsigned 64 10 ds r → all_ascii_digits ds ≡ true → (length ds == 0) ≡ false → result_ok r ≡ whole_in ds
parsed_whole {E} ds (Ok x) h all some =
    let is = parse_digits own {E = E} 64 ds (Ok x) h all in
    ap Some is.1 ∙ sym (by_size ds true all some (lt-ltb (digits_value 10 ds) (2 ^ 64) is.0.1))
parsed_whole {E} ds (Err e) h all some =
    let no = parse_digits own {E = E} 64 ds (Err e) h all in
    large ds all some (nat_lt (digits_value 10 ds) (2 ^ 64)) refl no
