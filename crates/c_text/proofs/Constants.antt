-- The texts of constants are read as the constants.
use Rattle.std.proofs.Common.{◌≡◌, ℕ, zero, suc, ◌^◌, ◌<◌, ◌≤◌, List, [], ◌∷◌, ◌++◌, length, get_or, Some, refl, arith, true, false, ◌==◌}
use Rattle.std.specs.Fmt.{decimal}
use Rattle.std.specs.Char.{digit_value}
use Rattle.std.specs.Str.Parse.{AllDigits, digits_value}
use Rattle.std.proofs.lemmas.Fmt.{decimal_is_IsNumeral, first_decimal, decimal_digit}
use Rattle.std.proofs.lemmas.Bool.{lt-ltb}
use Rattle.std.proofs.lemmas.Bool.Decides.{nat_tests}
use Rattle.std.proofs.Math.Seq.{drop-append_seam}
use Rattle.c_text.specs.declared.token.Constant.{Constant}
use Rattle.c_text.specs.declared.token.TokenKind.TheVariants.{Constant as Number}
use Rattle.c_text.specs.Characters.{is_digit, goes_on, first_passes, Pass}
use Rattle.c_text.specs.IntegerConstant.{Suffix, suffix_of, value_limit, in_base, constant_from, constant_in, constant_of}
use Rattle.c_text.specs.Piece.{token}
use Rattle.c_text.specs.Tokens.{kinds}
use Rattle.c_text.proofs.Boundary.{pass-append, take_while-all, goes_on_with_number, kinds-constant}

-- the text of a suffix, which is `refl` field by field for each one
pub record IsSuffix (bs : List ℕ) (s : Suffix) : Type 0 where
  pub is : suffix_of bs ≡ Some s
  pub go_on : Pass goes_on bs
  pub is_no_digit : first_passes (in_base 16) bs ≡ false

abbrev pub constant : ℕ → ℕ → Suffix → Constant
constant value base s = record { value = value; base = base; unsigned = s.unsigned; longs = s.longs }

-- ---- digits

digit-goes_on : (base c : ℕ) → base ≤ 16 → digit_value c < base → goes_on c ≡ true
digit-goes_on base c b h = grind (arith, nat_tests)

pub digits-go_on : (base : ℕ) (ds : List ℕ) → base ≤ 16 → AllDigits base ds → Pass goes_on ds
digits-go_on base [] b h = tt
digits-go_on base (d ∷ ds) b h = (digit-goes_on base d b h.0, digits-go_on base ds b h.1)

digits-in_base : (base : ℕ) (ds : List ℕ) → AllDigits base ds → Pass (in_base base) ds
digits-in_base base [] h = tt
digits-in_base base (d ∷ ds) h = (lt-ltb (digit_value d) base h.0, digits-in_base base ds h.1)

decimal-digit : (d : ℕ) → digit_value d < 10 → is_digit d ≡ true
decimal-digit d h = grind (arith, nat_tests)

no-digit : (base : ℕ) (bs : List ℕ) → base ≤ 16 → first_passes (in_base 16) bs ≡ false → first_passes (in_base base) bs ≡ false
no-digit base [] b h = refl
no-digit base (c ∷ cs) b h = grind (arith, nat_tests)

-- ---- digits and a suffix

pub from-digits : (base : ℕ) (ds : List ℕ) (s : Suffix) → 0 < length ds → digits_value base ds < 2 ^ 64 → constant_from base ds (Some s) ≡ Some (constant (digits_value base ds) base s)
unfolding value_limit
from-digits base [] s some small = absurd (omega arith)
from-digits base (d ∷ ds) s some small = rw (lt-ltb (digits_value base (d ∷ ds)) (2 ^ 64) small) refl

pub constant_in-digits : (base : ℕ) (ds bs : List ℕ) (s : Suffix) → base ≤ 16 → AllDigits base ds → 0 < length ds → digits_value base ds < 2 ^ 64 → IsSuffix bs s
    → constant_in base (ds ++ bs) ≡ Some (constant (digits_value base ds) base s)
constant_in-digits base ds bs s b all some small x =
    rw (take_while-all (in_base base) ds bs (digits-in_base base ds all) (no-digit base bs b x.is_no_digit), drop-append_seam, x.is) (from-digits base ds s some small)

-- ---- decimal constants

decimal-text : (ds bs rest : List ℕ) (s : Suffix) → AllDigits 10 ds → 0 < length ds → digits_value 10 ds < 2 ^ 64 → 48 < get_or ds 0 0 → IsSuffix bs s → first_passes goes_on_with_number rest ≡ false
    → kinds 0 ((ds ++ bs) ++ rest) ≡ token (Number (constant (digits_value 10 ds) 10 s)) ∷ kinds 0 rest
unfolding constant_of
decimal-text [] bs rest s all some small first x e = absurd (omega arith)
decimal-text (d ∷ ds) bs rest s all some small first x e =
    let not_zero : d == 48 ≡ false = grind (arith, nat_tests) in
    kinds-constant d (ds ++ bs) rest (constant (digits_value 10 (d ∷ ds)) 10 s) (decimal-digit d all.0)
    (pass-append goes_on ds bs (digits-go_on 10 ds (omega arith) all.1) x.go_on)
    (rw not_zero (constant_in-digits 10 (d ∷ ds) bs s (omega arith) all some small x)) e

-- behind the digit 0 a suffix leaves the number 0 of base 10
pub record IsSuffixOfZero (bs : List ℕ) (s : Suffix) : Type 0 where
  pub suffix : IsSuffix bs s
  pub zero_is : constant_of (48 ∷ bs) ≡ Some (constant 0 10 s)

pub kinds-zero : (bs rest : List ℕ) (s : Suffix) → IsSuffixOfZero bs s → first_passes goes_on_with_number rest ≡ false → kinds 0 ((48 ∷ bs) ++ rest) ≡ token (Number (constant 0 10 s)) ∷ kinds 0 rest
kinds-zero bs rest s x e = kinds-constant 48 bs rest (constant 0 10 s) refl x.suffix.go_on x.zero_is e

-- the decimal text of a number below 2^64, with a suffix
pub kinds-decimal : (v : ℕ) (bs rest : List ℕ) (s : Suffix) → v < 2 ^ 64 → IsSuffixOfZero bs s → first_passes goes_on_with_number rest ≡ false
    → kinds 0 ((decimal v ++ bs) ++ rest) ≡ token (Number (constant v 10 s)) ∷ kinds 0 rest
kinds-decimal zero bs rest s h x e = rw (decimal_digit 0 (omega arith)) (kinds-zero bs rest s x e)
kinds-decimal (suc n) bs rest s h x e =
    let i = decimal_is_IsNumeral (suc n) h in
    rw i.1 at (decimal-text (decimal (suc n)) bs rest s i.0.1 i.0.0 (rw i.1 h) (first_decimal (suc n) (omega arith) h) x.suffix e)

-- ---- hexadecimal constants

pub kinds-hexadecimal : (ds bs rest : List ℕ) (s : Suffix) → AllDigits 16 ds → 0 < length ds → digits_value 16 ds < 2 ^ 64 → IsSuffix bs s → first_passes goes_on_with_number rest ≡ false
    → kinds 0 (48 ∷ 120 ∷ ((ds ++ bs) ++ rest)) ≡ token (Number (constant (digits_value 16 ds) 16 s)) ∷ kinds 0 rest
unfolding constant_of
kinds-hexadecimal ds bs rest s all some small x e =
    kinds-constant 48 (120 ∷ (ds ++ bs)) rest (constant (digits_value 16 ds) 16 s) refl
    (refl, pass-append goes_on ds bs (digits-go_on 16 ds (omega arith) all) x.go_on)
    (constant_in-digits 16 ds bs s (omega arith) all some small x) e

-- ---- the suffixes

pub no-suffix : IsSuffixOfZero [] (record { unsigned = false; longs = 0 })
unfolding constant_of value_limit
no-suffix = record { suffix = record { is = refl; go_on = tt; is_no_digit = refl }; zero_is = refl }

pub u-suffix : IsSuffixOfZero (117 ∷ []) (record { unsigned = true; longs = 0 })
unfolding constant_of value_limit
u-suffix = record { suffix = record { is = refl; go_on = (refl, tt); is_no_digit = refl }; zero_is = refl }

pub l-suffix : IsSuffixOfZero (108 ∷ []) (record { unsigned = false; longs = 1 })
unfolding constant_of value_limit
l-suffix = record { suffix = record { is = refl; go_on = (refl, tt); is_no_digit = refl }; zero_is = refl }

pub ll-suffix : IsSuffixOfZero (108 ∷ 108 ∷ []) (record { unsigned = false; longs = 2 })
unfolding constant_of value_limit
ll-suffix = record { suffix = record { is = refl; go_on = (refl, (refl, tt)); is_no_digit = refl }; zero_is = refl }

pub ul-suffix : IsSuffixOfZero (117 ∷ 108 ∷ []) (record { unsigned = true; longs = 1 })
unfolding constant_of value_limit
ul-suffix = record { suffix = record { is = refl; go_on = (refl, (refl, tt)); is_no_digit = refl }; zero_is = refl }

pub ull-suffix : IsSuffixOfZero (117 ∷ 108 ∷ 108 ∷ []) (record { unsigned = true; longs = 2 })
unfolding constant_of value_limit
ull-suffix = record { suffix = record { is = refl; go_on = (refl, (refl, (refl, tt))); is_no_digit = refl }; zero_is = refl }
