-- The decimal of digits, a fraction and a tail, from what was read of each.
use Rattle.std.proofs.Common.{◌≡◌, ℕ, ◌+◌, ◌==◌, ◌<◌, Bool, true, false, List, ◌++◌, length, ℤ, pos, ◌-ℤ◌, Option, Some, None, option_map, if◌then◌else◌, Result, MatchResult, IsSomeAnd, refl, sym, ap, ◌∙◌, subst, arith}
use Rattle.std.proofs.lemmas.Bool.Decides.{nat_tests}
use Rattle.limit_fraction.specs.declared.number.Decimal.{Decimal}
use Rattle.limit_fraction.specs.Number.{units}
use Rattle.limit_fraction.specs.Digits.{value_after, signed, IsLong, IsAlike}
use Rattle.limit_fraction.specs.Reading.{digits_of, after_digits, fraction_of, after_fraction, exponent_of, number_from, number_behind, kept, decimal_for}
use Rattle.limit_fraction.proofs.Texts.{value_after-append}
use Rattle.limit_fraction.proofs.Keeping.{decimal_for-long}

pub kept-long : (negative : Bool) (whole fraction tail : List ℕ) → IsLong (value_after 0 (whole ++ fraction)) → kept (number_from negative whole fraction tail) ≡ None
kept-long negative whole fraction tail long = at (length whole + length fraction == 0) (exponent_of tail)
  where
    at : (t : Bool) (x : Option ℤ) → kept (if t then None else option_map (λ x. units (x -ℤ pos (length fraction)) (signed negative (value_after 0 (whole ++ fraction)))) x) ≡ None
    at true x = refl
    at false None = refl
    at false (Some x) = decimal_for-long negative _ (x -ℤ pos (length fraction)) long

pub kept-exponent : (negative : Bool) (whole fraction tail : List ℕ) (x : ℤ) → 0 < length whole + length fraction → exponent_of tail ≡ Some x → kept (number_from negative whole fraction tail) ≡ decimal_for (signed negative (value_after 0 (whole ++ fraction))) (x -ℤ pos (length fraction))
kept-exponent negative whole fraction tail x some e =
    let test : (length whole + length fraction == 0) ≡ false = grind (arith, nat_tests) in
    rw (test, e) refl

-- a decimal that may be there, as a function answers it
abbrev pub Answers : {E : Type 0} → Result Decimal E → Option Decimal → Type 0
Answers r o = MatchResult r (λ d. o ≡ Some d) (λ _. o ≡ None)

pub kept-read : {E : Type 0} (negative : Bool) (bytes behind tail : List ℕ) (value before fraction : ℕ) (e : ℤ) (r : Result Decimal E)
    → behind ≡ after_digits bytes → tail ≡ after_fraction behind → before ≡ value_after 0 (digits_of bytes) → value ≡ value_after before (fraction_of behind)
    → fraction ≡ length (fraction_of behind) → 0 < length (digits_of bytes) + length (fraction_of behind)
    → IsSomeAnd (exponent_of tail) (λ x. IsAlike x e)
    → ((x : ℤ) → IsAlike x e → Answers r (decimal_for (signed negative value) (x -ℤ pos fraction)))
    → Answers r (kept (number_behind negative bytes))
kept-read negative bytes behind tail value before fraction e r behind_is tail_is before_is value_is fraction_is some exponent answers =
    at (exponent_of tail) refl exponent
  where
    same : value ≡ value_after 0 (digits_of bytes ++ fraction_of behind)
    same = value_is ∙ ap (λ n. value_after n (fraction_of behind)) before_is ∙ sym (value_after-append 0 (digits_of bytes) (fraction_of behind))

    whole : (x : ℤ) → exponent_of tail ≡ Some x → kept (number_behind negative bytes) ≡ decimal_for (signed negative value) (x -ℤ pos fraction)
    whole x is =
        rw (← behind_is, ← tail_is) (kept-exponent negative (digits_of bytes) (fraction_of behind) tail x some is)
        ∙ (λ i. decimal_for (signed negative (sym same i)) (x -ℤ pos (sym fraction_is i)))

    at : (o : Option ℤ) → exponent_of tail ≡ o → IsSomeAnd o (λ x. IsAlike x e) → Answers r (kept (number_behind negative bytes))
    at None is h = absurd h
    at (Some x) is h = subst (Answers r) (sym (whole x is)) (answers x h)
