-- A decimal is whole where its exponent is not negative: a lesser exponent leaves a digit behind the point.
use Rattle.std.proofs.Common.{◌≡◌, suc, ◌*◌, ◌%◌, ◌^◌, ◌≤◌, Bool, true, false, ℤ, pos, negsuc, ◌+ℤ◌, ◌*ℤ◌, unsigned_abs, nat_le, Option, Some, None, IfSome, if◌then◌else◌, refl, sym, ap, ◌∙◌, arith}
use Rattle.std.proofs.lemmas.Int.{ints, unsigned_abs-mul}
use Rattle.std.proofs.lemmas.Bool.Decides.{nat_tests}
use Rattle.std.proofs.Math.Nat.{mul-mod_left}
use Rattle.limit_fraction.specs.declared.number.Decimal.{Decimal}
use Rattle.limit_fraction.specs.Number.{units, IsSame}
use Rattle.limit_fraction.specs.Decimal.{number_of, within_64, whole_at, whole_of}
use Rattle.limit_fraction.proofs.Tens.{tens_suc}
use Rattle.limit_fraction.proofs.Units.{lesser_first, greater_second, lesser_second, greater_first, by_gap}

within-same : (z w : ℤ) → within_64 z ≡ Some w → (z ≡ w) × (unsigned_abs w ≤ 2 ^ 64)
within-same z w h = at (nat_le (unsigned_abs z) (2 ^ 64)) refl h
  where
    at : (t : Bool) → nat_le (unsigned_abs z) (2 ^ 64) ≡ t → (if t then Some z else None) ≡ Some w → (z ≡ w) × (unsigned_abs w ≤ 2 ^ 64)
    at true small same =
        let e : z ≡ w = cc in
        let bound : unsigned_abs z ≤ 2 ^ 64 = grind (arith, nat_tests) in
        (e, rw e at bound)
    at false large same = cc

within-some : (z : ℤ) → unsigned_abs z ≤ 2 ^ 64 → within_64 z ≡ Some z
within-some z h = let small : nat_le (unsigned_abs z) (2 ^ 64) ≡ true = grind (arith, nat_tests) in rw small refl

pub whole-same : (d : Decimal) (z : ℤ) → whole_of d ≡ Some z → IsSame (units (pos 0) z) (number_of d) × (unsigned_abs z ≤ 2 ^ 64)
whole-same d z h = at d.exponent refl h
  where
    at : (e : ℤ) → d.exponent ≡ e → whole_at d.mantissa e ≡ Some z → IsSame (units (pos 0) z) (number_of d) × (unsigned_abs z ≤ 2 ^ 64)
    at (pos e) is some =
        let same = within-same (d.mantissa *ℤ pos (10 ^ e)) z some in
        let above : d.exponent ≡ pos 0 +ℤ pos e = omega (arith, ints) in
        (lesser_first (units (pos 0) z) (number_of d) e above ∙ sym same.0 ∙ sym (greater_second (units (pos 0) z) (number_of d) e above), same.1)
    at (negsuc e) is some = cc

pub whole-only : (d : Decimal) (z : ℤ) → unsigned_abs z ≤ 2 ^ 64 → IsSame (units (pos 0) z) (number_of d) → whole_of d ≡ Some z
whole-only d z small same =
    by_gap (units (pos 0) z) (number_of d)
    (λ k above.
    let exponent : d.exponent ≡ pos k = omega (arith, ints) in
    let value : z ≡ d.mantissa *ℤ pos (10 ^ k) = sym (lesser_first (units (pos 0) z) (number_of d) k above) ∙ same ∙ greater_second (units (pos 0) z) (number_of d) k above in
    ap (whole_at d.mantissa) exponent ∙ ap within_64 (sym value) ∙ within-some z small)
    (λ k below.
    let value : z *ℤ pos (10 ^ suc k) ≡ d.mantissa = sym (greater_first (number_of d) (units (pos 0) z) (suc k) below) ∙ same ∙ lesser_second (number_of d) (units (pos 0) z) (suc k) below in
    let size : unsigned_abs z * 10 ^ suc k ≡ unsigned_abs d.mantissa = sym (unsigned_abs-mul z (pos (10 ^ suc k))) ∙ ap unsigned_abs value in
    let ten : unsigned_abs d.mantissa % 10 ≡ 0 = ap (λ n. n % 10) (sym size ∙ tens_suc (unsigned_abs z) k) ∙ mul-mod_left (unsigned_abs z * 10 ^ k) 10 in
    let none = (d.kept.trimmed ten).1 in
    absurd (omega (arith, ints, none, below)))

-- ---- as an answer

pub whole-answer : (d : Decimal) (r : Option ℤ) → r ≡ whole_of d → IfSome r (λ z. IsSame (units (pos 0) z) (number_of d))
whole-answer d None h = tt
whole-answer d (Some z) h = (whole-same d z (sym h)).0

pub within-answer : (d : Decimal) (r : Option ℤ) → r ≡ whole_of d → IfSome r (λ z. unsigned_abs z ≤ 2 ^ 64)
within-answer d None h = tt
within-answer d (Some z) h = (whole-same d z (sym h)).1
