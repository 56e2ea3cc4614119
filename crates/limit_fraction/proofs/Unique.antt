-- The decimal that is kept for a number is the one that stands for it: taking tens off and putting them on keeps the number.
use Rattle.std.proofs.Common.{◌≡◌, ℕ, zero, suc, ◌*◌, ◌%◌, ◌^◌, ◌<◌, ◌≤◌, Bool, true, false, ℤ, pos, negsuc, ◌+ℤ◌, ◌*ℤ◌, unsigned_abs, int_lt, Some, refl, sym, ap, ◌∙◌, subst, arith}
use Rattle.std.proofs.lemmas.Int.{ints, unsigned_abs-mul}
use Rattle.std.proofs.Math.Nat.{mul-mod_left}
use native.Mathlib.Decide.{ℕ_discrete}
use Rattle.limit_fraction.specs.declared.number.Decimal.{Decimal}
use Rattle.limit_fraction.specs.Number.{Number, units, IsSame}
use Rattle.limit_fraction.specs.Digits.{signed}
use Rattle.limit_fraction.specs.Decimal.{number_of, zero_decimal, kept_if, kept_parts}
use Rattle.limit_fraction.specs.Reading.{without_tens, trimmed, decimal_for}
use Rattle.limit_fraction.proofs.Tens.{tens_suc, tens_pos, size_above}
use Rattle.limit_fraction.proofs.Keeping.{abs-signed, same_decimal, kept_parts-at, without_tens-value, decimal_for-tens}
use Rattle.limit_fraction.proofs.Signs.{signed-abs, signed-times}
use Rattle.limit_fraction.proofs.Units.{lesser_first, greater_second, lesser_second, greater_first, by_gap}

kept_if-parts : (m e : ℤ) (d : Decimal) (a : Dec (unsigned_abs m < 10 ^ 28)) (b : Dec (unsigned_abs e ≤ 400)) (c : Dec (unsigned_abs m % 10 ≡ 0)) → kept_if m e a b c ≡ Some d → (m ≡ d.mantissa) × (e ≡ d.exponent)
kept_if-parts m e d (yes short) (yes near) (no differs) h = (cc, cc)
kept_if-parts m e d (no long) b c h = cc
kept_if-parts m e d (yes short) (no far) c h = cc
kept_if-parts m e d (yes short) (yes near) (yes ten) h = cc

kept_parts-parts : (m e : ℤ) (d : Decimal) → kept_parts m e ≡ Some d → (m ≡ d.mantissa) × (e ≡ d.exponent)
unfolding kept_parts
kept_parts-parts m e d h = kept_if-parts m e d _ _ _ h

signed-tens : (negative : Bool) (n k : ℕ) → signed negative (n * k) ≡ signed negative n *ℤ pos k
signed-tens false n k = refl
signed-tens true zero k = omega (arith, ints)
signed-tens true (suc n) k = refl

-- ---- what is kept stands for the number

IsSame-tens : (a : Number) (d : Decimal) (k : ℕ) → d.exponent ≡ a.exponent +ℤ pos k → a.mantissa ≡ d.mantissa *ℤ pos (10 ^ k) → IsSame a (number_of d)
IsSame-tens a d k e m = lesser_first a (number_of d) k e ∙ m ∙ sym (greater_second a (number_of d) k e)

IsSame-trimmed : (negative : Bool) (n : ℕ) (e : ℤ) (d : Decimal) → trimmed negative (without_tens (suc n) (suc n)) e ≡ Some d → IsSame (units e (signed negative (suc n))) (number_of d)
IsSame-trimmed negative n e d h =
    let left = without_tens (suc n) (suc n) in
    let parts = kept_parts-parts (signed negative left.0) (e +ℤ pos left.1) d h in
    IsSame-tens (units e (signed negative (suc n))) d left.1 (sym parts.1)
    (ap (signed negative) (without_tens-value (suc n) (suc n)) ∙ signed-tens negative left.0 (10 ^ left.1) ∙ ap (λ m. m *ℤ pos (10 ^ left.1)) parts.0)

zero-same : (e : ℤ) → IsSame (units e (pos 0)) (number_of zero_decimal)
zero-same e = zero_times _ ∙ sym (zero_times _)
  where
    zero_times : (k : ℕ) → pos 0 *ℤ pos k ≡ pos 0
    zero_times k = ap pos (omega arith)

pub same_from_kept : (m e : ℤ) (d : Decimal) → decimal_for m e ≡ Some d → IsSame (units e m) (number_of d)
same_from_kept (pos zero) e d h = let same : zero_decimal ≡ d = cc in subst (λ x. IsSame (units e (pos 0)) (number_of x)) same (zero-same e)
same_from_kept (pos (suc n)) e d h = IsSame-trimmed false n e d h
same_from_kept (negsuc n) e d h = IsSame-trimmed true n e d h

-- ---- and nothing else does

zero_is : (m e : ℤ) (d : Decimal) → m ≡ pos 0 → d.mantissa ≡ pos 0 → unsigned_abs d.mantissa % 10 ≡ 0 → decimal_for m e ≡ Some d
zero_is m e d m_is d_is ten = ap (λ x. decimal_for x e) m_is ∙ ap Some (same_decimal zero_decimal d (sym d_is) (sym (d.kept.trimmed ten).1))

above_lesser : (m e : ℤ) (d : Decimal) (k : ℕ) → d.exponent ≡ e +ℤ pos k → m ≡ d.mantissa *ℤ pos (10 ^ k) → decimal_for m e ≡ Some d
above_lesser m e d k above is =
    elim (ℕ_discrete (unsigned_abs d.mantissa % 10) 0) [
      | yes ten ↦
          let zero_mantissa = (d.kept.trimmed ten).0 in
          zero_is m e d (is ∙ ap (λ x. x *ℤ pos (10 ^ k)) zero_mantissa ∙ ap pos (omega arith)) zero_mantissa ten
      | no differs ↦
          let negative = int_lt d.mantissa (pos 0) in
          ap (λ x. decimal_for x e) (is ∙ sym (signed-times d.mantissa (10 ^ k)))
          ∙ decimal_for-tens negative (unsigned_abs d.mantissa) k e differs
          ∙ kept_parts-at d _ _ (sym (signed-abs d.mantissa)) above (λ ten. differs (ap (λ n. n % 10) (sym (abs-signed negative (unsigned_abs d.mantissa))) ∙ ten))
    ]

below_greater : (m e : ℤ) (d : Decimal) (k : ℕ) → m *ℤ pos (10 ^ suc k) ≡ d.mantissa → decimal_for m e ≡ Some d
below_greater m e d k is =
    let size : unsigned_abs m * 10 ^ suc k ≡ unsigned_abs d.mantissa = sym (unsigned_abs-mul m (pos (10 ^ suc k))) ∙ ap unsigned_abs is in
    let ten : unsigned_abs d.mantissa % 10 ≡ 0 = ap (λ n. n % 10) (sym size ∙ tens_suc (unsigned_abs m) k) ∙ mul-mod_left (unsigned_abs m * 10 ^ k) 10 in
    let zero_mantissa = (d.kept.trimmed ten).0 in
    let none : unsigned_abs m ≡ 0 = omega (arith, size, ap unsigned_abs zero_mantissa, size_above (unsigned_abs m) (10 ^ suc k) (tens_pos (suc k))) in
    zero_is m e d (zero_from_abs m none) zero_mantissa ten
  where
    zero_from_abs : (z : ℤ) → unsigned_abs z ≡ 0 → z ≡ pos 0
    zero_from_abs (pos n) h = ap pos h
    zero_from_abs (negsuc n) h = absurd (omega arith)

pub kept_from_same : (n : Number) (d : Decimal) → IsSame n (number_of d) → decimal_for n.mantissa n.exponent ≡ Some d
kept_from_same n d same =
    by_gap n (number_of d)
    (λ k above. above_lesser n.mantissa n.exponent d k above (sym (lesser_first n (number_of d) k above) ∙ same ∙ greater_second n (number_of d) k above))
    (λ k below. below_greater n.mantissa n.exponent d k (sym (greater_first (number_of d) n (suc k) below) ∙ same ∙ lesser_second (number_of d) n (suc k) below))
