-- The decimal that is kept for a number: all tens are taken off, and what is left is unique.
use Rattle.std.proofs.Common.{◌≡◌, ◌≢◌, ℕ, zero, suc, ◌+◌, ◌*◌, ◌/◌, ◌%◌, ◌^◌, ◌<◌, ◌≤◌, Bool, true, false, ℤ, pos, ◌+ℤ◌, unsigned_abs, Some, None, arith, refl, sym, ap, ◌∙◌, subst, lit<}
use Rattle.std.proofs.Math.Numerals.{add-one}
use Rattle.std.proofs.Math.Nat.{mul-one, mul-mod_left, mul-div_cancel, pow-suc}
use Rattle.std.proofs.Props.{props}
use native.Mathlib.Decide.{ℕ_discrete}
use Rattle.limit_fraction.specs.declared.number.Decimal.{Decimal}
use Rattle.limit_fraction.specs.Number.{IsKept}
use Rattle.limit_fraction.specs.Digits.{signed, IsLong}
use Rattle.limit_fraction.specs.Decimal.{zero_decimal, kept_if, kept_parts}
use Rattle.limit_fraction.specs.Reading.{without_tens, trimmed, decimal_for}
use Rattle.limit_fraction.proofs.Tens.{tens_pos, tens_step, tens_suc, size_above}

pub abs-signed : (negative : Bool) (n : ℕ) → unsigned_abs (signed negative n) ≡ n
abs-signed false n = refl
abs-signed true zero = refl
abs-signed true (suc n) = refl

-- ---- taking tens off

pub without_tens-more : (most n : ℕ) → n % 10 ≡ 0 → without_tens (suc most) n ≡ ((without_tens most (n / 10)).0, (without_tens most (n / 10)).1 + 1)
unfolding without_tens
without_tens-more most n e = rw (e, without_tens) refl

pub without_tens-end : (most n : ℕ) → n % 10 ≢ 0 → without_tens (suc most) n ≡ (n, 0)
unfolding without_tens
without_tens-end most n differs =
    elim (n % 10) as (λ r. n % 10 ≡ r → without_tens (suc most) n ≡ (n, 0)) [
      | zero ↦ λ e. absurd (differs e)
      | suc k ↦ λ e. rw (e, without_tens) refl
    ] refl

without_tens-none : (n : ℕ) → n ≡ (without_tens zero n).0 * 10 ^ (without_tens zero n).1
unfolding without_tens
without_tens-none n = sym (mul-one n)

-- what is left times the tens is the number
pub without_tens-value : (most n : ℕ) → n ≡ (without_tens most n).0 * 10 ^ (without_tens most n).1
without_tens-value zero n = without_tens-none n
without_tens-value (suc most) n =
    elim (ℕ_discrete (n % 10) 0) [
      | yes e ↦ rw (without_tens-more most n e) (more (without_tens most (n / 10)).0 (without_tens most (n / 10)).1 (without_tens-value most (n / 10)) e)
      | no differs ↦ rw (without_tens-end most n differs) (sym (mul-one n))
    ]
  where
    more : (m z : ℕ) → n / 10 ≡ m * 10 ^ z → n % 10 ≡ 0 → n ≡ m * 10 ^ (z + 1)
    more m z e h = omega (arith, tens_step m z)

below_tens : (z : ℕ) → z < 10 ^ z
below_tens zero = lit< tt
below_tens (suc z) = omega (arith, below_tens z, pow-suc 10 z)

-- all tens are taken off
pub without_tens_is : (most m z : ℕ) → m % 10 ≢ 0 → z < most → without_tens most (m * 10 ^ z) ≡ (m, z)
without_tens_is zero m z differs h = elim h [ ]
without_tens_is (suc most) m zero differs h = rw (mul-one m) (without_tens-end most m differs)
without_tens_is (suc most) m (suc z) differs h =
    let ten : m * 10 ^ suc z ≡ m * 10 ^ z * 10 = tens_suc m z in
    rw (ten, without_tens-more most (m * 10 ^ z * 10) (mul-mod_left (m * 10 ^ z) 10), mul-div_cancel (m * 10 ^ z) (lit< tt), without_tens_is most m z differs (omega arith)) (ap (λ k. (m, k)) (add-one z))

pub without_tens-all : (m z n : ℕ) → m % 10 ≢ 0 → n ≡ m * 10 ^ z → without_tens n n ≡ (m, z)
without_tens-all m z n differs e = subst (λ k. without_tens k k ≡ (m, z)) (sym e) (without_tens_is (m * 10 ^ z) m z differs (enough m differs))
  where
    enough : (m : ℕ) → m % 10 ≢ 0 → z < m * 10 ^ z
    enough zero differs = absurd (differs refl)
    enough (suc m) differs = omega (arith, below_tens z)

-- ---- what is kept

kept_same : (m e : ℤ) (a b : IsKept m e) → a ≡ b
kept_same m e = hlevel props

-- decimals of the same parts are the same
pub same_decimal : (a b : Decimal) → a.mantissa ≡ b.mantissa → a.exponent ≡ b.exponent → a ≡ b
same_decimal a b p q =
    subst (λ (m : ℤ). (kept : IsKept m b.exponent) → a ≡ record { mantissa = m; exponent = b.exponent; kept = kept }) p
    (subst (λ (e : ℤ). (kept : IsKept a.mantissa e) → a ≡ record { mantissa = a.mantissa; exponent = e; kept = kept }) q
    (λ kept i. record { mantissa = a.mantissa; exponent = a.exponent; kept = kept_same a.mantissa a.exponent a.kept kept i }))
    b.kept

kept_if-of : (d : Decimal) (a : Dec (unsigned_abs d.mantissa < 10 ^ 28)) (b : Dec (unsigned_abs d.exponent ≤ 400)) (c : Dec (unsigned_abs d.mantissa % 10 ≡ 0)) → unsigned_abs d.mantissa % 10 ≢ 0 → kept_if d.mantissa d.exponent a b c ≡ Some d
kept_if-of d (yes short) (yes near) (no differs) h = λ i. Some (record { mantissa = d.mantissa; exponent = d.exponent; kept = kept_same d.mantissa d.exponent (record { trimmed = λ ten. absurd (differs ten); short = short; near = near }) d.kept i })
kept_if-of d (no long) b c h = absurd (long d.kept.short)
kept_if-of d (yes short) (no far) c h = absurd (far d.kept.near)
kept_if-of d (yes short) (yes near) (yes ten) h = absurd (h ten)

-- a decimal other than 0 is kept as it is
pub kept_parts-of : (d : Decimal) → unsigned_abs d.mantissa % 10 ≢ 0 → kept_parts d.mantissa d.exponent ≡ Some d
unfolding kept_parts
kept_parts-of d differs = kept_if-of d _ _ _ differs

-- the same, with the parts given
pub kept_parts-at : (d : Decimal) (m e : ℤ) → d.mantissa ≡ m → d.exponent ≡ e → unsigned_abs m % 10 ≢ 0 → kept_parts m e ≡ Some d
kept_parts-at d m e p q differs =
    sym (λ i. kept_parts (p i) (q i)) ∙ kept_parts-of d (λ ten. differs (ap (λ x. unsigned_abs x % 10) (sym p) ∙ ten))

kept_if-far : (m e : ℤ) (a : Dec (unsigned_abs m < 10 ^ 28)) (b : Dec (unsigned_abs e ≤ 400)) (c : Dec (unsigned_abs m % 10 ≡ 0)) → 400 < unsigned_abs e → kept_if m e a b c ≡ None
kept_if-far m e (yes short) (yes near) (no differs) h = absurd (omega arith)
kept_if-far m e (no long) b c h = refl
kept_if-far m e (yes short) (no far) c h = refl
kept_if-far m e (yes short) (yes near) (yes ten) h = refl

pub kept_parts-far : (m e : ℤ) → 400 < unsigned_abs e → kept_parts m e ≡ None
unfolding kept_parts
kept_parts-far m e far = kept_if-far m e _ _ _ far

kept_if-long : (m e : ℤ) (a : Dec (unsigned_abs m < 10 ^ 28)) (b : Dec (unsigned_abs e ≤ 400)) (c : Dec (unsigned_abs m % 10 ≡ 0)) → 10 ^ 28 ≤ unsigned_abs m → kept_if m e a b c ≡ None
kept_if-long m e (yes short) (yes near) (no differs) h = absurd (omega arith)
kept_if-long m e (no long) b c h = refl
kept_if-long m e (yes short) (no far) c h = refl
kept_if-long m e (yes short) (yes near) (yes ten) h = refl

pub kept_parts-long : (m e : ℤ) → 10 ^ 28 ≤ unsigned_abs m → kept_parts m e ≡ None
unfolding kept_parts
kept_parts-long m e long = kept_if-long m e _ _ _ long

-- ---- the decimal for a number

decimal_for-suc : (negative : Bool) (n : ℕ) (e : ℤ) → decimal_for (signed negative (suc n)) e ≡ trimmed negative (without_tens (suc n) (suc n)) e
decimal_for-suc false n e = refl
decimal_for-suc true n e = refl

pub decimal_for-zero : (negative : Bool) (n : ℕ) (e : ℤ) → n ≡ 0 → decimal_for (signed negative n) e ≡ Some zero_decimal
decimal_for-zero false n e z = rw z refl
decimal_for-zero true n e z = rw z refl

-- a mantissa that ten does not divide is what is left
pub decimal_for-tens : (negative : Bool) (m z : ℕ) (e : ℤ) → m % 10 ≢ 0 → decimal_for (signed negative (m * 10 ^ z)) e ≡ kept_parts (signed negative m) (e +ℤ pos z)
decimal_for-tens negative m z e differs = at (m * 10 ^ z) refl
  where
    at : (n : ℕ) → n ≡ m * 10 ^ z → decimal_for (signed negative n) e ≡ kept_parts (signed negative m) (e +ℤ pos z)
    at zero same = absurd (differs (omega (arith, tens_pos z, size_above m (10 ^ z) (tens_pos z))))
    at (suc n) same = decimal_for-suc negative n e ∙ ap (λ r. trimmed negative r e) (without_tens-all m z (suc n) differs same)

-- a long number is not kept
pub decimal_for-long : (negative : Bool) (n : ℕ) (e : ℤ) → IsLong n → decimal_for (signed negative n) e ≡ None
decimal_for-long negative zero e h = absurd (omega (arith, h.long 0 0 refl))
decimal_for-long negative (suc n) e h =
    let left = without_tens (suc n) (suc n) in
    decimal_for-suc negative n e ∙ kept_parts-long (signed negative left.0) (e +ℤ pos left.1) (rw (abs-signed negative left.0) (h.long left.0 left.1 (without_tens-value (suc n) (suc n))))
