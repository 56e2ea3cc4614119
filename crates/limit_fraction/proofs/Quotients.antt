-- Rounded quotients: the greatest number whose product is at most a value, and the least whose product is at least it.
use Rattle.std.proofs.Common.{◌≡◌, ℕ, zero, suc, ◌*◌, ◌/◌, ◌^◌, ◌<◌, ◌≤◌, min, ◌↔◌, ⊎_elim, ℤ, pos, negsuc, neg_ℤ, ◌-ℤ◌, ◌*ℤ◌, ◌≤ℤ◌, ◌<ℤ◌, unsigned_abs, refl, sym, ap, ◌∙◌, subst, arith}
use Rattle.std.specs.Int.{int_div_euclid}
use Rattle.std.proofs.lemmas.Int.{ints}
use Rattle.std.proofs.lemmas.Bool.{cases_lt}
use Rattle.std.proofs.Math.Nat.{le-div_iff_mul-le, div-lt_iff_lt-mul, div-eq_of_lt, div-le_self}
use Rattle.std.proofs.Math.IntN.{*ℤ-zero, *ℤ-negsuc, neg_ℤ-neg_ℤ}
use Rattle.limit_fraction.proofs.Tens.{tens_pos, tens_rise}

pub iff_then : {A B C : Type 0} → (A ↔ B) → (B ↔ C) → (A ↔ C)
iff_then f g = (λ a. g.0 (f.0 a), λ c. f.1 (g.1 c))

pub iff_back : {A B : Type 0} → (A ↔ B) → (B ↔ A)
iff_back f = (f.1, f.0)

pub floor_is : (x m : ℤ) (p : ℕ) → 0 < p → ((x *ℤ pos p) ≤ℤ m) ↔ (x ≤ℤ int_div_euclid m (pos p))
floor_is (pos a) (pos b) p h = (
  (λ l. let product : a * p ≤ b = omega (arith, ints) in let quotient : a ≤ b / p = (le-div_iff_mul-le h).1 product in omega (arith, ints)),
  (λ l. let quotient : a ≤ b / p = omega (arith, ints) in let product : a * p ≤ b = (le-div_iff_mul-le h).0 quotient in omega (arith, ints)),
)
floor_is (pos a) (negsuc b) p h = (λ l. absurd (omega (arith, ints)), λ l. absurd (omega (arith, ints)))
floor_is (negsuc a) (pos b) p h = (λ l. omega (arith, ints), λ l. omega (arith, ints))
floor_is (negsuc a) (negsuc b) p h = (
  (λ l. let product : b < suc a * p = omega (arith, ints) in let quotient : b / p < suc a = (div-lt_iff_lt-mul h).1 product in omega (arith, ints)),
  (λ l. let quotient : b / p < suc a = omega (arith, ints) in let product : b < suc a * p = (div-lt_iff_lt-mul h).0 quotient in omega (arith, ints)),
)

pub floor_within : (m : ℤ) (p : ℕ) → unsigned_abs (int_div_euclid m (pos p)) ≤ unsigned_abs m
floor_within (pos b) p = div-le_self b p
floor_within (negsuc b) p = omega (arith, div-le_self b p)

-- a divisor above the number gives 0 or -1, whatever it is
floor_far : (m : ℤ) (p q : ℕ) → unsigned_abs m < p → unsigned_abs m < q → int_div_euclid m (pos p) ≡ int_div_euclid m (pos q)
floor_far (pos b) p q h k = ap pos (div-eq_of_lt h ∙ sym (div-eq_of_lt k))
floor_far (negsuc b) p q h k = ap negsuc (div-eq_of_lt (omega arith) ∙ sym (div-eq_of_lt (omega arith)))

pub floor_tens : (m : ℤ) (k : ℕ) → unsigned_abs m < 10 ^ 28 → int_div_euclid m (pos (10 ^ k)) ≡ int_div_euclid m (pos (10 ^ min k 28))
floor_tens m k h =
    ⊎_elim (λ far. let same : min k 28 ≡ 28 = omega arith in rw same (floor_far m (10 ^ k) (10 ^ 28) (omega (arith, tens_rise 28 k (omega arith))) h))
    (λ near. let same : min k 28 ≡ k = omega arith in rw same refl) (cases_lt 28 k)

-- the divisor may be cut off at 10^28
pub product_tens : (x m : ℤ) (k : ℕ) → unsigned_abs m < 10 ^ 28 → ((x *ℤ pos (10 ^ k)) ≤ℤ m) ↔ ((x *ℤ pos (10 ^ min k 28)) ≤ℤ m)
product_tens x m k h =
    iff_then (subst (λ q. ((x *ℤ pos (10 ^ k)) ≤ℤ m) ↔ (x ≤ℤ q)) (floor_tens m k h) (floor_is x m (10 ^ k) (tens_pos k)))
    (iff_back (floor_is x m (10 ^ min k 28) (tens_pos (min k 28))))

-- ---- the other side, by turning the signs

pub neg-times : (v : ℤ) (p : ℕ) → neg_ℤ v *ℤ pos p ≡ neg_ℤ (v *ℤ pos p)
neg-times (pos zero) p = omega (arith, ints)
neg-times (pos (suc n)) p = refl
neg-times (negsuc n) p = omega (arith, ints)

pub turned : (x y : ℤ) → (neg_ℤ x ≤ℤ neg_ℤ y) ↔ (y ≤ℤ x)
turned x y = (λ h. omega (arith, ints), λ h. omega (arith, ints))

pub turned_left : (x y : ℤ) → (neg_ℤ x ≤ℤ y) ↔ (neg_ℤ y ≤ℤ x)
turned_left x y = (λ h. omega (arith, ints), λ h. omega (arith, ints))

pub zero_minus : (z : ℤ) → pos 0 -ℤ z ≡ neg_ℤ z
zero_minus z = omega (arith, ints)

pub iff_both : {A A' B B' : Type 0} → (A ↔ A') → (B ↔ B') → (A × B) ↔ (A' × B')
iff_both f g = (λ h. (f.0 h.0, g.0 h.1), λ h. (f.1 h.0, g.1 h.1))

-- ---- products with a positive factor, and with any

pub rising_least : (v y factor : ℤ) → pos 0 <ℤ factor → (neg_ℤ (int_div_euclid (neg_ℤ y) factor) ≤ℤ v) ↔ (y ≤ℤ (v *ℤ factor))
rising_least v y (pos p) h =
    iff_then (turned_left (int_div_euclid (neg_ℤ y) (pos p)) v)
    (iff_then (iff_back (floor_is (neg_ℤ v) (neg_ℤ y) p (omega (arith, ints))))
    (subst (λ z. (z ≤ℤ neg_ℤ y) ↔ (y ≤ℤ (v *ℤ pos p))) (sym (neg-times v p)) (turned (v *ℤ pos p) y)))
rising_least v y (negsuc n) h = absurd (omega (arith, ints))

pub rising_greatest : (v y factor : ℤ) → pos 0 <ℤ factor → (v ≤ℤ int_div_euclid y factor) ↔ ((v *ℤ factor) ≤ℤ y)
rising_greatest v y (pos p) h = iff_back (floor_is v y p (omega (arith, ints)))
rising_greatest v y (negsuc n) h = absurd (omega (arith, ints))

pub times-neg : (v factor : ℤ) → v *ℤ neg_ℤ factor ≡ neg_ℤ (v *ℤ factor)
times-neg v (pos zero) = *ℤ-zero v ∙ ap neg_ℤ (sym (*ℤ-zero v))
times-neg v (pos (suc n)) = *ℤ-negsuc v n
times-neg v (negsuc n) = sym (ap neg_ℤ (*ℤ-negsuc v n) ∙ neg_ℤ-neg_ℤ (v *ℤ pos (suc n)))

pub between_turned : (v factor least greatest : ℤ) → ((neg_ℤ greatest ≤ℤ (v *ℤ neg_ℤ factor)) × ((v *ℤ neg_ℤ factor) ≤ℤ neg_ℤ least)) ↔ ((least ≤ℤ (v *ℤ factor)) × ((v *ℤ factor) ≤ℤ greatest))
between_turned v factor least greatest =
    subst (λ z. ((neg_ℤ greatest ≤ℤ z) × (z ≤ℤ neg_ℤ least)) ↔ ((least ≤ℤ (v *ℤ factor)) × ((v *ℤ factor) ≤ℤ greatest))) (sym (times-neg v factor))
    ((λ h. ((turned (v *ℤ factor) least).0 h.1, (turned greatest (v *ℤ factor)).0 h.0)), (λ h. ((turned greatest (v *ℤ factor)).1 h.1, (turned (v *ℤ factor) least).1 h.0)))
