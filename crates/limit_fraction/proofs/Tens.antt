-- Powers of ten: they grow, one more power is one more factor, and a digit behind a number ends its tens.
use Rattle.std.proofs.Common.{◌≡◌, ◌≢◌, ℕ, zero, suc, ◌+◌, ◌*◌, ◌%◌, ◌^◌, ◌<◌, ◌≤◌, min, arith, sym, ap, ◌∙◌, lit<, lt_of_le_of_lt}
use Rattle.std.proofs.Math.Nat.{pow-le-pow_right, one-le-pow, pow-suc, mul_assoc, mul-one}
use Rattle.std.proofs.Math.Numerals.{add-one}
use Rattle.limit_fraction.specs.Digits.{IsLong}

pub tens_pos : (k : ℕ) → 0 < 10 ^ k
tens_pos k = one-le-pow k 10 (lit< tt)

pub tens_rise : (i k : ℕ) → i ≤ k → 10 ^ i ≤ 10 ^ k
tens_rise i k h = pow-le-pow_right (lit< tt) h

pub tens_fit : (k : ℕ) → k ≤ 38 → 10 ^ k < 2 ^ 128
tens_fit k h = lt_of_le_of_lt (tens_rise k 38 h) (lit< tt)

pub tens_suc : (n k : ℕ) → n * 10 ^ suc k ≡ n * 10 ^ k * 10
tens_suc n k = ap (λ x. n * x) (pow-suc 10 k) ∙ sym (mul_assoc n (10 ^ k) 10)

pub tens_step : (n k : ℕ) → n * 10 ^ (k + 1) ≡ n * 10 ^ k * 10
tens_step n k = ap (λ x. n * 10 ^ x) (add-one k) ∙ tens_suc n k

pub size_above : (p n : ℕ) → 0 < n → p ≤ n * p
size_above p zero h = elim h [ ]
size_above p (suc n) h = omega arith

pub tens_above : (n k : ℕ) → 0 < n → 38 < k → 2 ^ 126 ≤ n * 10 ^ k
tens_above n k pos far = omega (arith, tens_rise 39 k far, size_above (10 ^ k) n pos)

-- a digit that is cut off at 2^126 is not cut off below 10^28
pub digit_behind : (v d x y : ℕ) → x ≡ min (v * 10) (2 ^ 126) → y ≡ d → x + y < 10 ^ 28 → x + y ≡ v * 10 + d
digit_behind v d x y e f h = omega arith

pub no_tens : (v d : ℕ) → d ≢ 0 → d < 10 → (v * 10 + d) % 10 ≢ 0
no_tens v d differs small h = omega arith

pub IsLong-digit : (v d x y : ℕ) → d ≢ 0 → d < 10 → x ≡ min (v * 10) (2 ^ 126) → y ≡ d → 10 ^ 28 ≤ x + y → IsLong (v * 10 + d)
IsLong-digit v d x y differs small e f h = record { long = at }
  where
    at : (m z : ℕ) → v * 10 + d ≡ m * 10 ^ z → 10 ^ 28 ≤ m
    at m zero same = omega (arith, mul-one m)
    at m (suc z) same = absurd (no_tens v d differs small (omega (arith, tens_suc m z)))

-- one more digit leaves a long number long
pub IsLong-more : (n d : ℕ) → d < 10 → IsLong n → IsLong (n * 10 + d)
IsLong-more n d small h = record { long = at }
  where
    at : (m z : ℕ) → n * 10 + d ≡ m * 10 ^ z → 10 ^ 28 ≤ m
    at m zero same = omega (arith, mul-one m, h.long n zero (sym (mul-one n)))
    at m (suc z) same = h.long m z (omega (arith, tens_suc m z))

pub tens_uncut : (k : ℕ) → min (1 * 10 ^ min k 28) (2 ^ 126) ≡ 10 ^ min k 28
tens_uncut k = omega (arith, tens_rise (min k 28) 28 (omega arith))
