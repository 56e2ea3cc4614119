-- A whole number is its size with its sign.
use Rattle.std.proofs.Common.{◌≡◌, ℕ, zero, suc, ◌*◌, ◌^◌, ◌<◌, ◌≤◌, FitsSigned, min, false, true, ℤ, pos, negsuc, neg_ℤ, ◌*ℤ◌, int_lt, unsigned_abs, refl, ap, arith}
use Rattle.std.specs.Int.{w128}
use Rattle.std.proofs.lemmas.Int.{ints, fits_signed_from_abs}
use Rattle.limit_fraction.specs.Digits.{signed}
use Rattle.limit_fraction.specs.Unit.{cut_off}

not_negative : (n : ℕ) → int_lt (pos n) (pos 0) ≡ false
not_negative n = grind (arith, ints)

pub signed-abs : (z : ℤ) → signed (int_lt z (pos 0)) (unsigned_abs z) ≡ z
signed-abs (pos n) = rw (not_negative n) refl
signed-abs (negsuc n) = refl

pub signed-times : (z : ℤ) (k : ℕ) → signed (int_lt z (pos 0)) (unsigned_abs z * k) ≡ z *ℤ pos k
signed-times (pos n) k = rw (not_negative n) refl
signed-times (negsuc n) k = refl

-- a cut of the size is a cut of the number
pub signed-cut : (z : ℤ) (k : ℕ) → signed (int_lt z (pos 0)) (min (unsigned_abs z * k) (2 ^ 126)) ≡ cut_off (z *ℤ pos k)
signed-cut (pos n) k = rw (not_negative n) refl
signed-cut (negsuc n) k = at (suc n * k)
  where
    at : (size : ℕ) → signed true (min size (2 ^ 126)) ≡ cut_off (neg_ℤ (pos size))
    at zero = refl
    at (suc size) = refl

pub abs-cut : (z : ℤ) → unsigned_abs (cut_off z) ≡ min (unsigned_abs z) (2 ^ 126)
abs-cut (pos n) = refl
abs-cut (negsuc n) = at (min (suc n) (2 ^ 126))
  where
    at : (size : ℕ) → unsigned_abs (neg_ℤ (pos size)) ≡ size
    at zero = refl
    at (suc size) = refl

pub cut-small : (z : ℤ) → unsigned_abs z ≤ 2 ^ 126 → cut_off z ≡ z
cut-small (pos n) h = ap pos (omega arith)
cut-small (negsuc n) h = let same : min (suc n) (2 ^ 126) ≡ suc n = omega arith in ap (λ (k : ℕ). neg_ℤ (pos k)) same

pub abs-neg : (z : ℤ) → unsigned_abs (neg_ℤ z) ≡ unsigned_abs z
abs-neg (pos zero) = refl
abs-neg (pos (suc n)) = refl
abs-neg (negsuc n) = refl

pub neg-fits : (z : ℤ) → unsigned_abs z < 2 ^ 127 → FitsSigned w128 (neg_ℤ z)
neg-fits z h = fits_signed_from_abs w128 (neg_ℤ z) (omega (arith, abs-neg z))
