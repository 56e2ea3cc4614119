-- Two numbers in their common unit: the one with the lesser exponent as it is, the other with so many tens more.
use Rattle.std.proofs.Common.{◌≡◌, ℕ, zero, suc, ◌^◌, ℤ, pos, negsuc, neg_ℤ, ◌+ℤ◌, ◌-ℤ◌, ◌*ℤ◌, ◌≤ℤ◌, ◌<ℤ◌, refl, ap, ◌∙◌, arith}
use Rattle.std.proofs.lemmas.Int.{ints, clamps, by_lt_z}
use Rattle.std.proofs.Math.Nat.{mul-one}
use Rattle.limit_fraction.specs.Number.{Number, natural, in_unit, common_unit}

pub natural-pos : (z : ℤ) → pos 0 ≤ℤ z → z ≡ pos (natural z)
natural-pos (pos n) h = refl
natural-pos (negsuc n) h = absurd (omega (arith, ints))

-- how far e is above u
pub gap : (u e : ℤ) → u ≤ℤ e → e ≡ u +ℤ pos (natural (e -ℤ u))
gap u e h =
    let far : pos 0 ≤ℤ (e -ℤ u) = omega (arith, ints) in
    let same : e -ℤ u ≡ pos (natural (e -ℤ u)) = natural-pos (e -ℤ u) far in
    omega (arith, ints)

pub times_one : (z : ℤ) → z *ℤ pos 1 ≡ z
times_one (pos n) = ap pos (mul-one n)
times_one (negsuc n) = ap (λ (k : ℕ). neg_ℤ (pos k)) (mul-one (suc n))

pub in_unit-above : (u : ℤ) (n : Number) (k : ℕ) → n.exponent ≡ u +ℤ pos k → in_unit u n ≡ n.mantissa *ℤ pos (10 ^ k)
in_unit-above u n k h =
    let far : n.exponent -ℤ u ≡ pos k = omega (arith, ints) in
    ap (λ z. n.mantissa *ℤ pos (10 ^ natural z)) far

pub in_unit-same : (n : Number) → in_unit n.exponent n ≡ n.mantissa
in_unit-same n = in_unit-above n.exponent n 0 (omega (arith, ints)) ∙ times_one n.mantissa

common-first : (a b : Number) → a.exponent ≤ℤ b.exponent → common_unit a b ≡ a.exponent
common-first a b h = omega (arith, ints, clamps)

common-second : (a b : Number) → b.exponent ≤ℤ a.exponent → common_unit a b ≡ b.exponent
common-second a b h = omega (arith, ints, clamps)

-- b has the exponent of a, or k more
module _ (a b : Number) (k : ℕ) (above : b.exponent ≡ a.exponent +ℤ pos k) where
  pub lesser_first : in_unit (common_unit a b) a ≡ a.mantissa
  lesser_first = ap (λ u. in_unit u a) (common-first a b (omega (arith, ints))) ∙ in_unit-same a

  pub greater_second : in_unit (common_unit a b) b ≡ b.mantissa *ℤ pos (10 ^ k)
  greater_second = ap (λ u. in_unit u b) (common-first a b (omega (arith, ints))) ∙ in_unit-above a.exponent b k above

  pub lesser_second : in_unit (common_unit b a) a ≡ a.mantissa
  lesser_second = ap (λ u. in_unit u a) (common-second b a (omega (arith, ints))) ∙ in_unit-same a

  pub greater_first : in_unit (common_unit b a) b ≡ b.mantissa *ℤ pos (10 ^ k)
  greater_first = ap (λ u. in_unit u b) (common-second b a (omega (arith, ints))) ∙ in_unit-above a.exponent b k above

-- one of two numbers has the exponent of the other, or more
pub by_gap : {P : Type 0} (a b : Number) → ((k : ℕ) → b.exponent ≡ a.exponent +ℤ pos k → P) → ((k : ℕ) → a.exponent ≡ b.exponent +ℤ pos (suc k) → P) → P
by_gap {P} a b up down =
    by_lt_z b.exponent a.exponent
    (λ lt. at (natural (a.exponent -ℤ b.exponent)) (gap b.exponent a.exponent (omega (arith, ints))) lt)
    (λ le. up (natural (b.exponent -ℤ a.exponent)) (gap a.exponent b.exponent le))
  where
    at : (k : ℕ) → a.exponent ≡ b.exponent +ℤ pos k → b.exponent <ℤ a.exponent → P
    at zero e lt = absurd (omega (arith, ints))
    at (suc k) e lt = down k e
