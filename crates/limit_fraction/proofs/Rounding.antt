-- A limit in whole units: rounded towards the values that meet it.
use Rattle.std.proofs.Common.{◌≡◌, ◌^◌, ◌<◌, min, ◌↔◌, ℤ, pos, negsuc, neg_ℤ, ◌-ℤ◌, ◌≤ℤ◌, unsigned_abs, sym, ◌∙◌, subst, arith}
use Rattle.std.specs.Int.{int_min, int_div_euclid}
use Rattle.std.proofs.lemmas.Int.{ints, clamps}
use Rattle.limit_fraction.specs.Number.{Number, natural, in_unit, common_unit, units, IsAtMost}
use Rattle.limit_fraction.specs.Unit.{cut_off}
use Rattle.limit_fraction.proofs.Tens.{tens_pos}
use Rattle.limit_fraction.proofs.Units.{gap, in_unit-above, lesser_first, greater_second, lesser_second, greater_first}
use Rattle.limit_fraction.proofs.Quotients.{iff_then, iff_back, floor_is, product_tens, neg-times, turned}

pub cut-above : (x z : ℤ) → unsigned_abs x < 2 ^ 126 → (x ≤ℤ z) ↔ (x ≤ℤ cut_off z)
cut-above (pos a) (pos b) h = (λ l. omega (arith, ints), λ l. omega (arith, ints))
cut-above (pos a) (negsuc b) h = (λ l. absurd (omega (arith, ints)), λ l. absurd (omega (arith, ints)))
cut-above (negsuc a) (pos b) h = (λ l. omega (arith, ints), λ l. omega (arith, ints))
cut-above (negsuc a) (negsuc b) h = (λ l. omega (arith, ints), λ l. omega (arith, ints))

equal : {A B : Type 0} → A ≡ B → A ↔ B
equal e = (λ a. subst (λ X. X) e a, λ b. subst (λ X. X) (sym e) b)

-- a number in the unit or above it is whole there
pub most_above : (u x : ℤ) (n : Number) → u ≤ℤ n.exponent → unsigned_abs x < 2 ^ 126 → IsAtMost (units u x) n ↔ (x ≤ℤ cut_off (in_unit u n))
most_above u x n above small =
    let k = natural (n.exponent -ℤ u) in
    let far = gap u n.exponent above in
    iff_then (equal (λ i. lesser_first (units u x) n k far i ≤ℤ (greater_second (units u x) n k far ∙ sym (in_unit-above u n k far)) i))
    (cut-above x (in_unit u n) small)

-- a number below the unit is rounded down
pub most_below : (u x : ℤ) (n : Number) → n.exponent ≤ℤ u → unsigned_abs n.mantissa < 10 ^ 28
    → IsAtMost (units u x) n ↔ (x ≤ℤ int_div_euclid n.mantissa (pos (10 ^ min (natural (u -ℤ n.exponent)) 28)))
most_below u x n below short =
    let k = natural (u -ℤ n.exponent) in
    let far = gap n.exponent u below in
    iff_then (equal (λ i. greater_first n (units u x) k far i ≤ℤ lesser_second n (units u x) k far i))
    (iff_then (product_tens x n.mantissa k short) (floor_is x n.mantissa (10 ^ min k 28) (tens_pos (min k 28))))

-- ---- a minimum is a maximum with the signs turned

pub least_turned : (u x : ℤ) (n : Number) → IsAtMost n (units u x) ↔ IsAtMost (units u (neg_ℤ x)) (units n.exponent (neg_ℤ n.mantissa))
least_turned u x n =
    let unit : int_min u n.exponent ≡ int_min n.exponent u = omega (arith, ints, clamps) in
    iff_back (iff_then
    (equal (λ i. in_unit (unit i) (units u (neg_ℤ x)) ≤ℤ in_unit (unit i) (units n.exponent (neg_ℤ n.mantissa))))
    (iff_then (equal (λ i. neg-times x (10 ^ natural (u -ℤ common_unit n (units u x))) i ≤ℤ neg-times n.mantissa (10 ^ natural (n.exponent -ℤ common_unit n (units u x))) i))
    (turned (in_unit (common_unit n (units u x)) (units u x)) (in_unit (common_unit n (units u x)) n))))
