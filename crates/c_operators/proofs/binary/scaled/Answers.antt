use Rattle.std.proofs.Common.{rules, ◌≡◌, ◌^◌, ◌≤◌, ◌<◌, ℕ, ℤ, pos, ◌*ℤ◌, ◌<ℤ◌, ◌≤ℤ◌, FitsSigned, arith, ap, to_z, of_z}
use Rattle.std.specs.Prelude.{unsigned_abs, negsuc}
use Rattle.std.specs.Int.{w128}
use Rattle.std.proofs.lemmas.Int.{fits_signed_mul, to_z-of_z, ints}
use Rattle.std.proofs.Math.Pow.{pow_mono}
use Rattle.c_operators.proofs.binary.scaled.Goals as goal

abs_small : (x : ℤ) → x <ℤ pos (2 ^ 64) → negsuc 9223372036854775807 ≤ℤ x → unsigned_abs x ≤ 18446744073709551615
abs_small (pos n) h l = omega (arith, ints)
abs_small (negsuc n) h l = omega (arith, ints)

product_fits : (x : ℤ) (k : ℕ) → x <ℤ pos (2 ^ 64) → negsuc 9223372036854775807 ≤ℤ x → k < 64 → FitsSigned w128 (x *ℤ pos (2 ^ k))
product_fits x k h l few =
    let p : k ≤ 63 = omega arith in
    fits_signed_mul w128 x (pos (2 ^ k)) 18446744073709551615 (2 ^ 63) (abs_small x h l) (pow_mono p) (omega arith)

product : (x p : ℤ) (k : ℕ) → FitsSigned w128 x → FitsSigned w128 p → p ≡ pos (2 ^ k) → FitsSigned w128 (x *ℤ pos (2 ^ k)) → to_z w128 (of_z w128 (to_z w128 (of_z w128 x) *ℤ to_z w128 (of_z w128 p))) ≡ x *ℤ pos (2 ^ k)
product x p k f g e h =
    let h' : FitsSigned w128 (x *ℤ p) = rw e h in
    simp to_z-of_z (ap (λ q. x *ℤ q) e)

pub overflow_mul-result : goal.overflow_mul-result
overflow_mul-result c =
    let fits = product_fits c.args.value c.args.count c.requires.high c.requires.low c.requires.few in
    let f : FitsSigned w128 c.power.result = search rules in
    let v = c.ranges.value in
    simp to_z-of_z (rw c.power.ensures fits)

pub returns : goal.returns
returns c =
    product c.args.value c.power.result c.args.count c.ranges.value (search rules) c.power.ensures (product_fits c.args.value c.args.count c.requires.high c.requires.low c.requires.few)
