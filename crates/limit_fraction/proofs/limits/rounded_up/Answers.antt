-- A limit is rounded up where its opposite is rounded down.
use Rattle.std.proofs.Common.{pos, neg_ℤ, ◌-ℤ◌, ◌≡◌, ◌↔◌, ◌≤ℤ◌, subst, FitsSigned, rules, arith}
use Rattle.std.specs.Int.{w16, w128}
use Rattle.std.proofs.lemmas.Int.{to_z-of_z}
use Rattle.limit_fraction.specs.Number.{Number, units, IsAtMost}
use Rattle.limit_fraction.specs.Decimal.{number_of}
use Rattle.limit_fraction.proofs.Signs.{abs-neg, neg-fits}
use Rattle.limit_fraction.proofs.Quotients.{iff_then, turned_left, zero_minus}
use Rattle.limit_fraction.proofs.Rounding.{least_turned}
use Rattle.limit_fraction.proofs.limits.rounded_up.Goals as goal

pub returns-clause-exact : goal.returns-clause-exact
returns-clause-exact c = λ x small.
    let fits : FitsSigned w128 c.rounded_down.result = search rules in
    let turned_fits : FitsSigned w128 (pos 0 -ℤ c.rounded_down.result) = rw (zero_minus c.rounded_down.result) (neg-fits c.rounded_down.result (omega arith)) in
    let opposite : number_of c.negated.result ≡ units c.args.limit.now.exponent (neg_ℤ c.args.limit.now.mantissa) = (λ i. units (c.negated.ensures.exponent i) (c.negated.ensures.mantissa i)) in
    let exact = rw (to_z-of_z w16 c.args.unit c.ranges.unit) at (c.rounded_down.ensures.exact (neg_ℤ x) (omega (arith, abs-neg x))) in
    rw (to_z-of_z w128 c.rounded_down.result fits, to_z-of_z w128 (pos 0 -ℤ c.rounded_down.result) turned_fits, zero_minus c.rounded_down.result)
    (iff_then (least_turned c.args.unit x (number_of c.args.limit.now))
    (iff_then (subst (λ (n : Number). IsAtMost (units c.args.unit (neg_ℤ x)) n ↔ (neg_ℤ x ≤ℤ c.rounded_down.result)) opposite exact) (turned_left x c.rounded_down.result)))
