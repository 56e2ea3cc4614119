-- At or above the unit a limit is whole, and below it the quotient is rounded down.
use Rattle.std.proofs.Common.{FitsSigned, rules, arith}
use Rattle.std.specs.Int.{w16, w128}
use Rattle.std.proofs.lemmas.Int.{ints, to_z-of_z}
use Rattle.limit_fraction.specs.Decimal.{number_of}
use Rattle.limit_fraction.proofs.Rounding.{most_above, most_below}
use Rattle.limit_fraction.proofs.limits.rounded_down.Goals as goal

pub returns-then-unit-limit-clause-exact : goal.returns-then-unit-limit-clause-exact
returns-then-unit-limit-clause-exact c = λ x small.
    let fits : FitsSigned w128 c.in_unit.result = search rules in
    rw (to_z-of_z w128 c.in_unit.result fits, c.in_unit.ensures, to_z-of_z w16 c.args.unit c.ranges.unit)
    (most_above c.args.unit x (number_of c.args.limit.now) (omega (arith, ints)) small)

pub returns-else-unit-limit-clause-exact : goal.returns-else-unit-limit-clause-exact
returns-else-unit-limit-clause-exact c = λ x small.
    let fits : FitsSigned w128 c.quotient_down.result = search rules in
    let mantissa_fits : FitsSigned w128 c.args.limit.now.mantissa = search rules in
    let exponent_fits : FitsSigned w16 c.args.limit.now.exponent = search rules in
    let ten_fits : FitsSigned w128 c.ten_to.result = search rules in
    rw (
      to_z-of_z w128 c.quotient_down.result fits,
      c.quotient_down.ensures.value,
      to_z-of_z w128 c.args.limit.now.mantissa mantissa_fits,
      to_z-of_z w128 c.ten_to.result ten_fits,
      c.ten_to.ensures.value,
      c.tens_above.ensures,
      to_z-of_z w16 c.args.limit.now.exponent exponent_fits,
      to_z-of_z w16 c.args.unit c.ranges.unit,
    )
    (most_below c.args.unit x (number_of c.args.limit.now) (omega (arith, ints)) c.args.limit.now.kept.short)
