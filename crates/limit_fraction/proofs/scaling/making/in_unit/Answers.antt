-- The size is cut off, and the sign put back.
use Rattle.std.proofs.Common.{FitsSigned, rules}
use Rattle.std.specs.Int.{w16, w128}
use Rattle.std.proofs.lemmas.Int.{to_z-of_z}
use Rattle.limit_fraction.proofs.Signs.{signed-cut}
use Rattle.limit_fraction.proofs.scaling.making.in_unit.Goals as goal

pub returns : goal.returns
returns c =
    let fits : FitsSigned w128 c.with_sign.result = search rules in
    let mantissa_fits : FitsSigned w128 c.args.number.now.mantissa = search rules in
    let exponent_fits : FitsSigned w16 c.args.number.now.exponent = search rules in
    rw (
      to_z-of_z w128 c.with_sign.result fits,
      c.with_sign.ensures,
      c.times_ten_to-size.ensures,
      c.unsigned_abs.ensures.value,
      c.tens_above-tens.ensures,
      to_z-of_z w128 c.args.number.now.mantissa mantissa_fits,
      to_z-of_z w16 c.args.number.now.exponent exponent_fits,
      to_z-of_z w16 c.args.unit c.ranges.unit,
    )
    (signed-cut c.args.number.now.mantissa _)
