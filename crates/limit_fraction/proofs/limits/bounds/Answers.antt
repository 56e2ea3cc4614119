-- The limits in whole units, less the offset, bound the product.
use Rattle.std.proofs.Common.{unsigned_abs, ◌≤◌, ◌^◌, ◌+ℤ◌, ◌-ℤ◌, ◌*ℤ◌, FitsSigned, rules, arith}
use Rattle.std.specs.Int.{w16, w128}
use Rattle.std.proofs.lemmas.Int.{ints, to_z-of_z}
use Rattle.limit_fraction.proofs.Quotients.{iff_then}
use Rattle.limit_fraction.proofs.Meeting.{small_value, moved_fits, meets_limits}
use Rattle.limit_fraction.proofs.limits.bounds.Goals as goal

pub returns-clause-exact : goal.returns-clause-exact
returns-clause-exact c = λ v from to.
    let scale = c.args.scale.now in
    let inside : unsigned_abs v ≤ 2 ^ 64 = omega (arith, ints) in
    let small = small_value v scale.factor scale.offset inside scale.kept.factor_below scale.kept.offset_below in
    let factor_fits : FitsSigned w128 scale.factor = search rules in
    let offset_fits : FitsSigned w128 scale.offset = search rules in
    let unit_fits : FitsSigned w16 scale.exponent = search rules in
    let least_fits : FitsSigned w128 c.least.result = search rules in
    let greatest_fits : FitsSigned w128 c.greatest.result = search rules in
    let least_moved : FitsSigned w128 (c.least.result -ℤ scale.offset) = moved_fits c.least.result scale.offset c.least.ensures.within scale.kept.offset_below in
    let greatest_moved : FitsSigned w128 (c.greatest.result -ℤ scale.offset) = moved_fits c.greatest.result scale.offset c.greatest.ensures.within scale.kept.offset_below in
    let bounded = rw (
      to_z-of_z w128 c.least.result least_fits,
      to_z-of_z w128 c.greatest.result greatest_fits,
      to_z-of_z w128 scale.offset offset_fits,
      to_z-of_z w128 (c.least.result -ℤ scale.offset) least_moved,
      to_z-of_z w128 (c.greatest.result -ℤ scale.offset) greatest_moved,
      to_z-of_z w128 scale.factor factor_fits,
    )
    at (c.between.ensures.exact v (omega (arith, ints)) (omega (arith, ints))) in
    iff_then bounded (meets_limits scale.exponent scale.factor scale.offset v c.least.result c.greatest.result c.args.min c.args.max
    (rw (to_z-of_z w16 scale.exponent unit_fits) at (c.least.ensures.exact (v *ℤ scale.factor +ℤ scale.offset) small))
    (rw (to_z-of_z w16 scale.exponent unit_fits) at (c.greatest.ensures.exact (v *ℤ scale.factor +ℤ scale.offset) small)))

pub returns-clause-within : goal.returns-clause-within
returns-clause-within c =
    rw (to_z-of_z w128 c.args.low c.ranges.low, to_z-of_z w128 c.args.high c.ranges.high) at c.between.ensures.within
