-- A product with a positive factor lies between two values where its other factor lies between their quotients.
use Rattle.std.proofs.Common.{FitsSigned, rules, arith}
use Rattle.std.specs.Int.{w128}
use Rattle.std.proofs.lemmas.Int.{ints, to_z-of_z}
use Rattle.limit_fraction.proofs.Quotients.{iff_then, iff_both, rising_least, rising_greatest}
use Rattle.limit_fraction.proofs.limits.rising.Goals as goal

pub returns-clause-exact : goal.returns-clause-exact
returns-clause-exact c = λ v from to.
    let first_fits : FitsSigned w128 c.quotient_up.result = search rules in
    let last_fits : FitsSigned w128 c.quotient_down.result = search rules in
    let spanned = rw (
      to_z-of_z w128 c.quotient_up.result first_fits,
      c.quotient_up.ensures,
      to_z-of_z w128 c.quotient_down.result last_fits,
      c.quotient_down.ensures.value,
      to_z-of_z w128 c.args.least c.ranges.least,
      to_z-of_z w128 c.args.greatest c.ranges.greatest,
      to_z-of_z w128 c.args.factor c.ranges.factor,
    )
    at (c.span.ensures.exact v (omega (arith, ints)) (omega (arith, ints))) in
    iff_then spanned (iff_both (rising_least v c.args.least c.args.factor c.requires.factor) (rising_greatest v c.args.greatest c.args.factor c.requires.factor))
