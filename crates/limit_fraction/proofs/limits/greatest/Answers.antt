-- A maximum is rounded down.
use Rattle.std.proofs.Common.{FitsSigned, rules}
use Rattle.std.specs.Int.{w16, w128}
use Rattle.std.proofs.lemmas.Int.{to_z-of_z}
use Rattle.limit_fraction.proofs.limits.greatest.Goals as goal

pub returns-in-Some-clause-exact : goal.returns-in-Some-clause-exact
returns-in-Some-clause-exact c = λ x small.
    let fits : FitsSigned w128 c.rounded_down.result = search rules in
    rw (to_z-of_z w128 c.rounded_down.result fits, c.in-Some.is) (rw (to_z-of_z w16 c.args.unit c.ranges.unit) at (c.rounded_down.ensures.exact x small))
