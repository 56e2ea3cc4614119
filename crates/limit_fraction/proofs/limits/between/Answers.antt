-- A negative factor rises with all signs turned, and a factor of 0 gives 0.
use Rattle.std.proofs.Common.{◌≡◌, pos, neg_ℤ, ◌*ℤ◌, FitsSigned, arith, ap, ◌∙◌}
use Rattle.std.specs.Int.{w128}
use Rattle.std.proofs.lemmas.Int.{ints, to_z-of_z}
use Rattle.std.proofs.Math.IntN.{*ℤ-zero}
use Rattle.limit_fraction.proofs.Signs.{neg-fits}
use Rattle.limit_fraction.proofs.Quotients.{iff_then, between_turned, zero_minus}
use Rattle.limit_fraction.proofs.limits.between.Goals as goal

pub returns-then-factor-gt0-clause-exact : goal.returns-then-factor-gt0-clause-exact
returns-then-factor-gt0-clause-exact c = λ v from to.
    rw (to_z-of_z w128 c.args.least c.ranges.least, to_z-of_z w128 c.args.greatest c.ranges.greatest, to_z-of_z w128 c.args.factor c.ranges.factor)
    at (c.rising.ensures.exact v (omega (arith, ints)) (omega (arith, ints)))

pub returns-then-factor-lt0-clause-exact : goal.returns-then-factor-lt0-clause-exact
returns-then-factor-lt0-clause-exact c = λ v from to.
    let least_fits : FitsSigned w128 (neg_ℤ c.args.least) = neg-fits c.args.least c.requires.least in
    let greatest_fits : FitsSigned w128 (neg_ℤ c.args.greatest) = neg-fits c.args.greatest c.requires.greatest in
    let factor_fits : FitsSigned w128 (neg_ℤ c.args.factor) = neg-fits c.args.factor c.requires.factor in
    let risen = rw (
      to_z-of_z w128 c.args.least c.ranges.least,
      to_z-of_z w128 c.args.greatest c.ranges.greatest,
      to_z-of_z w128 c.args.factor c.ranges.factor,
      zero_minus c.args.least,
      zero_minus c.args.greatest,
      zero_minus c.args.factor,
      to_z-of_z w128 (neg_ℤ c.args.least) least_fits,
      to_z-of_z w128 (neg_ℤ c.args.greatest) greatest_fits,
      to_z-of_z w128 (neg_ℤ c.args.factor) factor_fits,
    )
    at (c.rising-then-factor-lt0.ensures.exact v (omega (arith, ints)) (omega (arith, ints))) in
    iff_then risen (between_turned v c.args.factor c.args.least c.args.greatest)

pub returns-then-greatest-ge0-clause-exact : goal.returns-then-greatest-ge0-clause-exact
returns-then-greatest-ge0-clause-exact c = λ v from to.
    let none : c.args.factor ≡ pos 0 = omega (arith, ints) in
    let product : v *ℤ c.args.factor ≡ pos 0 = ap (λ f. v *ℤ f) none ∙ *ℤ-zero v in
    let spanned = c.span.ensures.exact v (omega (arith, ints)) (omega (arith, ints)) in
    rw product ((λ h. (omega (arith, ints), omega (arith, ints))), (λ h. spanned.1 (omega (arith, ints), omega (arith, ints))))
