-- What is below its limit is not too wide.
use Rattle.std.proofs.Common.{◌≡◌, ℤ, unsigned_abs, ap, ◌∙◌, ⊎_elim, arith, FitsSigned, rules}
use Rattle.std.specs.Int.{w16}
use Rattle.std.proofs.lemmas.Int.{to_z-of_z}
use Rattle.limit_fraction.specs.Number.{in_unit}
use Rattle.limit_fraction.specs.Decimal.{number_of}
use Rattle.limit_fraction.specs.Unit.{unit_of}
use Rattle.limit_fraction.proofs.scaling.making.scaled.Goals as goal

pub returns-clause-narrow : goal.returns-clause-narrow
returns-clause-narrow c = λ wide.
    let unit : ℤ = unit_of (number_of c.args.factor.now) (number_of c.args.offset.now) in
    let fits : FitsSigned w16 c.unit-exponent.result = search rules in
    let unit_is = to_z-of_z w16 c.unit-exponent.result fits ∙ c.unit-exponent.ensures.value in
    let factor : c.in-Some.scaled_factor ≡ in_unit unit (number_of c.args.factor.now) = c.in-Some.ensures.value ∙ ap (λ u. in_unit u (number_of c.args.factor.now)) unit_is in
    let offset : c.in-Some-narrow.scaled_offset ≡ in_unit unit (number_of c.args.offset.now) = c.in-Some-narrow.ensures.value ∙ ap (λ u. in_unit u (number_of c.args.offset.now)) unit_is in
    ⊎_elim (λ h. omega (arith, ap unsigned_abs factor, c.in-Some.ensures.below)) (λ h. omega (arith, ap unsigned_abs offset, c.in-Some-narrow.ensures.below)) wide
