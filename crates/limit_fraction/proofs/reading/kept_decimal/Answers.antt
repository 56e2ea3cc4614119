-- What is left of the digits without their tens is the mantissa that is kept.
use Rattle.std.proofs.Common.{◌≢◌, ◌*◌, ◌%◌, ◌^◌, Some, arith, sym, ap, ◌∙◌, FitsSigned, rules}
use Rattle.std.specs.Int.{w16, w128}
use Rattle.std.proofs.lemmas.Int.{to_z-of_z}
use Rattle.limit_fraction.proofs.Keeping.{abs-signed, same_decimal, kept_parts-at, kept_parts-far, decimal_for-zero, decimal_for-tens}
use Rattle.limit_fraction.proofs.reading.kept_decimal.Goals as goal

pub returns-then-digits-eq0 : goal.returns-then-digits-eq0
returns-then-digits-eq0 c = λ spelled alike.
    decimal_for-zero c.args.negative _ _ (ap (λ m. m * 10 ^ c.args.digits.zeros) c.if-digits-eq0.true ∙ omega arith)
    ∙ ap Some (same_decimal _ _ (sym c.decimal.ensures.mantissa) (sym c.decimal.ensures.exponent))

pub returns-in_default : goal.returns-in_default
returns-in_default c = λ spelled alike.
    let differs : c.args.digits.mantissa % 10 ≢ 0 = λ h. c.if-digits-eq0.false (c.args.digits.trimmed h) in
    decimal_for-tens c.args.negative c.args.digits.mantissa c.args.digits.zeros _ differs
    ∙ kept_parts-far _ _ (c.in_default.ensures.value spelled (rw (to_z-of_z w128 c.args.exponent c.ranges.exponent) alike))

pub decimal-requires-2 : goal.decimal-requires-2
decimal-requires-2 c =
    let mantissa_fits : FitsSigned w128 c.with_sign.result = search rules in
    let exponent_fits : FitsSigned w16 c.in-Some.exponent = search rules in
    rw (to_z-of_z w128 c.with_sign.result mantissa_fits, to_z-of_z w16 c.in-Some.exponent exponent_fits, c.with_sign.ensures)
    (record {
      trimmed = λ h. absurd (c.if-digits-eq0.false (c.args.digits.trimmed (rw (abs-signed c.args.negative c.args.digits.mantissa) at h)));
      short = rw (abs-signed c.args.negative c.args.digits.mantissa) c.args.digits.short;
      near = c.in-Some.ensures.near;
    })

pub returns : goal.returns
returns c = λ spelled alike.
    let mantissa_fits : FitsSigned w128 c.with_sign.result = search rules in
    let exponent_fits : FitsSigned w16 c.in-Some.exponent = search rules in
    let differs : c.args.digits.mantissa % 10 ≢ 0 = λ h. c.if-digits-eq0.false (c.args.digits.trimmed h) in
    decimal_for-tens c.args.negative c.args.digits.mantissa c.args.digits.zeros _ differs
    ∙ kept_parts-at c.decimal-2.result _ _
    (c.decimal-2.ensures.mantissa ∙ to_z-of_z w128 c.with_sign.result mantissa_fits ∙ c.with_sign.ensures)
    (c.decimal-2.ensures.exponent ∙ to_z-of_z w16 c.in-Some.exponent exponent_fits ∙ c.in-Some.ensures.value spelled (rw (to_z-of_z w128 c.args.exponent c.ranges.exponent) alike))
    (rw (abs-signed c.args.negative c.args.digits.mantissa) differs)
