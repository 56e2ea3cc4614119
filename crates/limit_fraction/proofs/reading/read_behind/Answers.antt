-- The parts that were read are the parts that the text spells.
use Rattle.std.proofs.Common.{arith, FitsSigned, rules}
use Rattle.std.specs.Int.{w128}
use Rattle.std.proofs.lemmas.Int.{to_z-of_z}
use Rattle.std.proofs.lemmas.Result.{err_from_is_err_and}
use Rattle.limit_fraction.specs.Reading.{digits_of, after_digits, fraction_of, after_fraction}
use Rattle.limit_fraction.proofs.Texts.{IsLong-fraction, value_after-append}
use Rattle.limit_fraction.proofs.Wholes.{kept-long, kept-read}
use Rattle.limit_fraction.proofs.reading.read_behind.Goals as goal

pub returns-in_err-whole : goal.returns-in_err-whole
returns-in_err-whole c =
    let p = err_from_is_err_and c.from_residual.result c.from_residual.ensures.1 in
    rw p.1 (kept-long c.args.negative (digits_of c.args.bytes.now) (fraction_of (after_digits c.args.bytes.now)) (after_fraction (after_digits c.args.bytes.now))
    (rw (value_after-append 0 (digits_of c.args.bytes.now) (fraction_of (after_digits c.args.bytes.now))) (IsLong-fraction _ (after_digits c.args.bytes.now) c.in_err-whole.ensures.value)))

pub returns-in_err-digits : goal.returns-in_err-digits
returns-in_err-digits c =
    let p = err_from_is_err_and c.from_residual-in_err-digits.result c.from_residual-in_err-digits.ensures.1 in
    rw p.1 (kept-long c.args.negative (digits_of c.args.bytes.now) (fraction_of (after_digits c.args.bytes.now)) (after_fraction (after_digits c.args.bytes.now))
    (rw (value_after-append 0 (digits_of c.args.bytes.now) (fraction_of (after_digits c.args.bytes.now)), ← c.in_ok-whole.ensures.value, ← c.in_ok-whole.ensures.rest) c.in_err-digits.ensures.value))

pub returns : goal.returns
returns c =
    let exponent_fits : FitsSigned w128 c.in_ok-exponent.exponent = search rules in
    kept-read c.args.negative c.args.bytes.now c.in_ok-whole.behind.now c.in_ok-digits.tail.now _ _ c.in_ok-digits.fraction c.in_ok-exponent.exponent c.kept_decimal.result
    c.in_ok-whole.ensures.rest c.in_ok-digits.ensures.rest c.in_ok-whole.ensures.value c.in_ok-digits.ensures.value c.in_ok-digits.ensures.count
    (omega (arith, c.in_ok-whole.ensures.count, c.in_ok-digits.ensures.count))
    c.in_ok-exponent.ensures.value
    (λ x alike. c.kept_decimal.ensures x (rw (to_z-of_z w128 c.in_ok-exponent.exponent exponent_fits) alike))
