-- A number that is too long stays so.
use Rattle.std.proofs.Common.{sym, ◌∙◌}
use Rattle.std.proofs.lemmas.Result.{err_from_is_err_and}
use Rattle.limit_fraction.proofs.Texts.{IsLong-at}
use Rattle.limit_fraction.proofs.reading.read_digits.Goals as goal

pub returns-in_err-digits-clause-value : goal.returns-in_err-digits-clause-value
returns-in_err-digits-clause-value c =
    let p = err_from_is_err_and c.from_residual.result c.from_residual.ensures.1 in
    rw (p.1, ← c.loop-i.invariant.value) (IsLong-at _ _ _ c.loop-i-test.true (sym c.is_ascii_digit.ensures.value ∙ c.if-not-is_ascii_digit.false) c.in_err-digits.ensures.value)
