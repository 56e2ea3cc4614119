use Rattle.std.proofs.lemmas.Result.{err_from_is_err_and}
use Rattle.db_check.proofs.OneFirst.{refusal}
use Rattle.db_check.proofs.checking.check.Goals as goal

pub returns-in_err-check_all-clause-refused : goal.returns-in_err-check_all-clause-refused
returns-in_err-check_all-clause-refused c = λ f first.
    let p = err_from_is_err_and c.from_residual.result c.from_residual.ensures.1 in
    rw (p.1, p.2) (refusal c.args.db c.in_err-check_all.field-0.0 c.in_err-check_all.ensures.fault f first)
