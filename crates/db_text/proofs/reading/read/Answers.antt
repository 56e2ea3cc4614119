use Rattle.std.proofs.lemmas.Result.{err_from_is_err_and}
use Rattle.db_text.proofs.Refusing.{statements_refused, database_refused, check_refused}
use Rattle.db_text.proofs.reading.read.Goals as goal

pub returns-in_err-list : goal.returns-in_err-list
returns-in_err-list c =
    let p = err_from_is_err_and c.from_residual.result c.from_residual.ensures.1 in
    rw (p.1, p.2) (statements_refused c.args.text.now c.in_err-list.field-0.0 c.in_err-list.ensures.fault)

pub returns-in_err-database : goal.returns-in_err-database
returns-in_err-database c =
    let p = err_from_is_err_and c.from_residual-in_err-database.result c.from_residual-in_err-database.ensures.1 in
    rw (p.1, p.2) (database_refused c.args.text.now c.in_ok-list.list.items c.in_err-database.field-0.0 c.in_ok-list.ensures.found (rw c.deref.ensures.value at c.in_err-database.ensures.exact))

pub returns-in_err-check : goal.returns-in_err-check
returns-in_err-check c =
    let p = err_from_is_err_and c.from_residual-in_err-check.result c.from_residual-in_err-check.ensures.1 in
    rw (p.1, p.2) (check_refused c.args.text.now c.in_ok-list.list.items c.in_ok-database.database c.in_err-check.field-0.0 c.in_ok-list.ensures.found (rw c.deref.ensures.value at c.in_ok-database.ensures.exact) c.in_err-check.ensures.fault)
