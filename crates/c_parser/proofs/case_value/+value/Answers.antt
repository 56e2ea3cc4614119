use Rattle.std.proofs.lemmas.Result.{err_from_is_err_and}
use Rattle.c_parser.proofs.Signed.{with-signs, fault-behind}
use Rattle.c_parser.proofs.case_value.+value.Goals as goal

pub case_value-returns-in_err-value : goal.case_value-returns-in_err-value
case_value-returns-in_err-value t c =
    let p = err_from_is_err_and c.from_residual-in_err-value.result c.from_residual-in_err-value.ensures.1 in
    let value = rw c.behind.ensures at c.in_err-value.ensures in
    rw (p.1, p.2) (fault-behind c.args.room c.args.tokens.now c.args.after c.in_ok-signs.count c.in_ok-signs.signs.items c.in_ok-signs.ensures.are c.in_err-value.field-0.0 value)

pub case_value-returns : goal.case_value-returns
case_value-returns t c =
    let value = rw c.behind.ensures at c.in_ok-value.ensures in
    rw c.in_ok-with_prefixes.ensures (with-signs c.args.room c.args.tokens.now c.args.after c.in_ok-signs.count c.in_ok-signs.signs.items c.in_ok-signs.ensures.are c.in_ok-value.value value)
