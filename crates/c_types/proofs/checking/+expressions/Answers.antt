use Rattle.std.proofs.Common.{rules}
use Rattle.c_tree.specs.declared.expression.ExprKind.{the_lemmas}
use Rattle.c_types.specs.ExpressionTypes.{all_arguments}
use Rattle.c_types.specs.Shown.{setting_of}
use Rattle.std.proofs.lemmas.List.{length-map}
use Rattle.c_types.proofs.Verdicts.{verdict_laws}
use Rattle.c_types.proofs.Arguments.{argument-refuses}
use Rattle.c_types.proofs.checking.+expressions.Goals as goal

pub arguments-returns-in_err-check : goal.arguments-returns-in_err-check
arguments-returns-in_err-check g t c =
    let fact = argument-refuses (setting_of c.args.known.now) c.args.args.now c.loop-arg.arg-index c.arg-item.result c.args.scopes.now
    (all_arguments (setting_of c.args.known.now) c.args.args.now c.args.scopes.now) c.loop-arg-test.true c.arg-item.is c.loop-arg.invariant in
    search (rules, fact)

pub check_kind-returns-in_err-kind-in-Member : goal.check_kind-returns-in_err-kind-in-Member
check_kind-returns-in_err-kind-in-Member g t c = search (rules, the_lemmas, verdict_laws)

pub check_kind-returns-in_err-element-in-Element : goal.check_kind-returns-in_err-element-in-Element
check_kind-returns-in_err-element-in-Element g t c = search (rules, the_lemmas, verdict_laws)

pub check_kind-returns-in_err-fit_number-in-Element : goal.check_kind-returns-in_err-fit_number-in-Element
check_kind-returns-in_err-fit_number-in-Element g t c = search (rules, the_lemmas, verdict_laws)

pub check_kind-returns-in_err-kind-in-Call : goal.check_kind-returns-in_err-kind-in-Call
check_kind-returns-in_err-kind-in-Call g t c = search (rules, the_lemmas, length-map, verdict_laws)

pub check_kind-returns-in_err-arguments-in-Call : goal.check_kind-returns-in_err-arguments-in-Call
check_kind-returns-in_err-arguments-in-Call g t c = search (rules, the_lemmas, length-map, verdict_laws)

pub check_kind-returns-in_err-fit_number-in-Unary : goal.check_kind-returns-in_err-fit_number-in-Unary
check_kind-returns-in_err-fit_number-in-Unary g t c = search (rules, the_lemmas, verdict_laws)

pub check_kind-returns-in_err-fit_number-in-Cast : goal.check_kind-returns-in_err-fit_number-in-Cast
check_kind-returns-in_err-fit_number-in-Cast g t c = search (rules, the_lemmas, verdict_laws)

pub check_kind-returns-in_err-first-in-Binary : goal.check_kind-returns-in_err-first-in-Binary
check_kind-returns-in_err-first-in-Binary g t c = search (rules, the_lemmas, verdict_laws)

pub check_kind-returns-in_err-fit_number-in-Binary : goal.check_kind-returns-in_err-fit_number-in-Binary
check_kind-returns-in_err-fit_number-in-Binary g t c = search (rules, the_lemmas, verdict_laws)

pub check_kind-returns-in_err-fit-in-Bracket : goal.check_kind-returns-in_err-fit-in-Bracket
check_kind-returns-in_err-fit-in-Bracket g t c = search (rules, the_lemmas, verdict_laws)

pub check_kind-returns-in_ok-arguments-in-Call : goal.check_kind-returns-in_ok-arguments-in-Call
check_kind-returns-in_ok-arguments-in-Call g t c = search (rules, the_lemmas, length-map, verdict_laws)
