use Rattle.std.proofs.Common.{rules}
use Rattle.c_types.proofs.Verdicts.{verdict_laws}
use Rattle.c_types.proofs.expression.declared_call.Goals as goal

pub returns-in_err-refuse_if : goal.returns-in_err-refuse_if
returns-in_err-refuse_if g c = search (rules, verdict_laws)

pub returns-in_err-fit : goal.returns-in_err-fit
returns-in_err-fit g c = search (rules, verdict_laws)

pub returns-in_err-refuse_if-2 : goal.returns-in_err-refuse_if-2
returns-in_err-refuse_if-2 g c = search (rules, verdict_laws)
