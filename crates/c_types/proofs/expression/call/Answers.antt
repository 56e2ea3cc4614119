use Rattle.std.proofs.Common.{rules}
use Rattle.c_types.proofs.Verdicts.{verdict_laws}
use Rattle.c_types.proofs.expression.call.Goals as goal

pub returns-in_err-fit-in-Memset : goal.returns-in_err-fit-in-Memset
returns-in_err-fit-in-Memset g c = search (rules, verdict_laws)

pub returns-in_ok-fit-in-Memset : goal.returns-in_ok-fit-in-Memset
returns-in_ok-fit-in-Memset g c = search (rules, verdict_laws)
