use Rattle.std.proofs.Common.{rules}
use Rattle.c_types.specs.Shown.{setting_of}
use Rattle.c_types.proofs.Verdicts.{verdict_laws}
use Rattle.c_types.proofs.Arguments.{memset-split}
use Rattle.c_types.proofs.statement.memset_arguments.Goals as goal

pub returns-in_err-check-in-len1-up : goal.returns-in_err-check-in-len1-up
returns-in_err-check-in-len1-up g c =
    let fact = memset-split (setting_of c.args.known.now) c.args.args.now c.first-item.result c.args.scopes.now c.in-len1-up.len_at_least c.first-item.is in
    search (rules, fact, verdict_laws)

pub returns-in_ok-check-in-len1-up : goal.returns-in_ok-check-in-len1-up
returns-in_ok-check-in-len1-up g c =
    let fact = memset-split (setting_of c.args.known.now) c.args.args.now c.first-item.result c.args.scopes.now c.in-len1-up.len_at_least c.first-item.is in
    rw (fact, c.in_ok-check-in-len1-up.ensures.0) c.arguments.ensures
