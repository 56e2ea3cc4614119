use Rattle.dbc_build.proofs.Noting.{holds_next}
use Rattle.dbc_build.proofs.facts.noted.Goals as goal

pub loop-statement-preserved : goal.loop-statement-preserved
loop-statement-preserved c = holds_next _ _ c.args.list.now c.loop-statement.statement-index c.statement-item.result c.loop-statement-test.true c.statement-item.is c.in_ok-note.ensures c.loop-statement.invariant
