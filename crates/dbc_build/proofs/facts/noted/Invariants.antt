use Rattle.std.proofs.Common.{take}
use Rattle.dbc_build.specs.Tables.{Holds}
use Rattle.dbc_build.proofs.facts.noted.Given as goal

abbrev pub invariant-loop-statement : goal.invariant-loop-statement
invariant-loop-statement l = Holds l.tables (take l.statement-index l.list)
