use Rattle.std.proofs.Common.{◌≡◌, ◌++◌, drop}
use Rattle.dbc_build.specs.DatabaseOfStatements.{signals_in}
use Rattle.dbc_build.proofs.signals.signals.Given as goal

abbrev pub invariant-loop-statement : goal.invariant-loop-statement
invariant-loop-statement l = l.signals ++ signals_in l.facts l.id (drop l.statement-index l.list) ≡ signals_in l.facts l.id l.list
