use Rattle.std.proofs.Common.{◌≡◌, drop}
use Rattle.dbc_build.specs.DatabaseOfStatements.{late_signal}
use Rattle.dbc_build.proofs.building.late_signal.Given as goal

abbrev pub invariant-loop-statement : goal.invariant-loop-statement
invariant-loop-statement l = late_signal (drop l.statement-index l.list) ≡ late_signal l.list
