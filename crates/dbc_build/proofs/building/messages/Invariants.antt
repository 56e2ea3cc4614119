use Rattle.std.proofs.Common.{◌≡◌, ◌++◌, length}
use Rattle.std.specs.List.{filter}
use Rattle.dbc_build.specs.DatabaseOfStatements.{messages_in, is_kept}
use Rattle.dbc_build.proofs.building.messages.Given as goal

abbrev pub invariant-loop-left : goal.invariant-loop-left
invariant-loop-left l = l.messages ++ filter is_kept (messages_in l.facts l.left) ≡ filter is_kept (messages_in l.facts l.facts)

abbrev pub decreases-loop-left : goal.decreases-loop-left
decreases-loop-left l = length l.left
