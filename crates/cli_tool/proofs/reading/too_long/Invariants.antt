-- The texts so far are no longer than they may be.
use Rattle.std.proofs.Common.{◌≡◌, drop}
use Rattle.cli_tool.specs.Task.{are_within}
use Rattle.cli_tool.specs.Asked.{task_by}
use Rattle.cli_tool.proofs.reading.too_long.Given as goal

abbrev pub invariant-loop-index : goal.invariant-loop-index
invariant-loop-index l =
    are_within (task_by l.command).inputs l.texts ≡ are_within (drop l.index (task_by l.command).inputs) (drop l.index l.texts)
