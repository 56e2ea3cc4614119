-- The texts so far are those of the first files.
use Rattle.std.proofs.Common.{◌≤◌, ◌-◌, length, take}
use Rattle.cli_tool.specs.Reading.{ReadsTexts}
use Rattle.cli_tool.specs.Asked.{task_by}
use Rattle.cli_tool.proofs.reading.read_texts.Given as goal

abbrev pub invariant-loop-input : goal.invariant-loop-input
invariant-loop-input g l = record {
  count : length l.texts.items ≤ length (task_by l.command).inputs;
  read : ReadsTexts (take (length l.texts.items) (task_by l.command).inputs) l.texts.items (g.F.Files.seen l.fn.files) (g.F.Files.seen l.files);
}

abbrev pub decreases-loop-input : goal.decreases-loop-input
decreases-loop-input g l = length (task_by l.command).inputs - length l.texts.items
