-- The files so far stand written.
use Rattle.std.proofs.Common.{◌≤◌, take}
use Rattle.cli_tool.specs.Writing.{WritesFiles}
use Rattle.cli_tool.proofs.writing.write_files.Given as goal

abbrev pub invariant-loop-output : goal.invariant-loop-output
invariant-loop-output g l = record {
  written : WritesFiles 0 (take l.output-index l.outputs) (g.F.Files.seen l.fn.files) (g.F.Files.seen l.files);
  later : (g.F.Files.seen l.fn.files).faults ≤ (g.F.Files.seen l.files).faults;
}
