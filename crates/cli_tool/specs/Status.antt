-- The exit status of each way to end.
use Rattle.std.specs.Prelude.{ℕ}
use Rattle.cli_tool.specs.declared.status.Status.{Status}
use Rattle.cli_tool.specs.declared.status.Status.TheVariants.{Done, Negative, Usage, Refused, FileFault, OutFault, NoMemory}

abbrev pub code_of : Status → ℕ
code_of Done = 0
code_of Negative = 1
code_of Usage = 2
code_of Refused = 3
code_of FileFault = 4
code_of OutFault = 5
code_of NoMemory = 6
