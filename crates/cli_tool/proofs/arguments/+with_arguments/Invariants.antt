use Rattle.std.proofs.Common.{length}
use Rattle.cli_tool.proofs.arguments.+with_arguments.Given as goal

abbrev pub decreases-with_arguments : goal.decreases-with_arguments
decreases-with_arguments g l = length l.params.now
