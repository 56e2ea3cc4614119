-- How a run of the words of the command line may end.
use Rattle.std.specs.Prelude.{ℕ, List}
use Rattle.std.specs.declared.option.Option.{Option}
use Rattle.std.specs.declared.option.Option.TheVariants.{None, Some}
use Rattle.cli_tool.specs.World.{World}
use Rattle.cli_tool.specs.Command.{Command, generate_c_source, check, exec, encode, decode, command_of}
use Rattle.cli_tool.specs.Task.{Task, no_task}
use Rattle.cli_tool.specs.GenerateTask.{generate_task}
use Rattle.cli_tool.specs.CheckTask.{check_task}
use Rattle.cli_tool.specs.ExecTask.{exec_task}
use Rattle.cli_tool.specs.CodecTasks.{encode_task, decode_task}
use Rattle.cli_tool.specs.TaskEnds.{TaskEnds}
use Rattle.cli_tool.specs.MustCome.{MustCome}
use Rattle.cli_tool.specs.PairOfFile.{PairStands}
use Rattle.cli_tool.specs.declared.status.Status.{Status}

abbrev pub task_of : Command → Task
task_of (generate_c_source file) = generate_task file
task_of (check header source) = check_task header source
task_of (exec header source model function words) = exec_task header source model function words
task_of (encode file message words) = encode_task file message words
task_of (decode file number digits) = decode_task file number digits

abbrev pub task_found : Option Command → Task
task_found None = no_task
task_found (Some command) = task_of command

-- what the words ask for
abbrev pub task_asked : List (List ℕ) → Task
task_asked words = task_found (command_of words)

abbrev pub Ends : List (List ℕ) → World → World → Status → Type 0
Ends words old new status = TaskEnds (task_asked words) old new status

-- where the texts that the words ask for are told, their answer comes
abbrev pub Comes : List (List ℕ) → World → World → Status → Type 0
Comes words old new status = MustCome (task_asked words) old new status

abbrev pub PairOfCommand : Option Command → World → World → Status → Type 0
PairOfCommand (Some (generate_c_source file)) old new status = PairStands file old.files new.files status
PairOfCommand command old new status = Unit {0}

-- what `generate_c_source` leaves in the files is a header and a source of the text's database
abbrev pub IsPair : List (List ℕ) → World → World → Status → Type 0
IsPair words old new status = PairOfCommand (command_of words) old new status
