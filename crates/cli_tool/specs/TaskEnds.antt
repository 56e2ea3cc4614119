-- How a run of a task may end: for each status, what stands in the outside afterwards, and why.
use Rattle.std.specs.Prelude.{◌≡◌, ◌⊎◌, ℕ, ◌+◌, List, length}
use Rattle.cg_out.specs.Outside.{FilesSeen}
use Rattle.cli_tool.specs.World.{World, Reports, TearsReport}
use Rattle.cli_tool.specs.Task.{Task, Answer, status_of, outputs_of, report_of, Gives}
use Rattle.cli_tool.specs.Reading.{OfTexts, AreRead, FailsAtInput, WantsMemory}
use Rattle.cli_tool.specs.Writing.{WritesFiles, TearsFiles}
use Rattle.cli_tool.specs.declared.status.Status.{Status}
use Rattle.cli_tool.specs.declared.status.Status.TheVariants.{FileFault, OutFault, NoMemory}

-- all texts were read and gave this answer, which is that of the whole texts
pub record Finds (task : Task) (answer : Answer) (old : FilesSeen) : Type 0 where
  pub texts : List (List ℕ)
  pub read : AreRead old task.inputs texts
  pub given : Gives task texts answer
  pub whole : OfTexts old task.inputs (λ texts. Gives task texts answer)

-- the answer was found and its files stand written, by a call for each file that is read or written
pub record Leaves (task : Task) (answer : Answer) (old new : FilesSeen) : Type 0 where
  pub found : Finds task answer old
  pub written : WritesFiles (length task.inputs) (outputs_of answer) old new
  -- where there is none, no file is touched, not even to read it
  pub untouched : length task.inputs + length (outputs_of answer) ≡ 0 → new ≡ old

-- the answer was found and a file of it could not be written
abbrev pub FailsToWrite : Task → FilesSeen → FilesSeen → Type 0
FailsToWrite task old new = (answer : Answer) × Finds task answer old × TearsFiles (length task.inputs) (outputs_of answer) old new

-- Done, Negative, Usage and Refused are the statuses of answers that were told
abbrev pub TaskEnds : Task → World → World → Status → Type 0
TaskEnds task old new FileFault = (FailsAtInput task.inputs old.files new.files ⊎ FailsToWrite task old.files new.files) × (new.out ≡ old.out)
TaskEnds task old new OutFault = (answer : Answer) × Leaves task answer old.files new.files × TearsReport old.out new.out (report_of answer)
TaskEnds task old new NoMemory = WantsMemory task.inputs old.files new.files × (new.out ≡ old.out)
TaskEnds task old new status =
    (answer : Answer) × (status_of answer ≡ status) × Leaves task answer old.files new.files × Reports old.out new.out (report_of answer)
