-- Which ways to end the texts of a task leave open.
use Rattle.std.specs.Prelude.{◌≡◌, ◌⊎◌, ◌+◌, ◌<◌, length}
use Rattle.cg_out.specs.Outside.{Rose}
use Rattle.cli_tool.specs.World.{World}
use Rattle.cli_tool.specs.Task.{Task, Answer, status_of, outputs_of, Gives}
use Rattle.cli_tool.specs.Reading.{HasTexts}
use Rattle.cli_tool.specs.declared.status.Status.{Status}
use Rattle.cli_tool.specs.declared.status.Status.TheVariants.{FileFault, OutFault, NoMemory}

-- the status is the answer's own, or the outside failed, or memory was wanting behind a read
abbrev pub IsLeftOpen : Task → Answer → World → World → Status → Type 0
IsLeftOpen task answer old new status =
    (status ≡ status_of answer)
    ⊎ ((status ≡ FileFault) × Rose old.files.faults new.files.faults × (0 < length task.inputs + length (outputs_of answer)))
    ⊎ ((status ≡ OutFault) × Rose old.out.faults new.out.faults)
    ⊎ ((status ≡ NoMemory) × (0 < length task.inputs))

-- where all texts are told, their answer comes, but for the outside and for memory
abbrev pub MustCome : Task → World → World → Status → Type 0
MustCome task old new status =
    (answer : Answer) → HasTexts old.files task.inputs (λ texts. Gives task texts answer) → IsLeftOpen task answer old new status
