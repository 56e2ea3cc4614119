-- How the last steps of a run may end: a report, and files with a report.
use Rattle.std.specs.Prelude.{◌≡◌, ◌⊎◌, List, ℕ}
use Rattle.cg_out.specs.Outside.{SinkSeen}
use Rattle.cli_tool.specs.World.{World, Reports, TearsReport}
use Rattle.cli_tool.specs.Task.{Answer, status_of, outputs_of, report_of}
use Rattle.cli_tool.specs.Writing.{WritesFiles, TearsFiles}
use Rattle.cli_tool.specs.declared.status.Status.{Status}
use Rattle.cli_tool.specs.declared.status.Status.TheVariants.{FileFault, OutFault}

-- the report stands there and the status is the report's own, or the sink failed
abbrev pub Tells : SinkSeen → SinkSeen → List ℕ → Status → Status → Type 0
Tells old new report own status =
    ((status ≡ own) × Reports old new report) ⊎ ((status ≡ OutFault) × TearsReport old new report)

-- the answer's files were written and its report told, or a write failed
abbrev pub Delivers : Answer → World → World → Status → Type 0
Delivers answer old new status =
    ((status ≡ FileFault) × TearsFiles 0 (outputs_of answer) old.files new.files × (new.out ≡ old.out))
    ⊎ (WritesFiles 0 (outputs_of answer) old.files new.files × Tells old.out new.out (report_of answer) (status_of answer) status)
