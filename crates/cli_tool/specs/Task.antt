-- What a command is to the outside: which files it reads, and what their texts give.
use Rattle.std.specs.Prelude.{◌≡◌, ℕ, nat_le, Bool, true, false, ◌&&◌, List, [], ◌∷◌, length, MatchBool}
use Rattle.cli_tool.specs.Report.{usage_report, too_large_report}
use Rattle.cli_tool.specs.declared.status.Status.{Status}
use Rattle.cli_tool.specs.declared.status.Status.TheVariants.{Done, Negative, Usage, Refused}

-- a file that is read, and how many bytes its text may have
pub record Input : Type 0 where
  pub file : List ℕ
  pub limit : ℕ

-- a file that is written, and its bytes
pub record Output : Type 0 where
  pub file : List ℕ
  pub bytes : List ℕ

pub data Answer : Type 0 where
  -- the words are wrong
  wrong_words : Answer
  -- a text is refused, and this is the report
  refused : (report : List ℕ) → Answer
  -- the command is done and its answer is yes, or no; these files are written, in order, and this is the report
  outcome : (positive : Bool) (outputs : List Output) (report : List ℕ) → Answer

-- what is read, in order, and which answer texts give that have no more bytes than they may
pub record Task : Type 1 where
  pub inputs : List Input
  pub gives : List (List ℕ) → Answer → Type 0

-- words that are no command: nothing is read
abbrev pub no_task : Task
no_task = record { inputs = []; gives = λ texts answer. answer ≡ wrong_words }

-- the status of a run that gave this answer, where nothing failed
abbrev pub status_of : Answer → Status
status_of wrong_words = Usage
status_of (refused report) = Refused
status_of (outcome true outputs report) = Done
status_of (outcome false outputs report) = Negative

abbrev pub outputs_of : Answer → List Output
outputs_of wrong_words = []
outputs_of (refused report) = []
outputs_of (outcome positive outputs report) = outputs

abbrev pub report_of : Answer → List ℕ
report_of wrong_words = usage_report
report_of (refused report) = report
report_of (outcome positive outputs report) = report

-- no text has more bytes than it may
abbrev pub are_within : List Input → List (List ℕ) → Bool
are_within [] texts = true
are_within (i ∷ is) [] = true
are_within (i ∷ is) (text ∷ texts) = nat_le (length text) i.limit && are_within is texts

-- the texts of the files, in the order of the files, give this answer
abbrev pub Gives : Task → List (List ℕ) → Answer → Type 0
Gives task texts answer = MatchBool (are_within task.inputs texts) (task.gives texts answer) (answer ≡ refused too_large_report)
