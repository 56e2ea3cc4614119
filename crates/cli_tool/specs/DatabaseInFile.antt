-- The database in a file, and what a command answers that reads one.
use Rattle.std.specs.Prelude.{◌≡◌, ℕ, List, [], ◌∷◌, Result, Ok, Err, MatchBool}
use Rattle.can_model.specs.declared.database.Database.{Database}
use Rattle.can_model.specs.declared.refusal.TextKind.TheVariants.{NotYet}
use Rattle.can_model.specs.declared.refusal.TheConstants.{TEXT_LIMIT}
use Rattle.can_model.specs.Refusal.{Refusal}
use Rattle.db_text.specs.DatabaseOfText.{DatabaseRefusal, in_text, in_database, Spells}
use Rattle.cli_tool.specs.FileName.{is_sym}
use Rattle.cli_tool.specs.Report.{refusal_report, fault_report}
use Rattle.cli_tool.specs.Task.{Input, Answer, wrong_words, refused, Task}

-- what is not read in this version, at this line
abbrev pub not_yet : ℕ → Refusal
not_yet line = record { kind = NotYet; line = line }

-- a file of this name and text gives this database, or this is why it gives none; SYM files are not read yet
abbrev pub GivesDatabase : List ℕ → List ℕ → Result Database DatabaseRefusal → Type 0
GivesDatabase file text given = MatchBool (is_sym file) (given ≡ Err (in_text (not_yet 0))) (Spells text given)

abbrev pub refusal_answer : DatabaseRefusal → Answer
refusal_answer (in_text refusal) = refused (refusal_report refusal)
refusal_answer (in_database fault) = refused (fault_report fault)

-- a database is answered like this, and a refusal is told
abbrev pub AnswersGiven : (Database → Answer → Type 0) → Result Database DatabaseRefusal → Answer → Type 0
AnswersGiven Answers (Ok db) answer = Answers db answer
AnswersGiven Answers (Err refusal) answer = answer ≡ refusal_answer refusal

-- the text of the file has this answer
abbrev pub HasAnswer : (Database → Answer → Type 0) → List ℕ → List ℕ → Answer → Type 0
HasAnswer Answers file text answer = (given : Result Database DatabaseRefusal) × GivesDatabase file text given × AnswersGiven Answers given answer

abbrev pub TextAnswers : (Database → Answer → Type 0) → List ℕ → List (List ℕ) → Answer → Type 0
TextAnswers Answers file (text ∷ []) answer = HasAnswer Answers file text answer
TextAnswers Answers file texts answer = answer ≡ wrong_words

abbrev pub database_input : List ℕ → Input
database_input file = record { file = file; limit = TEXT_LIMIT }

-- a command that reads one database
abbrev pub database_task : (Database → Answer → Type 0) → List ℕ → Task
database_task Answers file = record { inputs = database_input file ∷ []; gives = TextAnswers Answers file }
