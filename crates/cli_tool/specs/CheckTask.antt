-- `check HEADER SOURCE`: the first fault of two C texts is told, those of names and types among them, or that they have none.
use Rattle.std.specs.Prelude.{◌≡◌, ℕ, true, List, [], ◌∷◌, Result, Ok, Err}
use Rattle.c_lexer.specs.declared.lexing.TheConstants.{SOURCE_LIMIT}
use Rattle.c_tree.specs.declared.item.Unit.{Unit as Whole}
use Rattle.c_text.specs.Refusal.{Refusal}
use Rattle.c_types.specs.FirstFault.{typed_texts}
use Rattle.cli_tool.specs.FileName.{base_name}
use Rattle.cli_tool.specs.Report.{fine_report, c_refusal_report}
use Rattle.cli_tool.specs.Task.{Input, Answer, wrong_words, refused, outcome, Task}

abbrev pub unit_answer : Result Whole Refusal → Answer
unit_answer (Ok unit) = outcome true [] fine_report
unit_answer (Err refusal) = refused (c_refusal_report refusal)

-- the header is known to the source under its file's name without folders
abbrev pub check_work : List ℕ → List (List ℕ) → Answer
check_work header (h ∷ s ∷ []) = unit_answer (typed_texts h (base_name header) s)
check_work header texts = wrong_words

abbrev pub c_input : List ℕ → Input
c_input file = record { file = file; limit = SOURCE_LIMIT }

abbrev pub check_task : List ℕ → List ℕ → Task
check_task header source = record { inputs = c_input header ∷ c_input source ∷ []; gives = λ texts answer. answer ≡ check_work header texts }
