-- `exec HEADER SOURCE MODEL FUNCTION ARG..`: a function of two C texts is called, and its value and objects are told, or the undefined behaviour that it meets.
use Rattle.std.specs.Prelude.{◌≡◌, ℕ, Bool, true, false, List, [], ◌∷◌, Result, Ok, Err}
use Rattle.std.specs.declared.option.Option.{Option}
use Rattle.std.specs.declared.option.Option.TheVariants.{None, Some}
use Rattle.c_tree.specs.declared.item.Function.{Function}
use Rattle.c_tree.specs.declared.item.Unit.{Unit as Whole}
use Rattle.c_text.specs.Refusal.{Refusal}
use Rattle.c_widths.specs.DataModel.{DataModel}
use Rattle.c_types.specs.FirstFault.{typed_texts}
use Rattle.c_types.specs.Setting.{structs, definitions}
use Rattle.c_effect.specs.declared.state.Outcome.{Outcome}
use Rattle.c_effect.specs.declared.state.Outcome.TheVariants.{Returned, Undefined}
use Rattle.c_effect.specs.FunctionCall.{Ended, call, outcome_of}
use Rattle.cg_out.specs.Words.{look_up}
use Rattle.exec_words.specs.CallReport.{report_of}
use Rattle.cli_tool.specs.CallArguments.{Given, arguments_of}
use Rattle.cli_tool.specs.CheckTask.{c_input}
use Rattle.cli_tool.specs.FileName.{base_name}
use Rattle.cli_tool.specs.Report.{c_refusal_report}
use Rattle.cli_tool.specs.Task.{Answer, wrong_words, refused, outcome, Task}

-- the answer is no where the call met undefined behaviour
abbrev pub is_returned : Outcome → Bool
is_returned (Returned value) = true
is_returned (Undefined kind place) = false

abbrev pub told : Whole → Given → Ended → Answer
told unit given ended =
    outcome (is_returned (outcome_of ended.gives)) [] (report_of (structs unit.items) (outcome_of ended.gives) given.args ended.objects)

-- the unit does not define the function, or it is called
abbrev pub run_with : DataModel → Whole → Given → Option Function → Answer
run_with m unit given None = wrong_words
run_with m unit given (Some f) = told unit given (call m unit f given.args given.objects)

-- the words are no arguments of the function, or they are
abbrev pub called_with : DataModel → Whole → Function → Option Given → Answer
called_with m unit f None = wrong_words
called_with m unit f (Some given) = run_with m unit given (Some f)

abbrev pub called : DataModel → Whole → List (List ℕ) → Option Function → Answer
called m unit words None = wrong_words
called m unit words (Some f) = called_with m unit f (arguments_of m (structs unit.items) f.params words)

-- a fault of the texts comes before all else
abbrev pub call_answer : DataModel → List ℕ → List (List ℕ) → Result Whole Refusal → Answer
call_answer m function words (Ok unit) = called m unit words (look_up function (definitions unit.items))
call_answer m function words (Err refusal) = refused (c_refusal_report refusal)

abbrev pub exec_work : List ℕ → DataModel → List ℕ → List (List ℕ) → List (List ℕ) → Answer
exec_work header m function words (h ∷ s ∷ []) = call_answer m function words (typed_texts h (base_name header) s)
exec_work header m function words texts = wrong_words

abbrev pub exec_task : List ℕ → List ℕ → DataModel → List ℕ → List (List ℕ) → Task
exec_task header source m function words = record {
  inputs = c_input header ∷ c_input source ∷ [];
  gives = λ texts answer. answer ≡ exec_work header m function words texts;
}
