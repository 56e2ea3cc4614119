-- The values of the code, as the definitions speak of them.
use Rattle.cli_tool.specs.Command.{Command, generate_c_source, check, exec, encode, decode}
use Rattle.cli_tool.specs.Task.{Task, Answer, wrong_words, refused, outcome}
use Rattle.cli_tool.specs.Ends.{task_of}
use Rattle.cli_tool.specs.declared.command.Command.{Command as Found}
use Rattle.cli_tool.specs.declared.command.Command.TheVariants as found
use Rattle.c_widths.specs.DataModel.{DataModel, ilp32, lp64}
use Rattle.cli_tool.specs.declared.command.DataModel.{DataModel as Named}
use Rattle.cli_tool.specs.declared.command.DataModel.TheVariants.{Ilp32, Lp64}
use Rattle.cli_tool.specs.declared.answer.Answer.{Answer as Given}
use Rattle.cli_tool.specs.declared.answer.Answer.TheVariants as given

abbrev pub model_by : Named → DataModel
model_by Ilp32 = ilp32
model_by Lp64 = lp64

abbrev pub asked_by : Found → Command
asked_by (found.GenerateCSource file) = generate_c_source file.now
asked_by (found.Check header source) = check header.now source.now
asked_by (found.Exec c) = exec c.header.now c.source.now (model_by c.model) c.function.now c.words.now
asked_by (found.Encode e) = encode e.file.now e.message.now e.words.now
asked_by (found.Decode d) = decode d.file.now d.number.now d.digits.now

-- its task
abbrev pub task_by : Found → Task
task_by command = task_of (asked_by command)

abbrev pub answer_in : Given → Answer
answer_in (given.WrongWords why) = wrong_words
answer_in (given.Refused report why) = refused report.items
answer_in (given.Outcome positive outputs report) = outcome positive outputs.items report.items
