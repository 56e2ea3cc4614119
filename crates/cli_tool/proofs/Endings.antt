-- The steps of a run, joined: what was read, what it gives, what was written and told.
use Rattle.std.proofs.Common.{◌≡◌, inl, inr, ℕ, ◌+◌, ◌<◌, true, false, List, [], length, refl, sym, subst, arith}
use Rattle.std.specs.declared.option.Option.{Option}
use Rattle.cg_out.specs.Outside.{Folder, FilesSeen, SinkSeen, IfTold, IsTornWrite}
use Rattle.cli_tool.specs.World.{World, world}
use Rattle.cli_tool.specs.Command.{Command, generate_c_source, check, exec, encode, decode}
use Rattle.cli_tool.specs.Ends.{task_of}
use Rattle.cli_tool.specs.Task.{Task, Answer, wrong_words, refused, outcome, no_task, status_of, outputs_of, report_of, Gives}
use Rattle.cli_tool.specs.Report.{usage_report}
use Rattle.cli_tool.specs.Reading.{ReadsTexts, HasNotAll}
use Rattle.cli_tool.specs.Writing.{with_outputs, Puts, WritesFiles, TearsFiles}
use Rattle.cli_tool.specs.Telling.{Tells, Delivers}
use Rattle.cli_tool.specs.TaskEnds.{Finds, Leaves, FailsToWrite, TaskEnds}
use Rattle.cli_tool.specs.declared.status.Status.{Status}
use Rattle.cli_tool.specs.declared.status.Status.TheVariants.{Done, Negative, Usage, Refused, FileFault, OutFault, NoMemory}
use Rattle.cli_tool.proofs.Texts.{calls_sum, no_calls, Rose-earlier}
use Rattle.cli_tool.proofs.Cut.{of_read, answer-cut}

module _ (task : Task) (answer : Answer) (texts : List (List ℕ)) (old mid : FilesSeen) (r : ReadsTexts task.inputs texts old mid) (given : Gives task texts answer) where
  finds : Finds task answer old
  finds = record {
    texts = texts;
    read = r.read;
    given = given;
    whole = of_read old task.inputs texts r.read (λ ws. Gives task ws answer) (λ ws c. answer-cut task texts ws answer c given);
  }

  leaves : (new : FilesSeen) → 0 < length task.inputs → WritesFiles 0 (outputs_of answer) mid new → Leaves task answer old new
  leaves new some w = record {
    found = finds;
    written = record {
      content = subst (λ (o : Option Folder). Puts (outputs_of answer) o new.content) r.content w.content;
      calls = calls_sum old.calls mid.calls new.calls (length task.inputs) (0 + length (outputs_of answer)) _ (omega arith) r.calls w.calls;
    };
    untouched = λ e. absurd (omega (arith, some, e));
  }

  fails_to_write : (new : FilesSeen) → TearsFiles 0 (outputs_of answer) mid new → FailsToWrite task old new
  fails_to_write new t = (
    answer,
    finds,
    record {
      front = t.front;
      torn = t.torn;
      rest = t.rest;
      outputs_are = t.outputs_are;
      cause = Rose-earlier old.faults mid.faults new.faults r.later t.cause;
      content = subst (λ (o : Option Folder). IfTold o new.content (λ a b. IsTornWrite (with_outputs a t.front) b t.torn.file t.torn.bytes)) r.content t.content;
      calls = calls_sum old.calls mid.calls new.calls (length task.inputs) (0 + length t.front + 1) _ (omega arith) r.calls t.calls;
    },
  )

pub delivered : (task : Task) (answer : Answer) (texts : List (List ℕ)) (old new : World) (mid : FilesSeen) (status : Status) → 0 < length task.inputs → ReadsTexts task.inputs texts old.files mid
    → Gives task texts answer → Delivers answer (world mid old.out) new status → TaskEnds task old new status
delivered task answer texts old new mid status some r given d = by_delivery d where
  at : (own : Status) → status ≡ own → TaskEnds task old new own → TaskEnds task old new status
  at own e g = subst (λ (s : Status). TaskEnds task old new s) (sym e) g

  told : (a : Answer) → Leaves task a old.files new.files → Tells old.out new.out (report_of a) (status_of a) status → TaskEnds task old new status
  told a l (inr x) = at OutFault x.0 (a, l, x.1)
  told wrong_words l (inl x) = at Usage x.0 (wrong_words, refl, l, x.1)
  told (refused report) l (inl x) = at Refused x.0 (refused report, refl, l, x.1)
  told (outcome true outputs report) l (inl x) = at Done x.0 (outcome true outputs report, refl, l, x.1)
  told (outcome false outputs report) l (inl x) = at Negative x.0 (outcome false outputs report, refl, l, x.1)

  by_delivery : Delivers answer (world mid old.out) new status → TaskEnds task old new status
  by_delivery (inl x) = at FileFault x.0 (inr (fails_to_write task answer texts old.files mid r given new.files x.1), x.2)
  by_delivery (inr x) = told answer (leaves task answer texts old.files mid r given new.files some x.0) x.1

-- each command reads a file
pub reads_some : (command : Command) → 0 < length (task_of command).inputs
reads_some (generate_c_source file) = omega arith
reads_some (check header source) = omega arith
reads_some (exec header source model function words) = omega arith
reads_some (encode file message words) = omega arith
reads_some (decode file number digits) = omega arith

-- memory was wanting for the answer
pub unanswered : (task : Task) (texts : List (List ℕ)) (old mid : FilesSeen) (out : SinkSeen) → 0 < length task.inputs → ReadsTexts task.inputs texts old mid → TaskEnds task (world old out) (world mid out) NoMemory
unanswered task texts old mid out some r =
    (record { count = length task.inputs; some = omega (arith, some); most = omega arith; content = r.content; calls = r.calls }, refl)

-- not all texts were read
pub unread : (task : Task) (old mid : FilesSeen) (out : SinkSeen) (status : Status) → HasNotAll task.inputs old mid status → TaskEnds task (world old out) (world mid out) status
unread task old mid out FileFault h = (inl h, refl)
unread task old mid out NoMemory h = (h, refl)
unread task old mid out Done h = absurd h
unread task old mid out Negative h = absurd h
unread task old mid out Usage h = absurd h
unread task old mid out Refused h = absurd h
unread task old mid out OutFault h = absurd h

-- words that are no command
pub usage_ends : (files : FilesSeen) (out out' : SinkSeen) (status : Status) → Tells out out' usage_report Usage status → TaskEnds no_task (world files out) (world files out') status
usage_ends files out out' status t = by_telling t where
  untouched : Leaves no_task wrong_words files files
  untouched = record {
    found = record { texts = []; read = tt; given = refl; whole = refl };
    written = record { content = refl; calls = no_calls files.calls _ (omega arith) };
    untouched = λ e. refl;
  }

  at : (own : Status) → status ≡ own → TaskEnds no_task (world files out) (world files out') own → TaskEnds no_task (world files out) (world files out') status
  at own e g = subst (λ (s : Status). TaskEnds no_task (world files out) (world files out') s) (sym e) g

  by_telling : Tells out out' usage_report Usage status → TaskEnds no_task (world files out) (world files out') status
  by_telling (inl x) = at Usage x.0 (wrong_words, refl, untouched, x.1)
  by_telling (inr x) = at OutFault x.0 (wrong_words, untouched, x.1)
