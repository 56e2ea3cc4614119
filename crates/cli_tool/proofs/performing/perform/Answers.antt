-- What was read and what it gives, through the lemma that joins the steps.
use Rattle.cg_out.specs.Outside.{FilesSeen}
use Rattle.cli_tool.specs.World.{World, world}
use Rattle.cli_tool.specs.Ends.{task_of}
use Rattle.cli_tool.specs.Asked.{asked_by, answer_in}
use Rattle.cli_tool.proofs.Endings.{delivered, reads_some}
use Rattle.cli_tool.proofs.performing.perform.Goals as goal

pub returns-in-Ok-answered-clause-ends : goal.returns-in-Ok-answered-clause-ends
returns-in-Ok-answered-clause-ends g c =
    let command = asked_by c.args.command.now in
    let old : World = world (g.F.Files.seen c.args.files.now) (g.O.Sink.seen c.args.out.now) in
    let mid : FilesSeen = g.F.Files.seen c.read_texts.new.files in
    let new : World = world (g.F.Files.seen c.deliver.new.files) (g.O.Sink.seen c.deliver.new.out) in
    let given = rw c.deref.ensures.value at c.in-Ok-answered.ensures in
    delivered (task_of command) (answer_in c.in-Ok-answered.answer) c.in-Ok.texts.items old new mid c.deliver.result (reads_some command) (c.in-Ok.ensures).ok given c.deliver.ensures.delivers
