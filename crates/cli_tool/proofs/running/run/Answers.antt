-- What must come, and what the pair is, follow from how a run may end.
use Rattle.std.specs.declared.option.Option.{Option}
use Rattle.std.specs.declared.option.Option.TheVariants.{None, Some}
use Rattle.cli_tool.specs.World.{World, world}
use Rattle.cli_tool.specs.Command.{Command, generate_c_source, check, exec, encode, decode, command_of}
use Rattle.cli_tool.specs.TaskEnds.{TaskEnds}
use Rattle.cli_tool.specs.Ends.{task_found, task_asked, PairOfCommand}
use Rattle.cli_tool.specs.declared.status.Status.{Status}
use Rattle.cli_tool.proofs.Comes.{comes}
use Rattle.cli_tool.proofs.Decided.{decided}
use Rattle.cli_tool.proofs.Pairs.{pair_stands}
use Rattle.cli_tool.proofs.running.run.Goals as goal

pub returns-clause-comes : goal.returns-clause-comes
returns-clause-comes g c =
    let old : World = world (g.F.Files.seen c.args.files.now) (g.O.Sink.seen c.args.out.now) in
    let new : World = world (g.F.Files.seen c.run_command.new.files) (g.O.Sink.seen c.run_command.new.out) in
    comes (task_asked c.args.words.now) (decided (command_of c.args.words.now)) old new c.run_command.result c.run_command.ensures.ends

by_command : (command : Option Command) (old new : World) (status : Status) → TaskEnds (task_found command) old new status → PairOfCommand command old new status
by_command None old new status e = tt
by_command (Some (generate_c_source file)) old new status e = pair_stands file old new status e
by_command (Some (check header source)) old new status e = tt
by_command (Some (exec header source model function words)) old new status e = tt
by_command (Some (encode file message words)) old new status e = tt
by_command (Some (decode file number digits)) old new status e = tt

pub returns-clause-pair : goal.returns-clause-pair
returns-clause-pair g c =
    let old : World = world (g.F.Files.seen c.args.files.now) (g.O.Sink.seen c.args.out.now) in
    let new : World = world (g.F.Files.seen c.run_command.new.files) (g.O.Sink.seen c.run_command.new.out) in
    by_command (command_of c.args.words.now) old new c.run_command.result c.run_command.ensures.ends
