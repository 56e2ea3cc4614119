-- The functions stand behind the front.
use Rattle.std.proofs.lemmas.Result.{on_ok_weaker}
use Rattle.gen_unit.specs.Source.{opening_parts}
use Rattle.gen_unit.proofs.CalledParts.{text-is}
use Rattle.gen_unit.proofs.source_unit.print_source.Goals as goal

pub returns : goal.returns
returns c =
    on_ok_weaker c.print_functions.result
    (text-is c.args.out.now.items c.print_front.new.out.items c.print_functions.new.out.items (opening_parts c.args.file.now) c.args.messages.now c.items.result.now c.args.names.now.messages c.items.ensures
    c.in_ok-print_front.ensures) c.print_functions.ensures
