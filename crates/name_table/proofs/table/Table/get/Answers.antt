use Rattle.std.proofs.Common.{ap, sym, ◌∙◌}
use Rattle.name_table.proofs.Tables.{look-lookup}
use Rattle.cg_out.specs.Words.{look_up}
use Rattle.name_table.proofs.table.Table.get.Goals as goal

pub returns : goal.returns
returns g c = c.get.ensures.value ∙ sym (look-lookup c.args.name.now c.self.inside.entries.entries) ∙ ap (look_up c.args.name.now) c.self.view_is
