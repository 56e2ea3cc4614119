use Rattle.std.proofs.Common.{ap, ◌∙◌}
use Rattle.cg_out.specs.Words.{look_up}
use Rattle.name_table.proofs.Adding.{adds-last}
use Rattle.name_table.proofs.table.Table.put_first.Goals as goal

pub returns-in_ok-put : goal.returns-in_ok-put
returns-in_ok-put g c = λ n. ap (look_up n) c.in_ok-put.ensures ∙ adds-last c.args.self.now (c.args.name.now, c.args.value) n
