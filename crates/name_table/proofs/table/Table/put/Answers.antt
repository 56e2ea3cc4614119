use Rattle.std.proofs.Common.{[], ◌∷◌, ◌++◌, ap, ◌∙◌, map}
use Rattle.name_table.specs.Entries.{named}
use Rattle.cg_out.specs.Words.{look_up}
use Rattle.name_table.proofs.Tables.{insert-new}
use Rattle.name_table.proofs.table.Table.put.Goals as goal

pub returns : goal.returns
returns g c =
    ap (map named) c.in_ok-insert.ensures.entries
    ∙ insert-new c.args.name c.args.value c.self.inside.entries.entries (ap (look_up c.args.name.now) c.self.view_is ∙ c.requires)
    ∙ ap (λ ms. ms ++ (c.args.name.now, c.args.value) ∷ []) c.self.view_is
