use Rattle.std.proofs.Common.{[], ◌∷◌, ◌++◌, ap, ◌∙◌, map}
use Rattle.c_pre.specs.Shown.{flats}
use Rattle.c_pre.specs.Entries.{named}
use Rattle.c_pre.specs.Run.{look}
use Rattle.c_pre.proofs.Tables.{insert-new}
use Rattle.c_pre.proofs.macros.Macros.define.Goals as goal

pub returns : goal.returns
returns c =
    ap (map named) c.in_ok-insert.ensures.entries
    ∙ insert-new c.args.name c.args.body c.self.inside.table.entries (ap (look c.args.name.now) c.self.view_is ∙ c.requires)
    ∙ ap (λ ms. ms ++ (c.args.name.now, flats c.args.body.now) ∷ []) c.self.view_is
