use Rattle.std.proofs.Common.{ap, sym, ◌∙◌, option_map}
use Rattle.c_pre.specs.Shown.{flats}
use Rattle.c_pre.specs.Run.{look}
use Rattle.c_pre.proofs.Tables.{look-lookup}
use Rattle.c_pre.proofs.macros.Macros.body_of.Goals as goal

pub returns : goal.returns
returns c = ap (option_map (λ ts. flats ts.now)) (c.copied.ensures ∙ c.get.ensures.value) ∙ sym (look-lookup c.args.name.now c.self.inside.table.entries) ∙ ap (look c.args.name.now) c.self.view_is
