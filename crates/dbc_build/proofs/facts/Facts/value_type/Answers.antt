use Rattle.std.proofs.Common.{ap, ◌∙◌}
use Rattle.std.specs.Option.{option_copied}
use Rattle.dbc_build.specs.Facts.{value_type_of}
use Rattle.dbc_build.proofs.facts.Facts.value_type.Goals as goal

pub returns : goal.returns
returns c =
    ap option_copied (c.copied.ensures ∙ c.get.ensures.value)
    ∙ c.self.invariant.value_type c.args.id c.args.name
    ∙ ap (value_type_of c.args.id c.args.name.now) c.self.view_is
