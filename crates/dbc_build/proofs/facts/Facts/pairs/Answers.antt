use Rattle.std.proofs.Common.{ap, ◌∙◌}
use Rattle.std.specs.Option.{option_copied}
use Rattle.dbc_build.specs.Facts.{choices_of}
use Rattle.dbc_build.proofs.facts.Facts.pairs.Goals as goal

pub returns : goal.returns
returns c =
    ap option_copied (c.copied.ensures ∙ c.get.ensures.value)
    ∙ c.self.invariant.choices c.args.id c.args.name
    ∙ ap (choices_of c.args.id c.args.name.now) c.self.view_is
