use Rattle.std.proofs.Common.{ap, ◌∙◌}
use Rattle.dbc_build.specs.Reading.{initial_from, whole_in}
use Rattle.dbc_build.proofs.facts.Facts.initial.Goals as goal

pub returns : goal.returns
returns c = c.initial.ensures ∙ ap (λ v. initial_from c.args.length c.args.signed (whole_in v)) c.attribute-value.ensures
