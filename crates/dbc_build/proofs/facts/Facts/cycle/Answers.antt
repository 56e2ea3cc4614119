use Rattle.std.proofs.Common.{ap, ◌∙◌}
use Rattle.dbc_build.specs.Reading.{cycle_from, whole_in}
use Rattle.dbc_build.proofs.facts.Facts.cycle.Goals as goal

pub returns : goal.returns
returns c = c.cycle.ensures ∙ ap (λ v. cycle_from (whole_in v)) c.attribute.ensures
