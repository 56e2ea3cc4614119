use Rattle.name_rules.specs.Identifier.{cut_short}
use Rattle.name_rules.proofs.identifying.shortened.Goals as goal

pub returns : goal.returns
unfolding cut_short
returns c = c.front.ensures
