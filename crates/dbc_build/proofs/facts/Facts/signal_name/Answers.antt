use Rattle.std.proofs.Common.{ap, ◌∙◌}
use Rattle.dbc_build.specs.Reading.{long_name}
use Rattle.dbc_build.proofs.facts.Facts.signal_name.Goals as goal

pub returns : goal.returns
returns c = c.long_name.ensures ∙ ap (long_name c.args.written.now) c.attribute-value.ensures
