use Rattle.command_words.proofs.Beginnings.{behind-stripped}
use Rattle.command_words.proofs.cutting.behind.Goals as goal

pub returns : goal.returns
returns c = behind-stripped c.args.beginning.now c.args.word.now c.strip_prefix.result c.strip_prefix.ensures.cases
