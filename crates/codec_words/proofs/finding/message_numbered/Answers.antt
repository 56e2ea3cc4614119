use Rattle.std.proofs.Common.{sym}
use Rattle.command_words.specs.NumberWord.{number_in}
use Rattle.codec_words.proofs.Numbers.{without_number}
use Rattle.codec_words.proofs.finding.message_numbered.Goals as goal

pub returns-in-None : goal.returns-in-None
returns-in-None c = sym (without_number c.args.messages.now (number_in c.args.word.now) (sym c.in-None.ensures))
