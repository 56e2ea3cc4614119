-- What is read is what is spelled.
use Rattle.limit_fraction.proofs.SpelledDecimals.{spelled-answer, only-answer}
use Rattle.limit_fraction.proofs.number.Decimal.read.Goals as goal

pub returns-clause-spelled : goal.returns-clause-spelled
returns-clause-spelled c = spelled-answer c.args.bytes.now c.read_decimal.result c.read_decimal.ensures

pub returns-clause-only : goal.returns-clause-only
returns-clause-only c = only-answer c.args.bytes.now c.read_decimal.result c.read_decimal.ensures
