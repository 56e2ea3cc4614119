-- The value is the one whole number that the decimal stands for.
use Rattle.std.proofs.Common.{◌∙◌}
use Rattle.limit_fraction.proofs.WholeNumbers.{whole-answer, within-answer, whole-only}
use Rattle.limit_fraction.proofs.number.Decimal.whole.Goals as goal

pub returns-clause-same : goal.returns-clause-same
returns-clause-same c = whole-answer c.args.self.now c.whole_value.result c.whole_value.ensures

pub returns-clause-within : goal.returns-clause-within
returns-clause-within c = within-answer c.args.self.now c.whole_value.result c.whole_value.ensures

pub returns-clause-only : goal.returns-clause-only
returns-clause-only c = λ z small same. c.whole_value.ensures ∙ whole-only c.args.self.now z small same
