-- The numbers are the same in their unit.
use Rattle.std.proofs.lemmas.Result.{IfOk-weaker}
use Rattle.limit_fraction.specs.Decimal.{number_of}
use Rattle.limit_fraction.proofs.SameScale.{IsSame-factor, IsSame-offset, MeetsLimits-scale}
use Rattle.limit_fraction.proofs.scaling.making.scale.Goals as goal

pub returns-clause-factor : goal.returns-clause-factor
returns-clause-factor c = IfOk-weaker c.scaled.result _ _ (λ s is. IsSame-factor (number_of c.args.factor) (number_of c.args.offset) s is) c.scaled.ensures.ok

pub returns-clause-offset : goal.returns-clause-offset
returns-clause-offset c = IfOk-weaker c.scaled.result _ _ (λ s is. IsSame-offset (number_of c.args.factor) (number_of c.args.offset) s is) c.scaled.ensures.ok

pub returns-clause-limits : goal.returns-clause-limits
returns-clause-limits c = IfOk-weaker c.scaled.result _ _ (λ s is. MeetsLimits-scale (number_of c.args.factor) (number_of c.args.offset) s is) c.scaled.ensures.ok
