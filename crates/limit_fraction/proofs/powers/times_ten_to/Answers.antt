-- Ten to the power 38 fits, and already passes the limit.
use Rattle.std.proofs.Common.{arith}
use Rattle.limit_fraction.proofs.Tens.{tens_fit, tens_above}
use Rattle.limit_fraction.proofs.powers.times_ten_to.Goals as goal

pub pow-requires : goal.pow-requires
pow-requires c = tens_fit _ c.if-power-le38.true

pub returns-else-size-eq0 : goal.returns-else-size-eq0
returns-else-size-eq0 c =
    omega (arith, tens_above c.args.size c.args.power (omega arith) c.if-power-le38.false)
