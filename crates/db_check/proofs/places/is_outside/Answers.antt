use Rattle.std.proofs.Common.{arith}
use Rattle.std.proofs.lemmas.Grind.{common_steps}
use Rattle.db_check.proofs.TakenPlaces.{starts}
use Rattle.db_check.proofs.places.is_outside.Goals as goal

pub returns-then-signal-size : goal.returns-then-signal-size
returns-then-signal-size c = (λ t. (c.args.signal.now.start, starts c.args.signal.now c.requires.bits, c.if-signal-size.true), λ _. grind (arith, common_steps))
