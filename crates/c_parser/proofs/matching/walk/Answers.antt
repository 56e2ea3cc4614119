use Rattle.c_parser.proofs.Stack.{opens-one}
use Rattle.c_parser.proofs.matching.walk.Goals as goal

pub returns-in-Some-clause-value : goal.returns-in-Some-clause-value
returns-in-Some-clause-value c = rw (← c.in-Some.ensures) (opens-one c.args.ones.now.items c.push.new.self.items _ c.in_ok-push.ensures.items)
