use Rattle.std.proofs.Common.{true, false}
use Rattle.c_parser.proofs.Stack.{closes-one}
use Rattle.c_parser.proofs.matching.close.Goals as goal

pub returns-in-Some : goal.returns-in-Some
returns-in-Some c = closes-one c.args.ones.now.items c.pop.new.self.items c.in-Some.last c.args.bracket c.args.at c.args.place true c.in-Some.ensures.items c.if-same.ensures

pub returns-in_default : goal.returns-in_default
returns-in_default c = closes-one c.args.ones.now.items c.pop.new.self.items c.in-Some.last c.args.bracket c.args.at c.args.place false c.in-Some.ensures.items c.if-same.ensures
