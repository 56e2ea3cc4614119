use Rattle.c_parser.proofs.Stack.{outermost-first}
use Rattle.c_parser.proofs.matching.outermost.Goals as goal

pub returns-in-len1-up : goal.returns-in-len1-up
returns-in-len1-up c = outermost-first c.args.ones.now _ c.in-len1-up.len_at_least
