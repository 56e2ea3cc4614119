use Rattle.c_parser.proofs.Waiting.{continues}
use Rattle.c_parser.proofs.pending.join.Goals as goal

pub returns-in-None-clause-value : goal.returns-in-None-clause-value
returns-in-None-clause-value c a end left = rw c.in_ok-made.ensures (continues a c.args.last c.args.made end c.args.rest.now c.in-None.is left c.if-is_else.ensures)
