use Rattle.c_parser.proofs.Signed.{more-signs}
use Rattle.c_parser.proofs.case_value.signs.Goals as goal

pub loop-op-preserved : goal.loop-op-preserved
loop-op-preserved c =
    rw c.in_ok-push.ensures.items (more-signs c.args.tokens.now c.loop-op.count c.loop-op.signs.items c.in-Some.op c.loop-op.invariant c.in-Some.ensures.some)
