use Rattle.std.proofs.Common.{sym}
use Rattle.c_pre.proofs.Bodies.{same_body-longer}
use Rattle.c_pre.proofs.comparing.same_body.Goals as goal

pub returns-then-first-second : goal.returns-then-first-second
returns-then-first-second c = sym (same_body-longer c.args.first.now c.args.second.now c.if-first-second.true)
