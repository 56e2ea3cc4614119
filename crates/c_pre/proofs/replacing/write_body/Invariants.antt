use Rattle.std.proofs.Common.{◌≡◌, ◌++◌, drop}
use Rattle.c_pre.proofs.Tables.{body_left}
use Rattle.c_pre.proofs.replacing.write_body.Given as goal

abbrev pub invariant-loop-token : goal.invariant-loop-token
invariant-loop-token l = l.out ++ body_left l.name l.fresh (drop l.token-index l.body) ≡ l.fn.out ++ body_left l.name l.name.fresh l.body
