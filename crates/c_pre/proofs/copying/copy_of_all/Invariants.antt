use Rattle.std.proofs.Common.{◌≡◌, take}
use Rattle.c_pre.proofs.copying.copy_of_all.Given as goal

abbrev pub invariant-loop-token : goal.invariant-loop-token
invariant-loop-token l = l.list ≡ take l.token-index l.tokens
