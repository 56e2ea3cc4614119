use Rattle.std.proofs.Common.{◌≡◌, ◌++◌, drop, map}
use Rattle.c_pre.specs.Shown.{flats, header_shown}
use Rattle.c_pre.specs.Run.{written}
use Rattle.c_pre.proofs.replacing.write.Given as goal

abbrev pub invariant-loop-token : goal.invariant-loop-token
invariant-loop-token l = l.out ++ written l.macros (map header_shown l.headers) (flats (drop l.token-index l.tokens)) ≡ l.fn.out ++ written l.macros (map header_shown l.headers) (flats l.tokens)
