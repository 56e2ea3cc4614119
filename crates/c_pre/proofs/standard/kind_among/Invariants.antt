use Rattle.std.proofs.Common.{◌≡◌, map, drop}
use Rattle.c_pre.specs.Shown.{header_shown}
use Rattle.c_pre.specs.Run.{kind_among}
use Rattle.c_pre.proofs.standard.kind_among.Given as goal

abbrev pub invariant-loop-header : goal.invariant-loop-header
invariant-loop-header l = kind_among (map header_shown (drop l.header-index l.headers)) l.name ≡ kind_among (map header_shown l.headers) l.name
