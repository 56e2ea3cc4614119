use Rattle.std.proofs.Common.{◌≡◌}
use Rattle.c_mem.specs.Cells.{filled}
use Rattle.c_mem.proofs.cells.Cells.fill.Given as goal

abbrev pub invariant-loop-i : goal.invariant-loop-i
invariant-loop-i g l = l.self-inside.content.items ≡ filled l.initial.self-inside.content.items l.value l.i
