use Rattle.std.proofs.Common.{◌≡◌, None, drop}
use Rattle.c_types.specs.Scope.{innermost}
use Rattle.name_table.specs.Entries.{lent}
use Rattle.c_types.proofs.local.innermost.Given as goal

-- the blocks that are left have the answer
abbrev pub invariant-loop-block : goal.invariant-loop-block
invariant-loop-block l = innermost l.name (drop l.block-index l.blocks) (lent l.found) ≡ innermost l.name l.blocks None
