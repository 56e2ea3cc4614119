use Rattle.std.proofs.Common.{◌≡◌, length}
use Rattle.c_expression.specs.Prefixes.{with_prefixes}
use Rattle.c_expression.proofs.prefixes.with_prefixes.Given as goal

abbrev pub invariant-loop-op : goal.invariant-loop-op
invariant-loop-op l = with_prefixes l.left.items l.tree ≡ with_prefixes l.fn.ops.items l.fn.operand

abbrev pub decreases-loop-op : goal.decreases-loop-op
decreases-loop-op l = length l.left.items
