use Rattle.std.proofs.Common.{◌≡◌, ◌≤◌, drop}
use Rattle.c_tree.specs.Brackets as spec
use Rattle.c_expression.specs.Stop.{stops}
use Rattle.c_expression.proofs.brackets.first_outside.Given as goal

abbrev pub invariant-loop-i : goal.invariant-loop-i
invariant-loop-i l = record {
  shallow : l.depth ≤ l.i;
  rest : spec.first_outside (stops l.stop) l.i l.depth (drop l.i l.tokens) ≡ spec.first_outside (stops l.stop) 0 0 l.tokens;
}
