use Rattle.std.proofs.Common.{◌≡◌, ◌+◌, ◌≤◌, drop}
use Rattle.c_tree.specs.Brackets.{closing_from}
use Rattle.c_expression.proofs.brackets.closing.Given as goal

abbrev pub invariant-loop-i : goal.invariant-loop-i
invariant-loop-i l = record {
  shallow : l.depth ≤ l.i + 1;
  rest : closing_from l.i l.depth (drop l.i l.tokens) ≡ closing_from 0 1 l.tokens;
}
