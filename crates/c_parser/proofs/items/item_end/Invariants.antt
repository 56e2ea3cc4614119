use Rattle.std.proofs.Common.{◌≡◌, ◌≤◌, drop}
use Rattle.c_tree.specs.UnitCut as spec
use Rattle.c_parser.proofs.items.item_end.Given as goal

abbrev pub invariant-loop-i : goal.invariant-loop-i
invariant-loop-i l = record {
  shallow : l.depth ≤ l.i;
  rest : spec.item_end l.i l.depth (drop l.i l.tokens) ≡ spec.item_end 0 0 l.tokens;
}
