use Rattle.std.proofs.Common.{◌≡◌, ◌≤◌, drop}
use Rattle.c_tree.specs.Brackets.{deep_from}
use Rattle.c_parser.proofs.matching.first_deep.Given as goal

abbrev pub invariant-loop-at : goal.invariant-loop-at
invariant-loop-at l = record {
  shallow : l.depth ≤ l.at;
  rest : deep_from l.at l.depth (drop l.at l.tokens) ≡ deep_from 0 0 l.tokens;
}
