use Rattle.std.proofs.Common.{◌≡◌, ◌≤◌, length}
use Rattle.c_tree.specs.Sequence.{all_read}
use Rattle.c_tree.specs.StructCut.{each_field}
use Rattle.c_expression.specs.Front.{with_front}
use Rattle.c_parser.proofs.declarations.all_fields.Given as goal

abbrev pub invariant-loop-left : goal.invariant-loop-left
invariant-loop-left l = record {
  within : length l.left ≤ length l.tokens;
  rest : with_front l.list (all_read each_field 0 l.left) ≡ all_read each_field 0 l.tokens;
}

abbrev pub decreases-loop-left : goal.decreases-loop-left
decreases-loop-left l = length l.left
