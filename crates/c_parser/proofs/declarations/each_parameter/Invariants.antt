use Rattle.std.proofs.Common.{◌≡◌, ◌≤◌, ◌+◌, length}
use Rattle.c_tree.specs.ExpressionCut.{parts}
use Rattle.c_tree.specs.ParameterCut.{each_parameter}
use Rattle.c_expression.specs.Front.{with_front}
use Rattle.c_expression.specs.Parts.{parts_left, count_left}
use Rattle.c_parser.proofs.declarations.each_parameter.Given as goal

abbrev pub invariant-loop-left : goal.invariant-loop-left
invariant-loop-left l = record {
  within : count_left l.left ≤ length l.tokens + 1;
  rest : with_front l.list (each_parameter (parts_left l.close l.left)) ≡ each_parameter (parts l.close 0 l.tokens);
}

abbrev pub decreases-loop-left : goal.decreases-loop-left
decreases-loop-left l = count_left l.left
