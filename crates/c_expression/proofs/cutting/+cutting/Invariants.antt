use Rattle.std.proofs.Common.{◌≡◌, ◌+◌, ◌-◌, ◌*◌, ◌≤◌, length, Ok}
use Rattle.cg_out.specs.Words.{◌>>=◌}
use Rattle.c_tree.specs.ExpressionCut.{expression_of, cut_all, arguments}
use Rattle.c_expression.specs.Front.{with_front}
use Rattle.c_expression.specs.Parts.{parts_left, count_left}
use Rattle.c_expression.specs.Prefixes.{with_prefixes}
use Rattle.c_expression.specs.Joint.{IsJointless, Grown}
use Rattle.c_expression.proofs.cutting.+cutting.Given as goal

abbrev pub decreases-cut : goal.decreases-cut
decreases-cut l = 8 * length l.tokens.now + 6

abbrev pub decreases-climb : goal.decreases-climb
decreases-climb l = 8 * length l.tokens.now + 5

abbrev pub decreases-operand : goal.decreases-operand
decreases-operand l = 8 * length l.tokens.now + 4

abbrev pub decreases-alone : goal.decreases-alone
decreases-alone l = 8 * length l.tokens.now + 3

abbrev pub decreases-front_of : goal.decreases-front_of
decreases-front_of l = 8 * length l.tokens.now + 2

abbrev pub decreases-primary : goal.decreases-primary
decreases-primary l = 8 * length l.rest.now + 9

abbrev pub decreases-named : goal.decreases-named
decreases-named l = 8 * length l.rest.now + 8

abbrev pub decreases-round : goal.decreases-round
decreases-round l = 8 * length l.rest.now + 8

abbrev pub decreases-arguments : goal.decreases-arguments
decreases-arguments l = 8 * length l.tokens.now + 7

abbrev pub invariant-climb-loop-infix : goal.invariant-climb-loop-infix
invariant-climb-loop-infix l = Grown l.room l.least l.after l.tokens l.count l.left

abbrev pub decreases-climb-loop-infix : goal.decreases-climb-loop-infix
decreases-climb-loop-infix l = length l.tokens - l.count

abbrev pub invariant-alone-loop-ops : goal.invariant-alone-loop-ops
invariant-alone-loop-ops l = record {
  within : length l.left ≤ length l.tokens;
  jointless : IsJointless l.left;
  told : expression_of l.room l.tokens l.after ≡ (expression_of l.room l.left l.after >>= λ e. Ok (with_prefixes l.ops.items e));
}

abbrev pub decreases-alone-loop-ops : goal.decreases-alone-loop-ops
decreases-alone-loop-ops l = length l.left

abbrev pub invariant-arguments-loop-left : goal.invariant-arguments-loop-left
invariant-arguments-loop-left l = record {
  within : count_left l.left ≤ length l.tokens + 1;
  rest : with_front l.args (cut_all expression_of l.room (parts_left l.after l.left)) ≡ arguments expression_of l.room l.tokens l.after;
}

abbrev pub decreases-arguments-loop-left : goal.decreases-arguments-loop-left
decreases-arguments-loop-left l = count_left l.left
