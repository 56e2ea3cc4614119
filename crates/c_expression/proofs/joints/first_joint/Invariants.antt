use Rattle.std.proofs.Common.{◌≡◌, ◌≤◌, take}
use Rattle.c_tree.specs.ExpressionCut.{start}
use Rattle.c_tree.specs.TokenRun.{depth_over, before_over}
use Rattle.c_expression.specs.Before.{before_of, IsFrom}
use Rattle.c_expression.specs.Joint.{IsJointless}
use Rattle.c_expression.proofs.joints.first_joint.Given as goal

abbrev pub invariant-loop-i : goal.invariant-loop-i
invariant-loop-i l = record {
  shallow : l.depth ≤ l.i;
  from : IsFrom l.i l.before;
  flat : l.depth ≡ depth_over 0 (take l.i l.tokens);
  state : before_of l.tokens l.i l.before ≡ before_over start (take l.i l.tokens);
  none : IsJointless (take l.i l.tokens);
}
