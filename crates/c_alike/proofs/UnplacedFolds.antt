-- The value of a case and whether a function calls do not hang on places.
use Rattle.std.proofs.Common.{◌≡◌, Bool, List, map, Option, Some, None, option_map, refl, ap, ◌∙◌, map-id}
use Rattle.c_tree.specs.declared.expression.Expr.{Expr, fold-Expr}
use Rattle.c_tree.specs.declared.expression.ExprKind.{map-ExprKind}
use Rattle.c_tree.specs.declared.expression.ExprKind.TheOpen.{ExprKind-F}
use Rattle.c_tree.specs.declared.statement.Stmt.{Stmt}
use Rattle.c_tree.specs.declared.statement.StmtKind.TheOpen.{StmtKind-F}
use Rattle.c_tree.specs.declared.statement.SwitchPart.{SwitchPart-F}
use Rattle.c_tree.specs.BareStatement.{actions_of, bare_statement}
use Rattle.c_widths.specs.DataModel.{DataModel}
use Rattle.c_types.specs.SwitchLabels.{Typed, case_value, value_kind_step}
use Rattle.c_types.specs.Calling.{some_true, calls_kind_step, expression_calls, value_calls, branch_calls, calls_action_step, calls_part_step, statement_calls, statements_call}
use Rattle.c_effect.proofs.Placeless.{grown_list, placeless, placeless_option}
use Rattle.c_alike.proofs.Folding.{expression-same, level_placed, part_placed, statements-same}

-- a meaning of expressions by their forms alone does not see places
module _ (A : Type 0) (step : ExprKind-F A A → A) where
  level-same : (z : ExprKind-F A A) → step (map-ExprKind A A A A (λ k. k) (λ x. x) z) ≡ step z
  level-same (ExprKind-F.Constant c) = refl
  level-same (ExprKind-F.Name name) = refl
  level-same ExprKind-F.Null = refl
  level-same (ExprKind-F.Member base field) = refl
  level-same (ExprKind-F.Element base index) = refl
  level-same (ExprKind-F.Call f args) = ap (λ xs. step (ExprKind-F.Call f xs)) (map-id args)
  level-same (ExprKind-F.Unary op x) = refl
  level-same (ExprKind-F.Cast to x) = refl
  level-same (ExprKind-F.Binary op l r) = refl
  level-same (ExprKind-F.Bracket x) = refl

  by-forms : (e : Expr) → fold-Expr A A step (λ e. e.kind) (placeless e) ≡ fold-Expr A A step (λ e. e.kind) e
  by-forms = expression-same A A (λ x p. x) step step (λ x. x) (λ z p. level-same z)

pub case_value-same : (m : DataModel) (e : Expr) → case_value m (placeless e) ≡ case_value m e
case_value-same m e = by-forms (Option Typed) (value_kind_step m) e

pub calls-same : (e : Expr) → expression_calls (placeless e) ≡ expression_calls e
calls-same e = by-forms Bool calls_kind_step e

pub value_calls-same : (e : Option Expr) → value_calls (placeless_option e) ≡ value_calls e
value_calls-same None = refl
value_calls-same (Some e) = calls-same e

-- ---- statements

branch-calls : (b : Option Bool) → branch_calls (option_map (λ x. x) b) ≡ branch_calls b
branch-calls None = refl
branch-calls (Some b) = refl

action-same : (z : StmtKind-F Bool Bool Bool) → calls_action_step (level_placed (λ x. x) (λ x. x) z) ≡ calls_action_step z
action-same (StmtKind-F.Declare kind name value) = value_calls-same value
action-same (StmtKind-F.Assign target op value) = rw (calls-same target, calls-same value) refl
action-same (StmtKind-F.Call f args) = refl
action-same (StmtKind-F.Discard name) = refl
action-same StmtKind-F.Empty = refl
action-same (StmtKind-F.Block list) = ap some_true (map-id list)
action-same (StmtKind-F.If condition taken other) = rw (calls-same condition, branch-calls other) refl
action-same (StmtKind-F.Return value) = value_calls-same value
action-same StmtKind-F.Break = refl
action-same (StmtKind-F.Switch value parts) = rw (calls-same value, map-id parts) refl

calls-part-same : (z : SwitchPart-F Bool Bool Bool) → calls_part_step (part_placed (λ x. x) z) ≡ calls_part_step z
calls-part-same (SwitchPart-F.Label value place) = value_calls-same value
calls-part-same (SwitchPart-F.Statement x) = refl

pub statements_call-same : (xs : List Stmt) → statements_call (grown_list (actions_of (map bare_statement xs))) ≡ statements_call xs
statements_call-same xs =
    ap some_true (statements-same Bool Bool Bool (λ x p. x) calls_action_step calls_action_step calls_part_step calls_part_step (λ x. x) (λ x. x) (λ z p. action-same z) calls-part-same xs
    ∙ map-id (map statement_calls xs))
