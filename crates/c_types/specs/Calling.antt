-- Whether a function calls (ISO/IEC 9899:1999, 6.5.2.2), wherever in its statements.
use Rattle.std.specs.Prelude.{Bool, true, false, ◌||◌, List, [], ◌∷◌, map, Option, Some, None}
use Rattle.c_tree.specs.declared.expression.Expr.{Expr, Expr-F, fold-Expr}
use Rattle.c_tree.specs.declared.expression.ExprKind.TheOpen.{ExprKind-F}
use Rattle.c_tree.specs.declared.statement.Stmt.{Stmt, Stmt-F, fold-Stmt}
use Rattle.c_tree.specs.declared.statement.StmtKind.TheOpen.{StmtKind-F}
use Rattle.c_tree.specs.declared.statement.SwitchPart.{SwitchPart, SwitchPart-F, fold-SwitchPart}

abbrev pub some_true : List Bool → Bool
some_true [] = false
some_true (b ∷ bs) = b || some_true bs

-- ---- expressions

abbrev pub calls_kind_step : ExprKind-F Bool Bool → Bool
calls_kind_step (ExprKind-F.Constant c) = false
calls_kind_step (ExprKind-F.Name name) = false
calls_kind_step ExprKind-F.Null = false
calls_kind_step (ExprKind-F.Member base field) = false
calls_kind_step (ExprKind-F.Element base index) = index
calls_kind_step (ExprKind-F.Call function args) = true
calls_kind_step (ExprKind-F.Unary op operand) = operand
calls_kind_step (ExprKind-F.Cast to operand) = operand
calls_kind_step (ExprKind-F.Binary op left right) = left || right
calls_kind_step (ExprKind-F.Bracket inner) = inner

abbrev pub calls_expr_step : Expr-F Bool Bool → Bool
calls_expr_step e = e.kind

abbrev pub expression_calls : Expr → Bool
expression_calls = fold-Expr Bool Bool calls_kind_step calls_expr_step

abbrev pub value_calls : Option Expr → Bool
value_calls None = false
value_calls (Some e) = expression_calls e

-- ---- statements

abbrev pub branch_calls : Option Bool → Bool
branch_calls None = false
branch_calls (Some b) = b

abbrev pub calls_action_step : StmtKind-F Bool Bool Bool → Bool
calls_action_step (StmtKind-F.Declare kind name value) = value_calls value
calls_action_step (StmtKind-F.Assign target op value) = expression_calls target || expression_calls value
calls_action_step (StmtKind-F.Call function args) = true
calls_action_step (StmtKind-F.Discard name) = false
calls_action_step StmtKind-F.Empty = false
calls_action_step (StmtKind-F.Block list) = some_true list
calls_action_step (StmtKind-F.If condition taken other) = expression_calls condition || (taken || branch_calls other)
calls_action_step (StmtKind-F.Return value) = value_calls value
calls_action_step StmtKind-F.Break = false
calls_action_step (StmtKind-F.Switch value parts) = expression_calls value || some_true parts

abbrev pub calls_part_step : SwitchPart-F Bool Bool Bool → Bool
calls_part_step (SwitchPart-F.Label value place) = value_calls value
calls_part_step (SwitchPart-F.Statement s) = s

abbrev pub calls_stmt_step : Stmt-F Bool Bool Bool → Bool
calls_stmt_step s = s.kind

abbrev pub statement_calls : Stmt → Bool
statement_calls = fold-Stmt Bool Bool Bool calls_action_step calls_part_step calls_stmt_step

abbrev pub part_calls : SwitchPart → Bool
part_calls = fold-SwitchPart Bool Bool Bool calls_action_step calls_part_step calls_stmt_step

abbrev pub statements_call : List Stmt → Bool
statements_call list = some_true (map statement_calls list)
