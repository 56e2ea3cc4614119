-- Which forms of expressions and of statements call, one level at a time (ISO/IEC 9899:1999, 6.5.2.2).
use Rattle.std.proofs.Common.{◌≡◌, ℕ, Bool, true, false, ◌||◌, List, map, Option, Some, None, sym, ap, ◌∙◌}
use Rattle.c_text.specs.declared.place.Place.{Place}
use Rattle.c_text.specs.declared.token.Constant.{Constant}
use Rattle.c_text.specs.declared.token.Spelled.{Spelled}
use Rattle.c_tree.specs.declared.expression.Callee.{Callee}
use Rattle.c_tree.specs.declared.expression.Expr.{Expr, fold_out-Expr}
use Rattle.c_tree.specs.declared.expression.ExprKind.{ExprKind, fold-ExprKind, map-ExprKind, roll-ExprKind, fold-roll-ExprKind}
use Rattle.c_tree.specs.declared.expression.ExprKind.TheOpen.{ExprKind-F}
use Rattle.c_tree.specs.declared.expression.ExprKind.TheVariants as k
use Rattle.c_tree.specs.declared.expression.UnaryOp.{UnaryOp}
use Rattle.c_tree.specs.declared.expression.BinaryOp.{BinaryOp}
use Rattle.c_tree.specs.declared.statement.AssignOp.{AssignOp}
use Rattle.c_tree.specs.declared.statement.Stmt.{Stmt, fold_out-Stmt}
use Rattle.c_tree.specs.declared.statement.StmtKind.{StmtKind, fold-StmtKind, map-StmtKind, roll-StmtKind, fold-roll-StmtKind}
use Rattle.c_tree.specs.declared.statement.StmtKind.TheOpen.{StmtKind-F}
use Rattle.c_tree.specs.declared.statement.StmtKind.TheVariants as t
use Rattle.c_tree.specs.declared.statement.SwitchPart.{SwitchPart, SwitchPart-F, fold-roll-SwitchPart}
use Rattle.c_tree.specs.declared.statement.SwitchPart.TheVariants as p
use Rattle.c_types.specs.Calling.{some_true, calls_kind_step, calls_expr_step, expression_calls, value_calls, calls_action_step, calls_part_step, calls_stmt_step, statement_calls, part_calls, statements_call}
use Rattle.c_effect.proofs.Equations.{node, stmt}

abbrev kind_calls : ExprKind → Bool
kind_calls = fold-ExprKind Bool Bool calls_kind_step calls_expr_step

by-kind : (place : Place) (z : ExprKind-F ExprKind Expr) (kind : ExprKind) → roll-ExprKind z ≡ kind → expression_calls (node place kind) ≡ calls_kind_step (map-ExprKind ExprKind Expr Bool Bool kind_calls expression_calls z)
by-kind place z kind is = fold_out-Expr Bool Bool calls_kind_step calls_expr_step (node place kind) ∙ ap kind_calls (sym is) ∙ fold-roll-ExprKind Bool Bool calls_kind_step calls_expr_step z

abbrev action_calls : StmtKind → Bool
action_calls = fold-StmtKind Bool Bool Bool calls_action_step calls_part_step calls_stmt_step

by-stmt-kind : (place : Place) (z : StmtKind-F StmtKind SwitchPart Stmt) (kind : StmtKind) → roll-StmtKind z ≡ kind
    → statement_calls (stmt place kind) ≡ calls_action_step (map-StmtKind StmtKind SwitchPart Stmt Bool Bool Bool action_calls part_calls statement_calls z)
by-stmt-kind place z kind is =
    fold_out-Stmt Bool Bool Bool calls_action_step calls_part_step calls_stmt_step (stmt place kind) ∙ ap action_calls (sym is)
    ∙ fold-roll-StmtKind Bool Bool Bool calls_action_step calls_part_step calls_stmt_step z

-- ---- expressions

pub calls-Constant : (place : Place) (c : Constant) → expression_calls (node place (k.Constant c)) ≡ false
calls-Constant place c = by-kind place (ExprKind-F.Constant c) (k.Constant c) (k.rolls-Constant c)

pub calls-Name : (place : Place) (name : List ℕ) → expression_calls (node place (k.Name name)) ≡ false
calls-Name place name = by-kind place (ExprKind-F.Name name) (k.Name name) (k.rolls-Name name)

pub calls-Null : (place : Place) → expression_calls (node place k.Null) ≡ false
calls-Null place = by-kind place ExprKind-F.Null k.Null k.rolls-Null

pub calls-Member : (place : Place) (base field : List ℕ) → expression_calls (node place (k.Member base field)) ≡ false
calls-Member place base field = by-kind place (ExprKind-F.Member base field) (k.Member base field) (k.rolls-Member base field)

pub calls-Element : (place : Place) (base : List ℕ) (index : Expr) → expression_calls (node place (k.Element base index)) ≡ expression_calls index
calls-Element place base index = by-kind place (ExprKind-F.Element base index) (k.Element base index) (k.rolls-Element base index)

pub calls-Call : (place : Place) (function : Callee) (args : List Expr) → expression_calls (node place (k.Call function args)) ≡ true
calls-Call place function args = by-kind place (ExprKind-F.Call function args) (k.Call function args) (k.rolls-Call function args)

pub calls-Unary : (place : Place) (op : UnaryOp) (x : Expr) → expression_calls (node place (k.Unary op x)) ≡ expression_calls x
calls-Unary place op x = by-kind place (ExprKind-F.Unary op x) (k.Unary op x) (k.rolls-Unary op x)

pub calls-Cast : (place : Place) (to : Spelled) (x : Expr) → expression_calls (node place (k.Cast to x)) ≡ expression_calls x
calls-Cast place to x = by-kind place (ExprKind-F.Cast to x) (k.Cast to x) (k.rolls-Cast to x)

pub calls-Binary : (place : Place) (op : BinaryOp) (left right : Expr) → expression_calls (node place (k.Binary op left right)) ≡ (expression_calls left || expression_calls right)
calls-Binary place op left right = by-kind place (ExprKind-F.Binary op left right) (k.Binary op left right) (k.rolls-Binary op left right)

pub calls-Bracket : (place : Place) (x : Expr) → expression_calls (node place (k.Bracket x)) ≡ expression_calls x
calls-Bracket place x = by-kind place (ExprKind-F.Bracket x) (k.Bracket x) (k.rolls-Bracket x)

-- ---- statements

pub calls-Declare : (place : Place) (kind : Spelled) (name : List ℕ) (value : Option Expr) → statement_calls (stmt place (t.Declare kind name value)) ≡ value_calls value
calls-Declare place kind name value = by-stmt-kind place (StmtKind-F.Declare kind name value) (t.Declare kind name value) (t.rolls-Declare kind name value)

pub calls-Assign : (place : Place) (target : Expr) (op : AssignOp) (value : Expr) → statement_calls (stmt place (t.Assign target op value)) ≡ (expression_calls target || expression_calls value)
calls-Assign place target op value = by-stmt-kind place (StmtKind-F.Assign target op value) (t.Assign target op value) (t.rolls-Assign target op value)

pub calls-CallStatement : (place : Place) (function : Callee) (args : List Expr) → statement_calls (stmt place (t.Call function args)) ≡ true
calls-CallStatement place function args = by-stmt-kind place (StmtKind-F.Call function args) (t.Call function args) (t.rolls-Call function args)

pub calls-Discard : (place : Place) (name : List ℕ) → statement_calls (stmt place (t.Discard name)) ≡ false
calls-Discard place name = by-stmt-kind place (StmtKind-F.Discard name) (t.Discard name) (t.rolls-Discard name)

pub calls-Empty : (place : Place) → statement_calls (stmt place t.Empty) ≡ false
calls-Empty place = by-stmt-kind place StmtKind-F.Empty t.Empty t.rolls-Empty

pub calls-Block : (place : Place) (list : List Stmt) → statement_calls (stmt place (t.Block list)) ≡ statements_call list
calls-Block place list = by-stmt-kind place (StmtKind-F.Block list) (t.Block list) (t.rolls-Block list)

pub calls-If : (place : Place) (condition : Expr) (taken : Stmt) → statement_calls (stmt place (t.If condition taken None)) ≡ (expression_calls condition || (statement_calls taken || false))
calls-If place condition taken = by-stmt-kind place (StmtKind-F.If condition taken None) (t.If condition taken None) (t.rolls-If condition taken None)

pub calls-IfElse : (place : Place) (condition : Expr) (taken other : Stmt) → statement_calls (stmt place (t.If condition taken (Some other))) ≡ (expression_calls condition || (statement_calls taken || statement_calls other))
calls-IfElse place condition taken other = by-stmt-kind place (StmtKind-F.If condition taken (Some other)) (t.If condition taken (Some other)) (t.rolls-If condition taken (Some other))

pub calls-Return : (place : Place) (value : Option Expr) → statement_calls (stmt place (t.Return value)) ≡ value_calls value
calls-Return place value = by-stmt-kind place (StmtKind-F.Return value) (t.Return value) (t.rolls-Return value)

pub calls-Break : (place : Place) → statement_calls (stmt place t.Break) ≡ false
calls-Break place = by-stmt-kind place StmtKind-F.Break t.Break t.rolls-Break

pub calls-Switch : (place : Place) (value : Expr) (parts : List SwitchPart) → statement_calls (stmt place (t.Switch value parts)) ≡ (expression_calls value || some_true (map part_calls parts))
calls-Switch place value parts = by-stmt-kind place (StmtKind-F.Switch value parts) (t.Switch value parts) (t.rolls-Switch value parts)

-- ---- parts of a switch

pub calls-Label : (value : Option Expr) (place : Place) → part_calls (p.Label value place) ≡ value_calls value
calls-Label value place = ap part_calls (sym (p.rolls-Label value place)) ∙ fold-roll-SwitchPart Bool Bool Bool calls_action_step calls_part_step calls_stmt_step (SwitchPart-F.Label value place)

pub calls-Statement : (x : Stmt) → part_calls (p.Statement x) ≡ statement_calls x
calls-Statement x = ap part_calls (sym (p.rolls-Statement x)) ∙ fold-roll-SwitchPart Bool Bool Bool calls_action_step calls_part_step calls_stmt_step (SwitchPart-F.Statement x)

-- all of them
pub ruleset calls = (calls-Constant, calls-Name, calls-Null, calls-Member, calls-Element, calls-Call, calls-Unary, calls-Cast, calls-Binary, calls-Bracket, calls-Declare, calls-Assign, calls-CallStatement, calls-Discard, calls-Empty, calls-Block, calls-If, calls-IfElse, calls-Return, calls-Break, calls-Switch, calls-Label, calls-Statement)
