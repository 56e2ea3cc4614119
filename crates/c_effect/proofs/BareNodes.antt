-- The trees without places of expressions, statements and parts of a switch, by their forms.
use Rattle.std.proofs.Common.{◌≡◌, ℕ, List, map, Option, Some, None, sym, ap, ◌∙◌}
use Rattle.c_text.specs.declared.place.Place.{Place}
use Rattle.c_text.specs.declared.token.Constant.{Constant}
use Rattle.c_text.specs.declared.token.Spelled.{Spelled}
use Rattle.c_tree.specs.declared.expression.BinaryOp.{BinaryOp}
use Rattle.c_tree.specs.declared.expression.Callee.{Callee}
use Rattle.c_tree.specs.declared.expression.Expr.{Expr, fold_out-Expr}
use Rattle.c_tree.specs.declared.expression.ExprKind.{fold-roll-ExprKind}
use Rattle.c_tree.specs.declared.expression.ExprKind.TheOpen.{ExprKind-F}
use Rattle.c_tree.specs.declared.expression.ExprKind.TheVariants as k
use Rattle.c_tree.specs.declared.expression.UnaryOp.{UnaryOp}
use Rattle.c_tree.specs.declared.statement.AssignOp.{AssignOp}
use Rattle.c_tree.specs.declared.statement.Stmt.{Stmt, fold_out-Stmt}
use Rattle.c_tree.specs.declared.statement.StmtKind.{fold-roll-StmtKind}
use Rattle.c_tree.specs.declared.statement.StmtKind.TheOpen.{StmtKind-F}
use Rattle.c_tree.specs.declared.statement.StmtKind.TheVariants as s
use Rattle.c_tree.specs.declared.statement.SwitchPart.{SwitchPart, SwitchPart-F, fold-roll-SwitchPart}
use Rattle.c_tree.specs.declared.statement.SwitchPart.TheVariants as p
use Rattle.c_tree.specs.BareExpression as tree
use Rattle.c_tree.specs.BareExpression.{Tree, bare_expression}
use Rattle.c_tree.specs.BareStatement as a
use Rattle.c_tree.specs.BareStatement.{Action, BarePart, bare_statement, bare_option, bare_all}
use Rattle.c_effect.proofs.Equations.{node, stmt}
use Rattle.c_effect.proofs.Placeless.{bare_kind, bare_stmt_kind, bare_part}

-- of the kind, whatever the place
bare-is : (e : Expr) → bare_expression e ≡ bare_kind e.kind
bare-is e = fold_out-Expr Tree Tree tree.kind_step tree.expr_step e

bare_stmt-is : (x : Stmt) → bare_statement x ≡ bare_stmt_kind x.kind
bare_stmt-is x = fold_out-Stmt Action BarePart Action a.kind_step a.part_step a.stmt_step x

-- ---- expressions

pub bare-Constant : (place : Place) (c : Constant) → bare_expression (node place (k.Constant c)) ≡ tree.constant c
bare-Constant place c = bare-is (node place (k.Constant c)) ∙ ap bare_kind (sym (k.rolls-Constant c)) ∙ fold-roll-ExprKind Tree Tree tree.kind_step tree.expr_step (ExprKind-F.Constant c)

pub bare-Name : (place : Place) (name : List ℕ) → bare_expression (node place (k.Name name)) ≡ tree.name name
bare-Name place name = bare-is (node place (k.Name name)) ∙ ap bare_kind (sym (k.rolls-Name name)) ∙ fold-roll-ExprKind Tree Tree tree.kind_step tree.expr_step (ExprKind-F.Name name)

pub bare-Null : (place : Place) → bare_expression (node place k.Null) ≡ tree.null
bare-Null place = bare-is (node place k.Null) ∙ ap bare_kind (sym k.rolls-Null) ∙ fold-roll-ExprKind Tree Tree tree.kind_step tree.expr_step ExprKind-F.Null

pub bare-Member : (place : Place) (base : List ℕ) (field : List ℕ) → bare_expression (node place (k.Member base field)) ≡ tree.member base field
bare-Member place base field = bare-is (node place (k.Member base field)) ∙ ap bare_kind (sym (k.rolls-Member base field)) ∙ fold-roll-ExprKind Tree Tree tree.kind_step tree.expr_step (ExprKind-F.Member base field)

pub bare-Element : (place : Place) (base : List ℕ) (index : Expr) → bare_expression (node place (k.Element base index)) ≡ tree.element base (bare_expression index)
bare-Element place base index = bare-is (node place (k.Element base index)) ∙ ap bare_kind (sym (k.rolls-Element base index)) ∙ fold-roll-ExprKind Tree Tree tree.kind_step tree.expr_step (ExprKind-F.Element base index)

pub bare-Call : (place : Place) (function : Callee) (args : List Expr) → bare_expression (node place (k.Call function args)) ≡ tree.call function (bare_all args)
bare-Call place function args = bare-is (node place (k.Call function args)) ∙ ap bare_kind (sym (k.rolls-Call function args)) ∙ fold-roll-ExprKind Tree Tree tree.kind_step tree.expr_step (ExprKind-F.Call function args)

pub bare-Unary : (place : Place) (op : UnaryOp) (x : Expr) → bare_expression (node place (k.Unary op x)) ≡ tree.unary op (bare_expression x)
bare-Unary place op x = bare-is (node place (k.Unary op x)) ∙ ap bare_kind (sym (k.rolls-Unary op x)) ∙ fold-roll-ExprKind Tree Tree tree.kind_step tree.expr_step (ExprKind-F.Unary op x)

pub bare-Cast : (place : Place) (to : Spelled) (x : Expr) → bare_expression (node place (k.Cast to x)) ≡ tree.cast to (bare_expression x)
bare-Cast place to x = bare-is (node place (k.Cast to x)) ∙ ap bare_kind (sym (k.rolls-Cast to x)) ∙ fold-roll-ExprKind Tree Tree tree.kind_step tree.expr_step (ExprKind-F.Cast to x)

pub bare-Binary : (place : Place) (op : BinaryOp) (left : Expr) (right : Expr) → bare_expression (node place (k.Binary op left right)) ≡ tree.binary op (bare_expression left) (bare_expression right)
bare-Binary place op left right = bare-is (node place (k.Binary op left right)) ∙ ap bare_kind (sym (k.rolls-Binary op left right)) ∙ fold-roll-ExprKind Tree Tree tree.kind_step tree.expr_step (ExprKind-F.Binary op left right)

pub bare-Bracket : (place : Place) (x : Expr) → bare_expression (node place (k.Bracket x)) ≡ tree.bracket (bare_expression x)
bare-Bracket place x = bare-is (node place (k.Bracket x)) ∙ ap bare_kind (sym (k.rolls-Bracket x)) ∙ fold-roll-ExprKind Tree Tree tree.kind_step tree.expr_step (ExprKind-F.Bracket x)

-- ---- statements

pub bare-Declare : (place : Place) (kind : Spelled) (name : List ℕ) (value : Option Expr) → bare_statement (stmt place (s.Declare kind name value)) ≡ a.declare kind name (bare_option value)
bare-Declare place kind name value = bare_stmt-is (stmt place (s.Declare kind name value)) ∙ ap bare_stmt_kind (sym (s.rolls-Declare kind name value)) ∙ fold-roll-StmtKind Action BarePart Action a.kind_step a.part_step a.stmt_step (StmtKind-F.Declare kind name value)

pub bare-Assign : (place : Place) (target : Expr) (op : AssignOp) (value : Expr) → bare_statement (stmt place (s.Assign target op value)) ≡ a.assign (bare_expression target) op (bare_expression value)
bare-Assign place target op value = bare_stmt-is (stmt place (s.Assign target op value)) ∙ ap bare_stmt_kind (sym (s.rolls-Assign target op value)) ∙ fold-roll-StmtKind Action BarePart Action a.kind_step a.part_step a.stmt_step (StmtKind-F.Assign target op value)

pub bare-CallStatement : (place : Place) (function : Callee) (args : List Expr) → bare_statement (stmt place (s.Call function args)) ≡ a.call function (bare_all args)
bare-CallStatement place function args = bare_stmt-is (stmt place (s.Call function args)) ∙ ap bare_stmt_kind (sym (s.rolls-Call function args)) ∙ fold-roll-StmtKind Action BarePart Action a.kind_step a.part_step a.stmt_step (StmtKind-F.Call function args)

pub bare-Discard : (place : Place) (name : List ℕ) → bare_statement (stmt place (s.Discard name)) ≡ a.discard name
bare-Discard place name = bare_stmt-is (stmt place (s.Discard name)) ∙ ap bare_stmt_kind (sym (s.rolls-Discard name)) ∙ fold-roll-StmtKind Action BarePart Action a.kind_step a.part_step a.stmt_step (StmtKind-F.Discard name)

pub bare-Empty : (place : Place) → bare_statement (stmt place s.Empty) ≡ a.empty
bare-Empty place = bare_stmt-is (stmt place s.Empty) ∙ ap bare_stmt_kind (sym s.rolls-Empty) ∙ fold-roll-StmtKind Action BarePart Action a.kind_step a.part_step a.stmt_step StmtKind-F.Empty

pub bare-Block : (place : Place) (list : List Stmt) → bare_statement (stmt place (s.Block list)) ≡ a.block (a.actions_of (map bare_statement list))
bare-Block place list = bare_stmt-is (stmt place (s.Block list)) ∙ ap bare_stmt_kind (sym (s.rolls-Block list)) ∙ fold-roll-StmtKind Action BarePart Action a.kind_step a.part_step a.stmt_step (StmtKind-F.Block list)

pub bare-If : (place : Place) (condition : Expr) (taken : Stmt) → bare_statement (stmt place (s.If condition taken None)) ≡ a.when (bare_expression condition) (bare_statement taken)
bare-If place condition taken = bare_stmt-is (stmt place (s.If condition taken None)) ∙ ap bare_stmt_kind (sym (s.rolls-If condition taken None)) ∙ fold-roll-StmtKind Action BarePart Action a.kind_step a.part_step a.stmt_step (StmtKind-F.If condition taken None)

pub bare-IfElse : (place : Place) (condition : Expr) (taken : Stmt) (other : Stmt) → bare_statement (stmt place (s.If condition taken (Some other))) ≡ a.choose (bare_expression condition) (bare_statement taken) (bare_statement other)
bare-IfElse place condition taken other = bare_stmt-is (stmt place (s.If condition taken (Some other))) ∙ ap bare_stmt_kind (sym (s.rolls-If condition taken (Some other))) ∙ fold-roll-StmtKind Action BarePart Action a.kind_step a.part_step a.stmt_step (StmtKind-F.If condition taken (Some other))

pub bare-Return : (place : Place) (value : Option Expr) → bare_statement (stmt place (s.Return value)) ≡ a.return (bare_option value)
bare-Return place value = bare_stmt-is (stmt place (s.Return value)) ∙ ap bare_stmt_kind (sym (s.rolls-Return value)) ∙ fold-roll-StmtKind Action BarePart Action a.kind_step a.part_step a.stmt_step (StmtKind-F.Return value)

pub bare-Break : (place : Place) → bare_statement (stmt place s.Break) ≡ a.break
bare-Break place = bare_stmt-is (stmt place s.Break) ∙ ap bare_stmt_kind (sym s.rolls-Break) ∙ fold-roll-StmtKind Action BarePart Action a.kind_step a.part_step a.stmt_step StmtKind-F.Break

pub bare-Switch : (place : Place) (value : Expr) (parts : List SwitchPart) → bare_statement (stmt place (s.Switch value parts)) ≡ a.switch (bare_expression value) (a.parts_of (map bare_part parts))
bare-Switch place value parts = bare_stmt-is (stmt place (s.Switch value parts)) ∙ ap bare_stmt_kind (sym (s.rolls-Switch value parts)) ∙ fold-roll-StmtKind Action BarePart Action a.kind_step a.part_step a.stmt_step (StmtKind-F.Switch value parts)

-- ---- parts of a switch

pub bare-Label : (value : Option Expr) (place : Place) → bare_part (p.Label value place) ≡ a.a_label (bare_option value)
bare-Label value place = ap bare_part (sym (p.rolls-Label value place)) ∙ fold-roll-SwitchPart Action BarePart Action a.kind_step a.part_step a.stmt_step (SwitchPart-F.Label value place)

pub bare-Statement : (x : Stmt) → bare_part (p.Statement x) ≡ a.a_statement (bare_statement x)
bare-Statement x = ap bare_part (sym (p.rolls-Statement x)) ∙ fold-roll-SwitchPart Action BarePart Action a.kind_step a.part_step a.stmt_step (SwitchPart-F.Statement x)

-- all of them
pub ruleset bares = (bare-Constant, bare-Name, bare-Null, bare-Member, bare-Element, bare-Call, bare-Unary, bare-Cast, bare-Binary, bare-Bracket, bare-Declare, bare-Assign, bare-CallStatement, bare-Discard, bare-Empty, bare-Block, bare-If, bare-IfElse, bare-Return, bare-Break, bare-Switch, bare-Label, bare-Statement)
