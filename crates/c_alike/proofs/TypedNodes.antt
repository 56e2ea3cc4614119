-- What each form of expressions, of statements and of parts of a switch is for the types, one level at a time (ISO/IEC 9899:1999, 6.5 and 6.8).
use Rattle.std.proofs.Common.{◌≡◌, ℕ, List, map, Option, Some, None, sym, ap, ◌∙◌}
use Rattle.c_text.specs.declared.place.Place.{Place}
use Rattle.c_text.specs.declared.token.Constant.{Constant}
use Rattle.c_text.specs.declared.token.Spelled.{Spelled}
use Rattle.c_tree.specs.declared.expression.Callee.{Callee}
use Rattle.c_tree.specs.declared.expression.Expr.{Expr, fold_out-Expr}
use Rattle.c_tree.specs.declared.expression.ExprKind.{ExprKind, map-ExprKind, roll-ExprKind, fold-roll-ExprKind}
use Rattle.c_tree.specs.declared.expression.ExprKind.TheOpen.{ExprKind-F}
use Rattle.c_tree.specs.declared.expression.ExprKind.TheVariants as k
use Rattle.c_tree.specs.declared.expression.UnaryOp.{UnaryOp}
use Rattle.c_tree.specs.declared.expression.BinaryOp.{BinaryOp}
use Rattle.c_tree.specs.declared.statement.AssignOp.{AssignOp}
use Rattle.c_tree.specs.declared.statement.Stmt.{Stmt, fold_out-Stmt}
use Rattle.c_tree.specs.declared.statement.StmtKind.{StmtKind, map-StmtKind, roll-StmtKind, fold-roll-StmtKind}
use Rattle.c_tree.specs.declared.statement.StmtKind.TheOpen.{StmtKind-F}
use Rattle.c_tree.specs.declared.statement.StmtKind.TheVariants as t
use Rattle.c_tree.specs.declared.statement.SwitchPart.{SwitchPart, SwitchPart-F, fold-roll-SwitchPart}
use Rattle.c_tree.specs.declared.statement.SwitchPart.TheVariants as p
use Rattle.c_types.specs.Scope.{Scope}
use Rattle.c_types.specs.Setting.{Setting}
use Rattle.c_types.specs.ExpressionTypes.{Wanted, Typing, kind_step, expr_step, typing, kind_typing}
use Rattle.c_types.specs.StatementTypes.{Checked, CheckedPart, statement, kind_statement, part, part_step, stmt_step}
use Rattle.c_types.specs.StatementTypes as st
use Rattle.c_effect.proofs.Equations.{node, stmt}

module _ (s : Setting) where
  -- ---- expressions

  -- one level of a form, with its parts in their places
  by-kind : (place : Place) (z : ExprKind-F ExprKind Expr) (kind : ExprKind) → roll-ExprKind z ≡ kind → (wanted : Wanted) (scope : Scope)
      → typing s (node place kind) wanted scope ≡ kind_step s (map-ExprKind ExprKind Expr (Place → Typing) Typing (kind_typing s) (typing s) z) place wanted scope
  by-kind place z kind is wanted scope =
      ap (λ f. f wanted scope) (fold_out-Expr (Place → Typing) Typing (kind_step s) expr_step (node place kind))
      ∙ ap (λ f. f place wanted scope) (ap (kind_typing s) (sym is) ∙ fold-roll-ExprKind (Place → Typing) Typing (kind_step s) expr_step z)

  pub types-Constant : (place : Place) (c : Constant) (wanted : Wanted) (scope : Scope)
      → typing s (node place (k.Constant c)) wanted scope ≡ kind_step s (ExprKind-F.Constant c) place wanted scope
  types-Constant place c wanted scope = by-kind place (ExprKind-F.Constant c) (k.Constant c) (k.rolls-Constant c) wanted scope

  pub types-Name : (place : Place) (name : List ℕ) (wanted : Wanted) (scope : Scope)
      → typing s (node place (k.Name name)) wanted scope ≡ kind_step s (ExprKind-F.Name name) place wanted scope
  types-Name place name wanted scope = by-kind place (ExprKind-F.Name name) (k.Name name) (k.rolls-Name name) wanted scope

  pub types-Null : (place : Place) (wanted : Wanted) (scope : Scope)
      → typing s (node place k.Null) wanted scope ≡ kind_step s ExprKind-F.Null place wanted scope
  types-Null place wanted scope = by-kind place ExprKind-F.Null k.Null k.rolls-Null wanted scope

  pub types-Member : (place : Place) (base field : List ℕ) (wanted : Wanted) (scope : Scope)
      → typing s (node place (k.Member base field)) wanted scope ≡ kind_step s (ExprKind-F.Member base field) place wanted scope
  types-Member place base field wanted scope = by-kind place (ExprKind-F.Member base field) (k.Member base field) (k.rolls-Member base field) wanted scope

  pub types-Element : (place : Place) (base : List ℕ) (index : Expr) (wanted : Wanted) (scope : Scope)
      → typing s (node place (k.Element base index)) wanted scope ≡ kind_step s (ExprKind-F.Element base (typing s index)) place wanted scope
  types-Element place base index wanted scope = by-kind place (ExprKind-F.Element base index) (k.Element base index) (k.rolls-Element base index) wanted scope

  pub types-Call : (place : Place) (function : Callee) (args : List Expr) (wanted : Wanted) (scope : Scope)
      → typing s (node place (k.Call function args)) wanted scope ≡ kind_step s (ExprKind-F.Call function (map (typing s) args)) place wanted scope
  types-Call place function args wanted scope = by-kind place (ExprKind-F.Call function args) (k.Call function args) (k.rolls-Call function args) wanted scope

  pub types-Unary : (place : Place) (op : UnaryOp) (x : Expr) (wanted : Wanted) (scope : Scope)
      → typing s (node place (k.Unary op x)) wanted scope ≡ kind_step s (ExprKind-F.Unary op (typing s x)) place wanted scope
  types-Unary place op x wanted scope = by-kind place (ExprKind-F.Unary op x) (k.Unary op x) (k.rolls-Unary op x) wanted scope

  pub types-Cast : (place : Place) (to : Spelled) (x : Expr) (wanted : Wanted) (scope : Scope)
      → typing s (node place (k.Cast to x)) wanted scope ≡ kind_step s (ExprKind-F.Cast to (typing s x)) place wanted scope
  types-Cast place to x wanted scope = by-kind place (ExprKind-F.Cast to x) (k.Cast to x) (k.rolls-Cast to x) wanted scope

  pub types-Binary : (place : Place) (op : BinaryOp) (left right : Expr) (wanted : Wanted) (scope : Scope)
      → typing s (node place (k.Binary op left right)) wanted scope ≡ kind_step s (ExprKind-F.Binary op (typing s left) (typing s right)) place wanted scope
  types-Binary place op left right wanted scope = by-kind place (ExprKind-F.Binary op left right) (k.Binary op left right) (k.rolls-Binary op left right) wanted scope

  pub types-Bracket : (place : Place) (x : Expr) (wanted : Wanted) (scope : Scope)
      → typing s (node place (k.Bracket x)) wanted scope ≡ kind_step s (ExprKind-F.Bracket (typing s x)) place wanted scope
  types-Bracket place x wanted scope = by-kind place (ExprKind-F.Bracket x) (k.Bracket x) (k.rolls-Bracket x) wanted scope

  -- ---- statements

  by-stmt-kind : (place : Place) (z : StmtKind-F StmtKind SwitchPart Stmt) (kind : StmtKind) → roll-StmtKind z ≡ kind
      → statement s (stmt place kind) ≡ st.kind_step s (map-StmtKind StmtKind SwitchPart Stmt (Place → Checked) CheckedPart Checked (kind_statement s) (part s) (statement s) z) place
  by-stmt-kind place z kind is =
      fold_out-Stmt (Place → Checked) CheckedPart Checked (st.kind_step s) (part_step s) stmt_step (stmt place kind)
      ∙ ap (λ f. f place) (ap (kind_statement s) (sym is) ∙ fold-roll-StmtKind (Place → Checked) CheckedPart Checked (st.kind_step s) (part_step s) stmt_step z)

  pub checks-Declare : (place : Place) (kind : Spelled) (name : List ℕ) (value : Option Expr) → statement s (stmt place (t.Declare kind name value)) ≡ st.kind_step s (StmtKind-F.Declare kind name value) place
  checks-Declare place kind name value = by-stmt-kind place (StmtKind-F.Declare kind name value) (t.Declare kind name value) (t.rolls-Declare kind name value)

  pub checks-Assign : (place : Place) (target : Expr) (op : AssignOp) (value : Expr) → statement s (stmt place (t.Assign target op value)) ≡ st.kind_step s (StmtKind-F.Assign target op value) place
  checks-Assign place target op value = by-stmt-kind place (StmtKind-F.Assign target op value) (t.Assign target op value) (t.rolls-Assign target op value)

  pub checks-CallStatement : (place : Place) (function : Callee) (args : List Expr) → statement s (stmt place (t.Call function args)) ≡ st.kind_step s (StmtKind-F.Call function args) place
  checks-CallStatement place function args = by-stmt-kind place (StmtKind-F.Call function args) (t.Call function args) (t.rolls-Call function args)

  pub checks-Discard : (place : Place) (name : List ℕ) → statement s (stmt place (t.Discard name)) ≡ st.kind_step s (StmtKind-F.Discard name) place
  checks-Discard place name = by-stmt-kind place (StmtKind-F.Discard name) (t.Discard name) (t.rolls-Discard name)

  pub checks-Empty : (place : Place) → statement s (stmt place t.Empty) ≡ st.kind_step s StmtKind-F.Empty place
  checks-Empty place = by-stmt-kind place StmtKind-F.Empty t.Empty t.rolls-Empty

  pub checks-Block : (place : Place) (list : List Stmt) → statement s (stmt place (t.Block list)) ≡ st.kind_step s (StmtKind-F.Block (map (statement s) list)) place
  checks-Block place list = by-stmt-kind place (StmtKind-F.Block list) (t.Block list) (t.rolls-Block list)

  pub checks-If : (place : Place) (condition : Expr) (taken : Stmt) → statement s (stmt place (t.If condition taken None)) ≡ st.kind_step s (StmtKind-F.If condition (statement s taken) None) place
  checks-If place condition taken = by-stmt-kind place (StmtKind-F.If condition taken None) (t.If condition taken None) (t.rolls-If condition taken None)

  pub checks-IfElse : (place : Place) (condition : Expr) (taken other : Stmt) → statement s (stmt place (t.If condition taken (Some other))) ≡ st.kind_step s (StmtKind-F.If condition (statement s taken) (Some (statement s other))) place
  checks-IfElse place condition taken other = by-stmt-kind place (StmtKind-F.If condition taken (Some other)) (t.If condition taken (Some other)) (t.rolls-If condition taken (Some other))

  pub checks-Return : (place : Place) (value : Option Expr) → statement s (stmt place (t.Return value)) ≡ st.kind_step s (StmtKind-F.Return value) place
  checks-Return place value = by-stmt-kind place (StmtKind-F.Return value) (t.Return value) (t.rolls-Return value)

  pub checks-Break : (place : Place) → statement s (stmt place t.Break) ≡ st.kind_step s StmtKind-F.Break place
  checks-Break place = by-stmt-kind place StmtKind-F.Break t.Break t.rolls-Break

  pub checks-Switch : (place : Place) (value : Expr) (parts : List SwitchPart) → statement s (stmt place (t.Switch value parts)) ≡ st.kind_step s (StmtKind-F.Switch value (map (part s) parts)) place
  checks-Switch place value parts = by-stmt-kind place (StmtKind-F.Switch value parts) (t.Switch value parts) (t.rolls-Switch value parts)

  -- ---- parts of a switch

  pub checks-Label : (value : Option Expr) (place : Place) → part s (p.Label value place) ≡ part_step s (SwitchPart-F.Label value place)
  checks-Label value place = ap (part s) (sym (p.rolls-Label value place)) ∙ fold-roll-SwitchPart (Place → Checked) CheckedPart Checked (st.kind_step s) (part_step s) stmt_step (SwitchPart-F.Label value place)

  pub checks-Statement : (x : Stmt) → part s (p.Statement x) ≡ part_step s (SwitchPart-F.Statement (statement s x))
  checks-Statement x = ap (part s) (sym (p.rolls-Statement x)) ∙ fold-roll-SwitchPart (Place → Checked) CheckedPart Checked (st.kind_step s) (part_step s) stmt_step (SwitchPart-F.Statement x)
