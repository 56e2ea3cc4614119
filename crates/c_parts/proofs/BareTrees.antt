-- What a tree without its places is, for each kind of node.
use Rattle.std.proofs.Common.{rules, ◌≡◌, ℕ, List, map, Option, Some, None}
use Rattle.c_text.specs.declared.place.Place.{Place}
use Rattle.c_text.specs.declared.token.Constant.{Constant}
use Rattle.c_text.specs.declared.token.Spelled.{Spelled}
use Rattle.c_tree.specs.declared.expression.Callee.{Callee}
use Rattle.c_tree.specs.declared.expression.UnaryOp.{UnaryOp}
use Rattle.c_tree.specs.declared.expression.BinaryOp.{BinaryOp}
use Rattle.c_tree.specs.declared.expression.Expr.{Expr}
use Rattle.c_tree.specs.declared.expression.ExprKind.{the_lemmas}
use Rattle.c_tree.specs.declared.expression.ExprKind.TheVariants as k
use Rattle.c_tree.specs.declared.statement.AssignOp.{AssignOp}
use Rattle.c_tree.specs.declared.statement.Stmt.{Stmt}
use Rattle.c_tree.specs.declared.statement.StmtKind.{the_lemmas as stmt_lemmas}
use Rattle.c_tree.specs.declared.statement.StmtKind.TheVariants as s
use Rattle.c_tree.specs.declared.statement.SwitchPart.{SwitchPart}
use Rattle.c_tree.specs.declared.statement.SwitchPart.TheVariants.{Label, Statement}
use Rattle.c_tree.specs.ExpressionCut.{node}
use Rattle.c_tree.specs.StatementCut.{stmt}
use Rattle.c_tree.specs.BareExpression as t
use Rattle.c_tree.specs.BareExpression.{bare_expression}
use Rattle.c_tree.specs.BareStatement as a
use Rattle.c_tree.specs.BareStatement.{a_label, a_statement, bare_switch_part, bare_option, bare_all, bare_statement, actions_of, parts_of}

-- ---- expressions

pub bare-constant : (p : Place) (c : Constant) → bare_expression (node p (k.Constant c)) ≡ t.constant c
bare-constant p c = search (rules, the_lemmas)

pub bare-name : (p : Place) (n : List ℕ) → bare_expression (node p (k.Name n)) ≡ t.name n
bare-name p n = search (rules, the_lemmas)

pub bare-null : (p : Place) → bare_expression (node p k.Null) ≡ t.null
bare-null p = search (rules, the_lemmas)

pub bare-member : (p : Place) (base field : List ℕ) → bare_expression (node p (k.Member base field)) ≡ t.member base field
bare-member p base field = search (rules, the_lemmas)

pub bare-element : (p : Place) (base : List ℕ) (i : Expr) → bare_expression (node p (k.Element base i)) ≡ t.element base (bare_expression i)
bare-element p base i = search (rules, the_lemmas)

pub bare-call : (p : Place) (f : Callee) (es : List Expr) → bare_expression (node p (k.Call f es)) ≡ t.call f (bare_all es)
bare-call p f es = search (rules, the_lemmas)

pub bare-unary : (p : Place) (o : UnaryOp) (e : Expr) → bare_expression (node p (k.Unary o e)) ≡ t.unary o (bare_expression e)
bare-unary p o e = search (rules, the_lemmas)

pub bare-cast : (p : Place) (to : Spelled) (e : Expr) → bare_expression (node p (k.Cast to e)) ≡ t.cast to (bare_expression e)
bare-cast p to e = search (rules, the_lemmas)

pub bare-binary : (p : Place) (o : BinaryOp) (l r : Expr) → bare_expression (node p (k.Binary o l r)) ≡ t.binary o (bare_expression l) (bare_expression r)
bare-binary p o l r = search (rules, the_lemmas)

pub bare-bracket : (p : Place) (e : Expr) → bare_expression (node p (k.Bracket e)) ≡ t.bracket (bare_expression e)
bare-bracket p e = search (rules, the_lemmas)

-- ---- statements

pub bare-declare : (p : Place) (kind : Spelled) (n : List ℕ) (v : Option Expr) → bare_statement (stmt p (s.Declare kind n v)) ≡ a.declare kind n (bare_option v)
bare-declare p kind n v = search (rules, stmt_lemmas)

pub bare-assign : (p : Place) (target : Expr) (o : AssignOp) (v : Expr) → bare_statement (stmt p (s.Assign target o v)) ≡ a.assign (bare_expression target) o (bare_expression v)
bare-assign p target o v = search (rules, stmt_lemmas)

pub bare-call-statement : (p : Place) (f : Callee) (es : List Expr) → bare_statement (stmt p (s.Call f es)) ≡ a.call f (bare_all es)
bare-call-statement p f es = search (rules, stmt_lemmas)

pub bare-discard : (p : Place) (n : List ℕ) → bare_statement (stmt p (s.Discard n)) ≡ a.discard n
bare-discard p n = search (rules, stmt_lemmas)

pub bare-empty : (p : Place) → bare_statement (stmt p s.Empty) ≡ a.empty
bare-empty p = search (rules, stmt_lemmas)

pub bare-block : (p : Place) (list : List Stmt) → bare_statement (stmt p (s.Block list)) ≡ a.block (actions_of (map bare_statement list))
bare-block p list = search (rules, stmt_lemmas)

pub bare-when : (p : Place) (c : Expr) (x : Stmt) → bare_statement (stmt p (s.If c x None)) ≡ a.when (bare_expression c) (bare_statement x)
bare-when p c x = search (rules, stmt_lemmas)

pub bare-choose : (p : Place) (c : Expr) (x y : Stmt) → bare_statement (stmt p (s.If c x (Some y))) ≡ a.choose (bare_expression c) (bare_statement x) (bare_statement y)
bare-choose p c x y = search (rules, stmt_lemmas)

pub bare-return : (p : Place) (v : Option Expr) → bare_statement (stmt p (s.Return v)) ≡ a.return (bare_option v)
bare-return p v = search (rules, stmt_lemmas)

pub bare-break : (p : Place) → bare_statement (stmt p s.Break) ≡ a.break
bare-break p = search (rules, stmt_lemmas)

-- ---- the parts of a switch

pub bare-switch : (p : Place) (v : Expr) (parts : List SwitchPart) → bare_statement (stmt p (s.Switch v parts)) ≡ a.switch (bare_expression v) (parts_of (map bare_switch_part parts))
bare-switch p v parts = search (rules, stmt_lemmas)

pub bare-label : (v : Option Expr) (p : Place) → bare_switch_part (Label v p) ≡ a_label (bare_option v)
bare-label v p = search (rules, stmt_lemmas)

pub bare-statement-part : (x : Stmt) → bare_switch_part (Statement x) ≡ a_statement (bare_statement x)
bare-statement-part x = search (rules, stmt_lemmas)
