-- Expressions without their places: two are equal but for places where these are equal.
use Rattle.std.specs.Prelude.{ℕ, List, [], ◌∷◌}
use Rattle.c_text.specs.declared.token.Constant.{Constant}
use Rattle.c_text.specs.declared.token.Spelled.{Spelled}
use Rattle.c_tree.specs.declared.expression.Callee.{Callee}
use Rattle.c_tree.specs.declared.expression.UnaryOp.{UnaryOp}
use Rattle.c_tree.specs.declared.expression.BinaryOp.{BinaryOp}
use Rattle.c_tree.specs.declared.expression.Expr.{Expr, Expr-F, fold-Expr}
use Rattle.c_tree.specs.declared.expression.ExprKind.TheOpen.{ExprKind-F}

mutual
  pub data Tree : Type 0 where
    constant : Constant → Tree
    name : List ℕ → Tree
    null : Tree
    -- `base->field`
    member : (base field : List ℕ) → Tree
    -- `base[index]`
    element : (base : List ℕ) → (index : Tree) → Tree
    call : (function : Callee) → (arguments : Trees) → Tree
    unary : UnaryOp → Tree → Tree
    cast : Spelled → Tree → Tree
    binary : BinaryOp → (left right : Tree) → Tree
    bracket : Tree → Tree

  pub data Trees : Type 0 where
    none : Trees
    more : Tree → Trees → Trees

abbrev pub trees_of : List Tree → Trees
trees_of [] = none
trees_of (t ∷ ts) = more t (trees_of ts)

-- ---- of an expression

-- one level, with the parts in their places
abbrev pub kind_step : ExprKind-F Tree Tree → Tree
kind_step (ExprKind-F.Constant c) = constant c
kind_step (ExprKind-F.Name n) = name n
kind_step ExprKind-F.Null = null
kind_step (ExprKind-F.Member base field) = member base field
kind_step (ExprKind-F.Element base index) = element base index
kind_step (ExprKind-F.Call function args) = call function (trees_of args)
kind_step (ExprKind-F.Unary op operand) = unary op operand
kind_step (ExprKind-F.Cast to operand) = cast to operand
kind_step (ExprKind-F.Binary op left right) = binary op left right
kind_step (ExprKind-F.Bracket inner) = bracket inner

abbrev pub expr_step : Expr-F Tree Tree → Tree
expr_step e = e.kind

-- the expression without its places
abbrev pub bare_expression : Expr → Tree
bare_expression = fold-Expr Tree Tree kind_step expr_step
