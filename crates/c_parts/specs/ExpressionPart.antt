-- A part of an expression that was read from the left.
use Rattle.std.specs.Prelude.{◌≡◌, ℕ, ◌<◌, false, List, [], length, None, Ok}
use Rattle.c_text.specs.declared.place.Place.{Place}
use Rattle.c_text.specs.declared.token.Token.{Token}
use Rattle.c_tree.specs.declared.expression.Expr.{Expr}
use Rattle.c_tree.specs.TokenRun.{before_over, has_comma, begins_type, IsClosed}
use Rattle.c_tree.specs.ExpressionCut.{Before, bracket, operand, is_operand, round_closed, last_from, expression_of, cut_all, parts, arguments}

-- tokens that are cut into the tree, with no operator outside brackets that is looser than the bound
pub record IsPart (room bound : ℕ) (ts : List Token) (e : Expr) : Type 0 where
  pub cuts : (after : Place) → expression_of room ts after ≡ Ok e
  pub closed : IsClosed ts
  pub ended : (before : Before) → before_over before ts ≡ operand
  pub untyped : begins_type ts ≡ false
  pub tight : (level at : ℕ) (before : Before) → is_operand before ≡ false → level < bound → last_from level at 0 before ts ≡ None
  pub plain : has_comma 0 ts ≡ false

-- one argument or more
pub record AreArgs (room : ℕ) (ts : List Token) (es : List Expr) : Type 0 where
  pub closed : IsClosed ts
  pub ended : (before : Before) → before_over before ts ≡ operand
  pub some : 0 < length ts
  pub given : (after : Place) → cut_all expression_of room (parts after 0 ts) ≡ Ok es

-- what stands between the brackets of a call, and its arguments
pub record IsInner (room : ℕ) (ts : List Token) (es : List Expr) : Type 0 where
  pub closed : IsClosed ts
  pub ended : round_closed (before_over (bracket []) ts) ≡ operand
  pub given : (after : Place) → arguments expression_of room ts after ≡ Ok es
