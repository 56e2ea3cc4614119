-- Operators between two operands, outside brackets, and the tokens between them.
use Rattle.std.specs.Prelude.{◌≡◌, ℕ, ◌+◌, ◌<◌, ◌≤◌, Bool, ◌&&◌, ◌==◌, is_some, List, [], ◌∷◌, length, take, drop, None, Some, Result, Ok, Err}
use Rattle.c_text.specs.declared.place.Place.{Place}
use Rattle.c_text.specs.declared.token.Token.{Token}
use Rattle.c_tree.specs.declared.expression.Expr.{Expr}
use Rattle.c_tree.specs.Operators.{Leveled, operator}
use Rattle.c_tree.specs.Sequence.{place_at}
use Rattle.c_text.specs.declared.refusal.CFault.{CFault}
use Rattle.c_text.specs.declared.refusal.CFault.TheVariants.{Fault, Memory}
use Rattle.c_text.specs.Refusal.{Refusal}
use Rattle.c_tree.specs.ExpressionCut.{Before, start, operand, is_operand, last_from, expression_of}
use Rattle.c_tree.specs.TokenRun.{depth_over, before_over}
use Rattle.c_expression.specs.At.{IsAt}

-- a token between two operands, outside brackets, that is an operator
abbrev pub cuts_here : ℕ → Before → Token → Bool
cuts_here depth before t = depth == 0 && (is_operand before && is_some (operator t.kind))

-- behind these tokens stands an operator, outside brackets and behind an operand
pub record IsJoint (ls : List Token) (t : Token) : Type 0 where
  pub flat : depth_over 0 ls ≡ 0
  pub ended : before_over start ls ≡ operand
  pub leveled : Leveled
  pub operates : operator t.kind ≡ Some leveled

-- no operator that is looser than the bound stands between operands of these tokens
pub record IsTight (bound : ℕ) (ts : List Token) : Type 0 where
  pub none : (level at : ℕ) → level < bound → last_from level at 0 start ts ≡ None

-- no operator at all does, since all levels are below 9
abbrev pub IsJointless : List Token → Type 0
IsJointless ts = IsTight 9 ts

-- the operator is looser than the bound
pub record IsLooser (bound : ℕ) (ls : List Token) (t : Token) : Type 0 where
  pub joint : IsJoint ls t
  pub looser : joint.leveled.0 < bound

-- the tokens behind these are none, or begin with an operator between operands that is looser than the bound
abbrev pub EndsAt : ℕ → List Token → List Token → Type 0
EndsAt bound ls [] = Unit {0}
EndsAt bound ls (t ∷ ts) = IsLooser bound ls t

-- the first operator between operands stands behind the first n tokens
pub record IsFirstJoint (n : ℕ) (ts : List Token) : Type 0 where
  pub token : Token
  pub at : IsAt n ts token
  pub joint : IsJoint (take n ts) token
  pub first : IsJointless (take n ts)

-- ---- what was read from the front of tokens

-- the first n tokens are cut into the tree, up to an operator that is no tighter than their loosest
pub record Grown (room least : ℕ) (after : Place) (ts : List Token) (n : ℕ) (e : Expr) : Type 0 where
  pub within : n ≤ length ts
  pub cuts : expression_of room (take n ts) (place_at (drop n ts) after) ≡ Ok e
  pub bound : ℕ
  pub above : least ≤ bound
  pub tight : IsTight bound (take n ts)
  pub ends : EndsAt (bound + 1) (take n ts) (drop n ts)

-- the same, up to an operator that is looser than the level
pub record GrownAll (room least : ℕ) (after : Place) (ts : List Token) (n : ℕ) (e : Expr) : Type 0 where
  pub within : n ≤ length ts
  pub cuts : expression_of room (take n ts) (place_at (drop n ts) after) ≡ Ok e
  pub tight : IsTight least (take n ts)
  pub ends : EndsAt least (take n ts) (drop n ts)

-- a fault is that of the definition
abbrev pub Faults : {X Y : Type 0} → Result X CFault → Result Y Refusal → Type 0
Faults (Ok x) defined = Unit {0}
Faults (Err (Fault kind place)) defined = defined ≡ Err (record { kind = kind; place = place })
Faults (Err Memory) defined = Unit {0}
