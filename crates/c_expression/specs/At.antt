-- Single tokens, by how many stand before them.
use Rattle.std.specs.Prelude.{◌≡◌, ℕ, ◌+◌, ◌<◌, List, [], ◌∷◌, drop, Option, Some, None}
use Rattle.c_text.specs.declared.place.Place.{Place}
use Rattle.c_text.specs.declared.token.Token.{Token}
use Rattle.c_tree.specs.declared.expression.BinaryOp.{BinaryOp}
use Rattle.c_tree.specs.Operators.{Leveled, operator}

-- behind the first n tokens stands this one
pub record IsAt (n : ℕ) (ts : List Token) (t : Token) : Type 0 where
  pub is : drop n ts ≡ t ∷ drop (n + 1) ts

-- behind the first n tokens stands this operator
pub record IsInfixAt (n : ℕ) (ts : List Token) (level : ℕ) (op : BinaryOp) (place : Place) : Type 0 where
  pub token : Token
  pub at : IsAt n ts token
  pub operates : operator token.kind ≡ Some (level, op)
  pub place_is : token.place ≡ place

abbrev pub StopsAt : ℕ → Option Leveled → Type 0
StopsAt bound None = Unit {0}
StopsAt bound (Some o) = o.0 < bound

-- no operator as tight as the bound comes next
abbrev pub Stops : ℕ → List Token → Type 0
Stops bound [] = Unit {0}
Stops bound (t ∷ ts) = StopsAt bound (operator t.kind)
