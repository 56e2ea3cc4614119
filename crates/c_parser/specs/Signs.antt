-- The signs that stand before the value of a `case`.
use Rattle.std.specs.Prelude.{◌≡◌, ℕ, ◌≤◌, List, [], ◌∷◌, length, drop, None, Some, Ok}
use Rattle.c_text.specs.declared.place.Place.{Place}
use Rattle.c_text.specs.declared.token.Token.{Token}
use Rattle.c_tree.specs.declared.expression.UnaryOp.{UnaryOp}
use Rattle.cg_out.specs.Words.{◌>>=◌}
use Rattle.c_tree.specs.Operators.{sign_of}
use Rattle.c_tree.specs.CaseValue.{case_value}
use Rattle.c_expression.specs.At.{IsAt}
use Rattle.c_expression.specs.Prefixes.{with_prefixes}
use Rattle.c_expression.specs.declared.prefixes.PrefixOp.{PrefixOp}
use Rattle.c_expression.specs.declared.prefixes.PrefixKind.TheVariants.{Sign}

-- no sign stands at the front
abbrev pub NoSign : List Token → Type 0
NoSign [] = Unit {0}
NoSign (t ∷ ts) = sign_of t.kind ≡ None

-- behind the first n tokens stands this sign
pub record IsSignAt (n : ℕ) (ts : List Token) (p : PrefixOp) : Type 0 where
  pub token : Token
  pub at : IsAt n ts token
  pub op : UnaryOp
  pub signs : sign_of token.kind ≡ Some op
  pub is : p ≡ record { place = token.place; kind = Sign op }

-- the first n tokens are these: the value is that behind them, with them before it
pub record AreSigns (ts : List Token) (n : ℕ) (ps : List PrefixOp) : Type 0 where
  pub within : n ≤ length ts
  pub before : (room : ℕ) (after : Place) → case_value room ts after ≡ (case_value room (drop n ts) after >>= λ e. Ok (with_prefixes ps e))
