-- How the value of a `case` is cut: a constant, with signs and brackets round it.
use Rattle.std.specs.Prelude.{ℕ, zero, suc, ◌+◌, Bool, true, false, List, [], ◌∷◌, length, Option, Some, None, Ok, Err}
use Rattle.c_text.specs.declared.place.Place.{Place}
use Rattle.c_text.specs.declared.token.Token.{Token}
use Rattle.c_text.specs.declared.token.TokenKind.{TokenKind}
use Rattle.c_text.specs.declared.token.TokenKind.TheVariants.{Constant as Number, Mark}
use Rattle.c_tree.specs.declared.symbol.Bracket.TheVariants.{Round}
use Rattle.c_tree.specs.declared.expression.UnaryOp.{UnaryOp}
use Rattle.c_tree.specs.declared.expression.ExprKind.TheVariants as k
use Rattle.cg_out.specs.Words.{◌>>=◌}
use Rattle.c_tree.specs.Brackets.{opens, is_bracket, syntax}
use Rattle.c_tree.specs.Operators.{sign_of}
use Rattle.c_tree.specs.ExpressionCut.{Cutting, Cutter, node, inside, Closed, closed}

abbrev pub in_round : Cutter → ℕ → Place → Option Closed → Cutting
in_round cut room place None = Err (syntax place)
in_round cut room place (Some c) = do
  e ← inside room place (λ r. cut r c.inner c.close)
  Ok (node place (k.Bracket e))

abbrev pub value_at_mark : Cutter → ℕ → Bool → Place → List Token → Cutting
value_at_mark cut room true place ts = in_round cut room place (closed ts)
value_at_mark cut room false place ts = Err (syntax place)

abbrev pub unsigned : Cutter → ℕ → TokenKind → Place → List Token → Cutting
unsigned cut room (Number c) place [] = Ok (node place (k.Constant c))
unsigned cut room (Mark m) place ts = value_at_mark cut room (is_bracket Round (opens (Mark m))) place ts
unsigned cut room other place ts = Err (syntax place)

abbrev pub signed : Cutter → ℕ → Option UnaryOp → Token → List Token → Place → Cutting
signed cut room None t ts after = unsigned cut room t.kind t.place ts
signed cut room (Some o) t ts after = do
  e ← cut room ts after
  Ok (node t.place (k.Unary o e))

abbrev pub value_step : Cutter → Cutter
value_step cut room [] after = Err (syntax after)
value_step cut room (t ∷ ts) after = signed cut room (sign_of t.kind) t ts after

abbrev pub value_within : ℕ → Cutter
value_within zero room ts after = Err (syntax after)
value_within (suc n) room ts after = value_step (value_within n) room ts after

-- each part is shorter
unfoldable pub case_value : Cutter
case_value room ts after = value_within (length ts + 1) room ts after
