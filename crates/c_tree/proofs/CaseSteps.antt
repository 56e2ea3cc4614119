-- A cut of a case value is one step, with the cut of its part.
use Rattle.std.proofs.Common.{◌≡◌, ℕ, zero, suc, ◌+◌, ◌<◌, ◌≤◌, List, [], ◌∷◌, length, Option, Some, None, refl, arith, Bool, true, false, add-one}
use Rattle.c_text.specs.declared.place.Place.{Place}
use Rattle.c_text.specs.declared.token.Token.{Token}
use Rattle.c_text.specs.declared.token.TokenKind.{TokenKind}
use Rattle.c_text.specs.declared.token.TokenKind.TheVariants.{Word, Constant as Number, Quoted, Mark, TypeName, Null, Memset}
use Rattle.c_tree.specs.declared.symbol.Bracket.TheVariants.{Round}
use Rattle.c_tree.specs.declared.expression.UnaryOp.{UnaryOp}
use Rattle.c_tree.specs.Brackets.{opens, is_bracket}
use Rattle.c_tree.specs.Operators.{sign_of}
use Rattle.c_tree.specs.ExpressionCut.{Cutter, Closed, closed}
use Rattle.c_tree.specs.CaseValue.{in_round, value_at_mark, unsigned, signed, value_step, value_within, case_value}
use Rattle.c_tree.proofs.ExpressionSteps.{Agree, Fits, closed-fits, inside-cut}

module _ (f g : Cutter) (n : ℕ) (h : Agree n f g) where
  in_round-same : (room : ℕ) (place : Place) (c : Option Closed) → Fits n c → in_round f room place c ≡ in_round g room place c
  in_round-same room place None le = refl
  in_round-same room place (Some c) le = rw (inside-cut f g n h room place c.inner c.close le) refl

  value_at_mark-same : (room : ℕ) (b : Bool) (place : Place) (ts : List Token) → length ts ≤ n → value_at_mark f room b place ts ≡ value_at_mark g room b place ts
  value_at_mark-same room true place ts le = in_round-same room place (closed ts) (closed-fits n ts le)
  value_at_mark-same room false place ts le = refl

  unsigned-same : (room : ℕ) (k : TokenKind) (place : Place) (ts : List Token) → length ts ≤ n → unsigned f room k place ts ≡ unsigned g room k place ts
  unsigned-same room (Number c) place [] le = refl
  unsigned-same room (Number c) place (_ ∷ _) le = refl
  unsigned-same room (Mark m) place ts le = value_at_mark-same room (is_bracket Round (opens (Mark m))) place ts le
  unsigned-same room (Word w) place ts le = refl
  unsigned-same room (Quoted q) place ts le = refl
  unsigned-same room (TypeName s) place ts le = refl
  unsigned-same room Null place ts le = refl
  unsigned-same room Memset place ts le = refl

  signed-same : (room : ℕ) (o : Option UnaryOp) (t : Token) (ts : List Token) (after : Place) → length ts < n → signed f room o t ts after ≡ signed g room o t ts after
  signed-same room None t ts after le = unsigned-same room t.kind t.place ts (omega arith)
  signed-same room (Some o) t ts after le = rw (h.at room ts after le) refl

  value_step-same : (room : ℕ) (ts : List Token) (after : Place) → length ts ≤ n → value_step f room ts after ≡ value_step g room ts after
  value_step-same room [] after le = refl
  value_step-same room (t ∷ ts) after le = signed-same room (sign_of t.kind) t ts after (omega arith)

value_within-enough : (n k room : ℕ) (ts : List Token) (after : Place) → length ts < n → length ts < k → value_within n room ts after ≡ value_within k room ts after
value_within-enough zero k room ts after h i = absurd (omega arith)
value_within-enough (suc n) zero room ts after h i = absurd (omega arith)
value_within-enough (suc n) (suc k) room ts after h i =
    value_step-same (value_within n) (value_within k) (length ts) (record { at = λ r us a le. value_within-enough n k r us a (omega arith) (omega arith) }) room ts after (omega arith)

pub case_value-step : (room : ℕ) (ts : List Token) (after : Place) → case_value room ts after ≡ value_step case_value room ts after
unfolding case_value
case_value-step room ts after =
    rw add-one (value_step-same (value_within (length ts)) case_value (length ts)
    (record { at = λ r us a le. value_within-enough (length ts) (length us + 1) r us a le (omega arith) }) room ts after (omega arith))
