-- A cut of a case value tells how deep its tokens are.
use Rattle.std.proofs.Common.{◌≡◌, ℕ, zero, suc, ◌+◌, List, [], ◌∷◌, length, Option, Some, None, refl, ap, Bool, true, false}
use Rattle.std.proofs.lemmas.Option.{none-some}
use Rattle.c_text.specs.declared.place.Place.{Place}
use Rattle.c_text.specs.declared.token.Token.{Token}
use Rattle.c_text.specs.declared.token.TokenKind.{TokenKind}
use Rattle.c_text.specs.declared.token.TokenKind.TheVariants.{Word, Constant as Number, Quoted, Mark, TypeName, Null, Memset}
use Rattle.c_tree.specs.declared.symbol.Bracket.{Bracket}
use Rattle.c_tree.specs.declared.symbol.Bracket.TheVariants.{Round}
use Rattle.c_tree.specs.declared.symbol.Punctuator.{Punctuator}
use Rattle.c_tree.specs.declared.symbol.Punctuator.TheVariants as mark
use Rattle.c_tree.specs.declared.expression.UnaryOp.{UnaryOp}
use Rattle.c_tree.specs.Symbol.{mark_of}
use Rattle.c_tree.specs.Brackets.{opens, is_bracket, mark_opens, mark_closes, depth_by, depth_after}
use Rattle.c_tree.specs.Operators.{sign_mark, sign_of}
use Rattle.c_tree.specs.ExpressionCut.{Cutter, inside, Closed, closed}
use Rattle.c_tree.specs.CaseValue.{in_round, value_at_mark, unsigned, signed, value_step, value_within, case_value}
use Rattle.c_depth.specs.Shallow.{is_shallow}
use Rattle.c_depth.proofs.Keeps.{Keeps, all, keeps-bind, keeps-is}
use Rattle.c_depth.proofs.Depth.{shallow-outside}
use Rattle.c_depth.proofs.Flat.{IsFlat}
use Rattle.c_depth.proofs.Inside.{IsInner, closed-inner}
use Rattle.c_depth.proofs.Expressions.{Obeys, bracket-is, inside-cut}

sign-mark : (m : Option Punctuator) (o : UnaryOp) → sign_mark m ≡ Some o → depth_by (mark_opens m) (mark_closes m) 0 ≡ 0
sign-mark (Some mark.Plus) o e = refl
sign-mark (Some mark.Minus) o e = refl
sign-mark _ o e = absurd (none-some o e)

sign-flat : (k : TokenKind) (o : UnaryOp) → sign_of k ≡ Some o → IsFlat k
sign-flat k o e = sign-mark (mark_of k) o e

module _ (f : Cutter) (h : Obeys f) where
  round-keeps : (room : ℕ) (o : Token) (b : Bracket) (ts : List Token) (c : Option Closed) → opens o.kind ≡ Some b → IsInner ts c → Keeps (is_shallow room 0 (o ∷ ts)) all (in_round f room o.place c)
  round-keeps room o b ts None e inner = refl
  round-keeps room o b ts (Some c) e inner =
      keeps-bind (is_shallow room 0 (o ∷ ts)) all all (inside room o.place (λ r. f r c.inner c.close)) _ (inside-cut f h room o b ts c e inner) (λ x. refl)

  mark-keeps : (room : ℕ) (b : Bool) (o : Token) (ts : List Token) → is_bracket Round (opens o.kind) ≡ b → Keeps (is_shallow room 0 (o ∷ ts)) all (value_at_mark f room b o.place ts)
  mark-keeps room true o ts e = let two = bracket-is Round (opens o.kind) e in round-keeps room o two.0 ts (closed ts) two.1 (closed-inner ts)
  mark-keeps room false o ts e = refl

  unsigned-keeps : (room : ℕ) (kind : TokenKind) (t : Token) (ts : List Token) → t.kind ≡ kind → Keeps (is_shallow room 0 (t ∷ ts)) all (unsigned f room kind t.place ts)
  unsigned-keeps room (Number c) t [] e = shallow-outside room 0 t [] (ap (λ x. depth_after x 0) e)
  unsigned-keeps room (Number c) t (_ ∷ _) e = refl
  unsigned-keeps room (Mark m) t ts e = mark-keeps room (is_bracket Round (opens (Mark m))) t ts (ap (λ x. is_bracket Round (opens x)) e)
  unsigned-keeps room (Word w) t ts e = refl
  unsigned-keeps room (Quoted q) t ts e = refl
  unsigned-keeps room (TypeName s) t ts e = refl
  unsigned-keeps room Null t ts e = refl
  unsigned-keeps room Memset t ts e = refl

  signed-keeps : (room : ℕ) (o : Option UnaryOp) (t : Token) (ts : List Token) (after : Place) → sign_of t.kind ≡ o → Keeps (is_shallow room 0 (t ∷ ts)) all (signed f room o t ts after)
  signed-keeps room None t ts after e = unsigned-keeps room t.kind t ts refl
  signed-keeps room (Some o) t ts after e =
      keeps-bind (is_shallow room 0 (t ∷ ts)) all all (f room ts after) _
      (keeps-is (is_shallow room 0 (t ∷ ts)) (is_shallow room 0 ts) all (f room ts after) (shallow-outside room 0 t ts (sign-flat t.kind o e)) (h.at room ts after)) (λ x. refl)

  step-keeps : (room : ℕ) (ts : List Token) (after : Place) → Keeps (is_shallow room 0 ts) all (value_step f room ts after)
  step-keeps room [] after = refl
  step-keeps room (t ∷ ts) after = signed-keeps room (sign_of t.kind) t ts after refl

within-keeps : (n room : ℕ) (ts : List Token) (after : Place) → Keeps (is_shallow room 0 ts) all (value_within n room ts after)
within-keeps zero room ts after = refl
within-keeps (suc n) room ts after = step-keeps (value_within n) (record { at = within-keeps n }) room ts after

pub value-keeps : Obeys case_value
unfolding case_value
value-keeps = record { at = λ room ts after. within-keeps (length ts + 1) room ts after }
