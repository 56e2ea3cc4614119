-- A cut of an expression tells how deep its tokens are.
use Rattle.std.proofs.Common.{◌≡◌, ℕ, zero, suc, ◌+◌, List, [], ◌∷◌, length, take, drop, Option, Some, None, refl, sym, ap, ◌∙◌, subst, Bool, true, false, add-one}
use Rattle.std.specs.Prelude.{◌&&◌, is_some, Ok}
use Rattle.c_text.specs.declared.place.Place.{Place}
use Rattle.c_text.specs.declared.token.Spelled.{Spelled}
use Rattle.c_text.specs.declared.token.Token.{Token}
use Rattle.c_text.specs.declared.token.TokenKind.{TokenKind}
use Rattle.c_text.specs.declared.token.TokenKind.TheVariants.{Word, Constant as Number, Quoted, Mark, TypeName, Null, Memset}
use Rattle.c_tree.specs.declared.symbol.Bracket.{Bracket}
use Rattle.c_tree.specs.declared.symbol.Bracket.TheVariants.{Round, Square, Brace}
use Rattle.c_tree.specs.declared.expression.UnaryOp.{UnaryOp}
use Rattle.c_tree.specs.declared.expression.Callee.{Callee}
use Rattle.c_tree.specs.declared.expression.Expr.{Expr}
use Rattle.c_tree.specs.Symbol.{name_of, callee_of, is_arrow}
use Rattle.c_tree.specs.Brackets.{opens, is_bracket, depth_after, closing_from}
use Rattle.c_tree.specs.Operators.{Leveled, operator, prefix}
use Rattle.c_tree.specs.TypeName.{spelled_of, kinds_of}
use Rattle.c_tree.specs.ExpressionCut.{Cutter, inside, binary_of, at_operator, Delimited, parts, cut_all, arguments, Closed, closed_at, closed, name_alone, call_expression, element, member_named, member, member_by, behind_name, operand_named, bracketed, round_by, round, at_mark, primary, prefixed, operand_of, cut_at, loosest, expression_step, expression_within, expression_of}
use Rattle.c_tree.proofs.ExpressionTokens.{prefix-is-flat}
use Rattle.c_depth.specs.Shallow.{is_shallow}
use Rattle.c_depth.proofs.Keeps.{Keeps, all, keeps-bind, keeps-is, keeps-part}
use Rattle.c_depth.proofs.Depth.{shallow-outside, shallow-open, shallow-none}
use Rattle.c_depth.proofs.Split.{outside-shallow, Closes, closes-at}
use Rattle.c_depth.proofs.Flat.{IsFlat, name-flat, arrow-flat, spelled-shallow}
use Rattle.c_depth.proofs.Inside.{inside-keeps, inside-part, IsInner, closed_at-inner, closed-inner}
use Rattle.c_depth.proofs.Operator.{is_operator, operator-is-flat, loosest-outside}
use Rattle.c_depth.proofs.Commas.{parts_shallow, parts-shallow}

-- the law of a cutter
pub record Obeys (f : Cutter) : Type 0 where
  pub at : (room : ℕ) (ts : List Token) (after : Place) → Keeps (is_shallow room 0 ts) all (f room ts after)

-- an opening bracket is one of some kind
pub bracket-is : (wanted : Bracket) (o : Option Bracket) → is_bracket wanted o ≡ true → (b : Bracket) × (o ≡ Some b)
bracket-is wanted (Some b) h = (b, refl)
bracket-is wanted None h = cc

binary-keeps : (o : Option Leveled) (place : Place) (left right : Expr) → Keeps true all (binary_of o place left right)
binary-keeps None place left right = refl
binary-keeps (Some o) place left right = refl

name-keeps : (place : Place) (o : Option (List ℕ)) → Keeps true all (name_alone place o)
name-keeps place None = refl
name-keeps place (Some n) = refl

member-keeps : (room : ℕ) (place : Place) (base : Option (List ℕ)) (o f : Token) (field : Option (List ℕ)) → IsFlat o.kind → name_of f.kind ≡ field
    → Keeps (is_shallow room 0 (o ∷ f ∷ [])) all (member_named place base field)
member-keeps room place (Some base) o f (Some field) flat e =
    shallow-outside room 0 o (f ∷ []) flat ∙ shallow-outside room 0 f [] (name-flat f.kind (ap (λ n. is_some n) e))
member-keeps room place (Some base) o f None flat e = refl
member-keeps room place None o f field flat e = refl

member-all : (room : ℕ) (place : Place) (base : Option (List ℕ)) (o : Token) (ts : List Token) → IsFlat o.kind → Keeps (is_shallow room 0 (o ∷ ts)) all (member place base ts)
member-all room place base o (f ∷ []) flat = member-keeps room place base o f (name_of f.kind) flat refl
member-all room place base o [] flat = refl
member-all room place base o (_ ∷ _ ∷ _) flat = refl

member-by : (room : ℕ) (b : Bool) (place : Place) (base : Option (List ℕ)) (o : Token) (ts : List Token) → is_arrow o.kind ≡ b → Keeps (is_shallow room 0 (o ∷ ts)) all (member_by b place base ts)
member-by room true place base o ts e = member-all room place base o ts (arrow-flat o.kind e)
member-by room false place base o ts e = refl

-- ---- each form, with cuts of its parts that obey the law

module _ (f : Cutter) (h : Obeys f) where
  all-keeps : (room : ℕ) (ps : List Delimited) → Keeps (parts_shallow room 0 ps) all (cut_all f room ps)
  all-keeps room [] = refl
  all-keeps room (p ∷ ps) =
      keeps-bind (parts_shallow room 0 (p ∷ ps)) (λ e. parts_shallow room 0 ps) all (f room p.0 p.1) _
      (keeps-part (is_shallow room 0 p.0) (parts_shallow room 0 ps) (f room p.0 p.1) (h.at room p.0 p.1))
      (λ e. keeps-bind (parts_shallow room 0 ps) all all (cut_all f room ps) (λ es. Ok (e ∷ es)) (all-keeps room ps) (λ es. refl))

  pub arguments-keep : (room : ℕ) (ts : List Token) (after : Place) → Keeps (is_shallow room 0 ts) all (arguments f room ts after)
  arguments-keep room [] after = refl
  arguments-keep room (t ∷ ts) after =
      keeps-is (is_shallow room 0 (t ∷ ts)) (parts_shallow room 0 (parts after 0 (t ∷ ts))) all (cut_all f room (parts after 0 (t ∷ ts)))
      (parts-shallow room after 0 (t ∷ ts)) (all-keeps room (parts after 0 (t ∷ ts)))

  -- between brackets that the last token closes
  pub inside-cut : (room : ℕ) (o : Token) (b : Bracket) (ts : List Token) (c : Closed) → opens o.kind ≡ Some b → IsInner ts (Some c)
      → Keeps (is_shallow room 0 (o ∷ ts)) all (inside room o.place (λ r. f r c.inner c.close))
  inside-cut room o b ts c e inner = inside-part o.place (λ r. f r c.inner c.close) o b ts c.inner (λ r. true) e inner (λ r. h.at r c.inner c.close) room

  pub inside-arguments : (room : ℕ) (o : Token) (b : Bracket) (ts : List Token) (c : Closed) → opens o.kind ≡ Some b → IsInner ts (Some c)
      → Keeps (is_shallow room 0 (o ∷ ts)) all (inside room o.place (λ r. arguments f r c.inner c.close))
  inside-arguments room o b ts c e inner = inside-part o.place (λ r. arguments f r c.inner c.close) o b ts c.inner (λ r. true) e inner (λ r. arguments-keep r c.inner c.close) room

  call-keeps : (room : ℕ) (place : Place) (name : Option Callee) (o : Token) (b : Bracket) (ts : List Token) (c : Option Closed) → opens o.kind ≡ Some b → IsInner ts c
      → Keeps (is_shallow room 0 (o ∷ ts)) all (call_expression f room place name o.place c)
  call-keeps room place (Some name) o b ts (Some c) e inner =
      keeps-bind (is_shallow room 0 (o ∷ ts)) all all (inside room o.place (λ r. arguments f r c.inner c.close)) _ (inside-arguments room o b ts c e inner) (λ es. refl)
  call-keeps room place (Some name) o b ts None e inner = refl
  call-keeps room place None o b ts c e inner = refl

  element-keeps : (room : ℕ) (place : Place) (name : Option (List ℕ)) (o : Token) (b : Bracket) (ts : List Token) (c : Option Closed) → opens o.kind ≡ Some b → IsInner ts c
      → Keeps (is_shallow room 0 (o ∷ ts)) all (element f room place name o.place c)
  element-keeps room place (Some name) o b ts (Some c) e inner =
      keeps-bind (is_shallow room 0 (o ∷ ts)) all all (inside room o.place (λ r. f r c.inner c.close)) _ (inside-cut room o b ts c e inner) (λ x. refl)
  element-keeps room place (Some name) o b ts None e inner = refl
  element-keeps room place None o b ts c e inner = refl

  bracketed-keeps : (room : ℕ) (o : Token) (b : Bracket) (ts : List Token) (c : Option Closed) → opens o.kind ≡ Some b → IsInner ts c
      → Keeps (is_shallow room 0 (o ∷ ts)) all (bracketed f room o.place c)
  bracketed-keeps room o b ts (Some c) e inner =
      keeps-bind (is_shallow room 0 (o ∷ ts)) all all (inside room o.place (λ r. f r c.inner c.close)) _ (inside-cut room o b ts c e inner) (λ x. refl)
  bracketed-keeps room o b ts None e inner = refl

  behind-name : (room : ℕ) (b : Option Bracket) (t o : Token) (ts : List Token) → opens o.kind ≡ b → Keeps (is_shallow room 0 (o ∷ ts)) all (behind_name f room b t o ts)
  behind-name room (Some Round) t o ts e = call-keeps room t.place (callee_of t.kind) o Round ts (closed ts) e (closed-inner ts)
  behind-name room (Some Square) t o ts e = element-keeps room t.place (name_of t.kind) o Square ts (closed ts) e (closed-inner ts)
  behind-name room (Some Brace) t o ts e = member-by room (is_arrow o.kind) t.place (name_of t.kind) o ts refl
  behind-name room None t o ts e = member-by room (is_arrow o.kind) t.place (name_of t.kind) o ts refl

  named-keeps : (room : ℕ) (t : Token) (ts : List Token) → IsFlat t.kind → Keeps (is_shallow room 0 (t ∷ ts)) all (operand_named f room t ts)
  named-keeps room t [] flat = keeps-is (is_shallow room 0 (t ∷ [])) true all (name_alone t.place (name_of t.kind)) (shallow-outside room 0 t [] flat) (name-keeps t.place (name_of t.kind))
  named-keeps room t (o ∷ ts) flat =
      keeps-is (is_shallow room 0 (t ∷ o ∷ ts)) (is_shallow room 0 (o ∷ ts)) all (behind_name f room (opens o.kind) t o ts)
      (shallow-outside room 0 t (o ∷ ts) flat) (behind-name room (opens o.kind) t o ts refl)

  -- the operand of a cast stands behind its brackets
  cast-part : (room i : ℕ) (o : Token) (b : Bracket) (ts : List Token) (after : Place) (c : Closes 0 i ts) → opens o.kind ≡ Some b
      → ((r : ℕ) → is_shallow r 0 (take i ts) ≡ true) → Keeps (is_shallow room 0 (o ∷ ts)) all (inside room o.place (λ r. f room (drop (i + 1) ts) after))
  cast-part room i o b ts after c e words =
      inside-keeps o.place (λ r. f room (drop (i + 1) ts) after) (is_shallow room 0 (o ∷ ts)) all room
      (λ none. ap (λ n. is_shallow n 0 (o ∷ ts)) none ∙ shallow-none o b ts e)
      (λ r more.
      let whole = ap (λ n. is_shallow n 0 (o ∷ ts)) more ∙ shallow-open r o b ts e ∙ c.shallow r ∙ ap (λ w. w && is_shallow (suc r) 0 c.rest) (words r) ∙ ap (λ n. is_shallow n 0 c.rest) (sym more) in
      let tokens : drop (i + 1) ts ≡ c.rest = ap (λ n. drop n ts) (add-one i) ∙ c.behind in
      keeps-is (is_shallow room 0 (o ∷ ts)) (is_shallow room 0 (drop (i + 1) ts)) all (f room (drop (i + 1) ts) after)
      (whole ∙ ap (λ us. is_shallow room 0 us) (sym tokens)) (h.at room (drop (i + 1) ts) after))

  round-by : (room i : ℕ) (o : Token) (b : Bracket) (to : Option Spelled) (ts : List Token) (after : Place) → Closes 0 i ts → opens o.kind ≡ Some b → spelled_of (kinds_of (take i ts)) ≡ to
      → Keeps (is_shallow room 0 (o ∷ ts)) all (round_by f room o.place to i ts after)
  round-by room i o b (Some to) ts after c e spelled =
      keeps-bind (is_shallow room 0 (o ∷ ts)) all all (inside room o.place (λ r. f room (drop (i + 1) ts) after)) _
      (cast-part room i o b ts after c e (λ r. spelled-shallow r (take i ts) (ap (λ s. is_some s) spelled))) (λ x. refl)
  round-by room i o b None ts after c e spelled = bracketed-keeps room o b ts (closed_at (take i ts) (drop i ts)) e (closed_at-inner i ts c)

  round-keeps : (room : ℕ) (o : Token) (b : Bracket) (i : Option ℕ) (ts : List Token) (after : Place) → opens o.kind ≡ Some b → closing_from 0 1 ts ≡ i
      → Keeps (is_shallow room 0 (o ∷ ts)) all (round f room o.place i ts after)
  round-keeps room o b None ts after e found = refl
  round-keeps room o b (Some i) ts after e found = round-by room i o b (spelled_of (kinds_of (take i ts))) ts after (closes-at i ts found) e refl

  mark-keeps : (room : ℕ) (b : Bool) (o : Token) (ts : List Token) (after : Place) → is_bracket Round (opens o.kind) ≡ b → Keeps (is_shallow room 0 (o ∷ ts)) all (at_mark f room b o.place ts after)
  mark-keeps room true o ts after e = let two = bracket-is Round (opens o.kind) e in round-keeps room o two.0 (closing_from 0 1 ts) ts after two.1 refl
  mark-keeps room false o ts after e = refl

  primary-keeps : (room : ℕ) (kind : TokenKind) (t : Token) (ts : List Token) (after : Place) → t.kind ≡ kind → Keeps (is_shallow room 0 (t ∷ ts)) all (primary f room kind t ts after)
  primary-keeps room (Number c) t [] after e = shallow-outside room 0 t [] (ap (λ x. depth_after x 0) e)
  primary-keeps room (Number c) t (_ ∷ _) after e = refl
  primary-keeps room Null t [] after e = shallow-outside room 0 t [] (ap (λ x. depth_after x 0) e)
  primary-keeps room Null t (_ ∷ _) after e = refl
  primary-keeps room (Word w) t ts after e = named-keeps room t ts (ap (λ x. depth_after x 0) e)
  primary-keeps room Memset t ts after e = named-keeps room t ts (ap (λ x. depth_after x 0) e)
  primary-keeps room (Mark m) t ts after e = mark-keeps room (is_bracket Round (opens t.kind)) t ts after refl
  primary-keeps room (Quoted q) t ts after e = refl
  primary-keeps room (TypeName s) t ts after e = refl

  prefixed-keeps : (room : ℕ) (o : Option UnaryOp) (t : Token) (ts : List Token) (after : Place) → prefix t.kind ≡ o → Keeps (is_shallow room 0 (t ∷ ts)) all (prefixed f room o t ts after)
  prefixed-keeps room (Some o) t ts after e =
      keeps-bind (is_shallow room 0 (t ∷ ts)) all all (f room ts after) _
      (keeps-is (is_shallow room 0 (t ∷ ts)) (is_shallow room 0 ts) all (f room ts after) (shallow-outside room 0 t ts ((prefix-is-flat t.kind o e).depth 0)) (h.at room ts after)) (λ x. refl)
  prefixed-keeps room None t ts after e = primary-keeps room t.kind t ts after refl

  alone-keeps : (room : ℕ) (ts : List Token) (after : Place) → Keeps (is_shallow room 0 ts) all (operand_of f room ts after)
  alone-keeps room [] after = refl
  alone-keeps room (t ∷ ts) after = prefixed-keeps room (prefix t.kind) t ts after refl

  operator-keeps : (room : ℕ) (left : List Token) (t : Token) (right : List Token) (after : Place)
      → Keeps (is_shallow room 0 left && is_shallow room 0 right) all (at_operator f room left (t ∷ right) after)
  operator-keeps room left t right after =
      keeps-bind (is_shallow room 0 left && is_shallow room 0 right) (λ a. is_shallow room 0 right) all (f room left t.place) _
      (keeps-part (is_shallow room 0 left) (is_shallow room 0 right) (f room left t.place) (h.at room left t.place))
      (λ a. keeps-bind (is_shallow room 0 right) all all (f room right after) (λ b. binary_of (operator t.kind) t.place a b) (h.at room right after) (λ b. binary-keeps (operator t.kind) t.place a b))

  cut_at-keeps : (room : ℕ) (i : Option ℕ) (ts : List Token) (after : Place) → loosest ts ≡ i → Keeps (is_shallow room 0 ts) all (cut_at f room i ts after)
  cut_at-keeps room (Some i) ts after e =
      let o = loosest-outside i ts e in
      keeps-is (is_shallow room 0 ts) (is_shallow room 0 (take i ts) && is_shallow room 0 o.rest) all (at_operator f room (take i ts) (drop i ts) after)
      (outside-shallow is_operator room i ts o (operator-is-flat o.token.kind o.passed))
      (subst (λ us. Keeps (is_shallow room 0 (take i ts) && is_shallow room 0 o.rest) all (at_operator f room (take i ts) us after)) (sym o.there)
      (operator-keeps room (take i ts) o.token o.rest after))
  cut_at-keeps room None ts after e = alone-keeps room ts after

  pub step-keeps : (room : ℕ) (ts : List Token) (after : Place) → Keeps (is_shallow room 0 ts) all (expression_step f room ts after)
  step-keeps room ts after = cut_at-keeps room (loosest ts) ts after refl

-- ---- at most so many cuts

within-keeps : (n room : ℕ) (ts : List Token) (after : Place) → Keeps (is_shallow room 0 ts) all (expression_within n room ts after)
within-keeps zero room ts after = refl
within-keeps (suc n) room ts after = step-keeps (expression_within n) (record { at = within-keeps n }) room ts after

pub cut-keeps : Obeys expression_of
unfolding expression_of
cut-keeps = record { at = λ room ts after. within-keeps (length ts + 1) room ts after }
