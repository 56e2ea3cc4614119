-- Parts of an expression that stand in a row are one part.
use Rattle.std.proofs.Common.{◌≡◌, ℕ, suc, ◌+◌, ◌-◌, ◌==◌, ◌<◌, ◌≤◌, List, [], ◌∷◌, ◌++◌, length, drop, Some, None, Result, Ok, Err, refl, sym, ap, ◌∙◌, arith, Bool, true, false, cond, length-append}
use Rattle.std.specs.Prelude.{◌&&◌, ◌||◌, is_some}
use Rattle.std.proofs.lemmas.Bool.Decides.{nat_tests}
use Rattle.std.proofs.lemmas.List.{append-nil, append_assoc}
use Rattle.std.proofs.Math.Seq.{take-append_seam, drop-append_seam}
use Rattle.c_text.specs.declared.place.Place.{Place}
use Rattle.c_text.specs.declared.token.Constant.{Constant}
use Rattle.c_text.specs.declared.token.Spelled.{Spelled}
use Rattle.c_text.specs.declared.token.Token.{Token}
use Rattle.c_text.specs.declared.token.TokenKind.{TokenKind}
use Rattle.c_text.specs.declared.token.TokenKind.TheVariants.{Constant as Number, Mark, Null}
use Rattle.c_tree.specs.declared.symbol.Bracket.TheVariants.{Round}
use Rattle.c_tree.specs.declared.symbol.Punctuator.{Punctuator}
use Rattle.c_tree.specs.declared.symbol.Punctuator.TheVariants as mark
use Rattle.c_tree.specs.declared.expression.BinaryOp.{BinaryOp}
use Rattle.c_tree.specs.declared.expression.Callee.{Callee}
use Rattle.c_tree.specs.declared.expression.UnaryOp.{UnaryOp}
use Rattle.c_tree.specs.declared.expression.Expr.{Expr}
use Rattle.c_tree.specs.declared.expression.ExprKind.TheVariants as k
use Rattle.c_text.specs.Refusal.{Refusal}
use Rattle.cg_out.specs.Words.{◌>>=◌, or_else}
use Rattle.c_tree.specs.Symbol.{mark_of, name_of, callee_of, is_arrow_mark, is_comma, is_comma_mark}
use Rattle.c_tree.specs.Brackets.{mark_opens, mark_closes, depth_by, opens, is_bracket, depth_after, closing_from, too_deep}
use Rattle.c_tree.specs.Operators.{operator, binary_mark, prefix, prefix_mark}
use Rattle.c_tree.specs.TypeName.{spelled_of, kinds_of}
use Rattle.c_tree.specs.ExpressionCut.{Before, start, bracket, operand, round_closed, behind, is_operand, has_level, last_from, node, inside, binary_of, Delimited, put, put_in, parts, cut_all, arguments, closed_in, closed_by, closed, call_expression, element, member_named, member_by, behind_name, operand_named, cast, round_by, round, prefixed, at_mark, primary, expression_of}
use Rattle.c_tree.specs.TokenRun.{depth_over, before_over, has_comma, AreTypeWords, IsClosed}
use Rattle.c_parts.specs.ExpressionPart.{IsPart, AreArgs, IsInner}
use Rattle.c_tree.proofs.ExpressionSteps.{expression_of-some, expression_of-none}
use Rattle.c_tree.proofs.ExpressionTokens.{last_from-append, depth_over-append, before_over-append, begins_type-append, IsFlat, operator-flat, prefix-is-flat, operator-level, mark-behind, mark-untyped, IsOne, IsNamed, name-named, callee-named, spelled-none, type-word, closing-append, over-suc, closing-deeper, last_from-inside, no-comma-first, has_comma-append, has_comma-inside, skip-plain, skip-first, loosest-is, loosest-none}
use Rattle.cg_out.proofs.WordLaws.{or_else-none}

-- ---- matching brackets

pub over-one : (ts : List Token) → IsClosed ts → depth_over 1 ts ≡ 1
over-one ts c = over-suc 0 0 ts (c.inside 0) ∙ ap suc c.flat

over-two : (ts : List Token) → IsClosed ts → depth_over 2 ts ≡ 2
over-two ts c = over-suc 0 1 ts (closing-deeper 0 0 ts (c.inside 0)) ∙ ap suc (over-one ts c)

pub closed-none : IsClosed []
closed-none = record { flat = refl; inside = λ at. refl }

pub closed-flat : (t : Token) (ts : List Token) → ((d : ℕ) → depth_after t.kind d ≡ d) → IsClosed ts → IsClosed (t ∷ ts)
closed-flat t ts e c = record {
  flat = ap (λ d. depth_over d ts) (e 0) ∙ c.flat;
  inside = λ at. ap (λ d. cond (d == 0) (Some at) (closing_from (at + 1) d ts)) (e 1) ∙ c.inside (at + 1);
}

pub closed-append : (xs ys : List Token) → IsClosed xs → IsClosed ys → IsClosed (xs ++ ys)
closed-append xs ys a b = record {
  flat = depth_over-append 0 xs ys ∙ ap (λ d. depth_over d ys) a.flat ∙ b.flat;
  inside = λ at. closing-append at 1 xs ys (a.inside at) ∙ ap (λ d. closing_from (at + length xs) d ys) (over-one xs a) ∙ b.inside (at + length xs);
}

-- tokens in brackets, and what stands behind them
module _ (c : Token) (p q : List Token) (closes_one : (d : ℕ) → depth_after c.kind d ≡ d - 1) (unlevelled : operator c.kind ≡ None) (part : IsClosed p) where
  close-last : (level at : ℕ) (before : Before) → last_from level at 1 before (p ++ c ∷ q) ≡ last_from level (at + length p + 1) 0 (behind c.kind (before_over before p)) q
  close-last level at before =
      last_from-append level at 1 before p (c ∷ q)
      ∙ ap (λ o. or_else (last_from level (at + length p) (depth_over 1 p) (before_over before p) (c ∷ q)) o) (last_from-inside level at 0 before p (part.inside at))
      ∙ or_else-none _
      ∙ ap (λ d. last_from level (at + length p) d (before_over before p) (c ∷ q)) (over-one p part)
      ∙ skip-plain level (at + length p) 1 (before_over before p) c q unlevelled
      ∙ ap (λ d. last_from level (at + length p + 1) d (behind c.kind (before_over before p)) q) (closes_one 1)

  pub close-at : closing_from 0 1 (p ++ c ∷ q) ≡ Some (length p)
  close-at =
      let z : 0 + length p ≡ length p = omega arith in
      closing-append 0 1 p (c ∷ q) (part.inside 0)
      ∙ ap (λ d. closing_from (0 + length p) d (c ∷ q)) (over-one p part)
      ∙ ap (λ d. cond (d == 0) (Some (0 + length p)) (closing_from (0 + length p + 1) d q)) (closes_one 1)
      ∙ ap Some z

  close-depth : depth_over 1 (p ++ c ∷ q) ≡ depth_over 0 q
  close-depth = depth_over-append 1 p (c ∷ q) ∙ ap (λ d. depth_over d (c ∷ q)) (over-one p part) ∙ ap (λ d. depth_over d q) (closes_one 1)

  close-inside : (at : ℕ) → closing_from at 2 (p ++ c ∷ q) ≡ closing_from (at + length p + 1) 1 q
  close-inside at =
      closing-append at 2 p (c ∷ q) (closing-deeper at 0 p (part.inside at))
      ∙ ap (λ d. closing_from (at + length p) d (c ∷ q)) (over-two p part)
      ∙ ap (λ d. cond (d == 0) (Some (at + length p)) (closing_from (at + length p + 1) d q)) (closes_one 2)

  close-plain : has_comma 1 (p ++ c ∷ q) ≡ has_comma 0 q
  close-plain =
      has_comma-append 1 p (c ∷ q) (has_comma-inside 0 0 p (part.inside 0))
      ∙ ap (λ d. has_comma d (c ∷ q)) (over-one p part)
      ∙ ap (λ d. has_comma d q) (closes_one 1)

-- one that opens brackets
pub record IsOpen (kind : TokenKind) : Type 0 where
  pub depth : (d : ℕ) → depth_after kind d ≡ d + 1
  pub comma : is_comma kind ≡ false
  pub unlevelled : operator kind ≡ None

module _ (o c : Token) (p q : List Token) (opens_one : IsOpen o.kind) (closes_one : (d : ℕ) → depth_after c.kind d ≡ d - 1) (unlevelled : operator c.kind ≡ None) (part : IsClosed p) where
  around-last : (level at : ℕ) (before : Before) → last_from level at 0 before (o ∷ (p ++ c ∷ q)) ≡ last_from level (at + 1 + length p + 1) 0 (behind c.kind (before_over (behind o.kind before) p)) q
  around-last level at before =
      skip-plain level at 0 before o (p ++ c ∷ q) opens_one.unlevelled
      ∙ ap (λ d. last_from level (at + 1) d (behind o.kind before) (p ++ c ∷ q)) (opens_one.depth 0)
      ∙ close-last c p q closes_one unlevelled part level (at + 1) (behind o.kind before)

  pub around-closed : IsClosed q → IsClosed (o ∷ (p ++ c ∷ q))
  around-closed more = record {
    flat = ap (λ d. depth_over d (p ++ c ∷ q)) (opens_one.depth 0) ∙ close-depth c p q closes_one unlevelled part ∙ more.flat;
    inside = λ at.
        ap (λ d. cond (d == 0) (Some at) (closing_from (at + 1) d (p ++ c ∷ q))) (opens_one.depth 1)
        ∙ close-inside c p q closes_one unlevelled part (at + 1) ∙ more.inside (at + 1 + length p + 1);
  }

  around-plain : has_comma 0 (o ∷ (p ++ c ∷ q)) ≡ has_comma 0 q
  around-plain =
      ap (λ b. b || has_comma (depth_after o.kind 0) (p ++ c ∷ q)) opens_one.comma
      ∙ ap (λ d. has_comma d (p ++ c ∷ q)) (opens_one.depth 0) ∙ close-plain c p q closes_one unlevelled part

  around-before : (before : Before) → before_over before (o ∷ (p ++ c ∷ q)) ≡ before_over (behind c.kind (before_over (behind o.kind before) p)) q
  around-before before = before_over-append (behind o.kind before) p (c ∷ q)

-- ---- the punctuators of brackets

pub round-opens : (kind : TokenKind) → mark_of kind ≡ Some mark.OpenParen → IsOpen kind
round-opens kind e = record { depth = λ d. rw e refl; comma = rw e refl; unlevelled = rw e refl }

pub square-opens : (kind : TokenKind) → mark_of kind ≡ Some mark.OpenBracket → IsOpen kind
square-opens kind e = record { depth = λ d. rw e refl; comma = rw e refl; unlevelled = rw e refl }

pub round-closes : (kind : TokenKind) → mark_of kind ≡ Some mark.CloseParen → (d : ℕ) → depth_after kind d ≡ d - 1
round-closes kind e d = rw e refl

pub square-closes : (kind : TokenKind) → mark_of kind ≡ Some mark.CloseBracket → (d : ℕ) → depth_after kind d ≡ d - 1
square-closes kind e d = rw e refl

pub unlevelled-mark : (kind : TokenKind) (m : Punctuator) → mark_of kind ≡ Some m → binary_mark (Some m) ≡ None → operator kind ≡ None
unlevelled-mark kind m e h = ap binary_mark e ∙ h

unprefixed-mark : (kind : TokenKind) (m : Punctuator) → mark_of kind ≡ Some m → prefix_mark (Some m) ≡ None → prefix kind ≡ None
unprefixed-mark kind m e h = ap prefix_mark e ∙ h

-- ---- an operator between two parts

module _ (room level : ℕ) (op : BinaryOp) (t : Token) (p q : List Token) (a b : Expr) (is : operator t.kind ≡ Some (level, op)) (left : IsPart room level p a) (right : IsPart room (level + 1) q b) where
  flat_t : IsFlat t.kind
  flat_t = operator-flat t.kind (level, op) is

  below : level < 9
  below = operator-level t.kind (level, op) is

  -- what the operator and the right side add
  last-rest : (l at : ℕ) → l < level + 1 → last_from l at 0 operand (t ∷ q) ≡ cond (level == l) (Some at) None
  last-rest l at h =
      ap (λ o. or_else (last_from l (at + 1) (depth_after t.kind 0) (behind t.kind operand) q) (cond (has_level l o) (Some at) None)) is
      ∙ ap (λ d. or_else (last_from l (at + 1) d (behind t.kind operand) q) (cond (level == l) (Some at) None)) (flat_t.depth 0)
      ∙ ap (λ s. or_else (last_from l (at + 1) 0 s q) (cond (level == l) (Some at) None)) (flat_t.after operand)
      ∙ ap (λ o. or_else o (cond (level == l) (Some at) None)) (right.tight l (at + 1) start refl h)

  last-join : (l at : ℕ) (s : Before) → l < level + 1 → last_from l at 0 s (p ++ t ∷ q) ≡ or_else (cond (level == l) (Some (at + length p)) None) (last_from l at 0 s p)
  last-join l at s h =
      last_from-append l at 0 s p (t ∷ q)
      ∙ ap (λ d. or_else (last_from l (at + length p) d (before_over s p) (t ∷ q)) (last_from l at 0 s p)) left.closed.flat
      ∙ ap (λ x. or_else (last_from l (at + length p) 0 x (t ∷ q)) (last_from l at 0 s p)) (left.ended s)
      ∙ ap (λ o. or_else o (last_from l at 0 s p)) (last-rest l (at + length p) h)

  join-tight : (l at : ℕ) (s : Before) → is_operand s ≡ false → l < level → last_from l at 0 s (p ++ t ∷ q) ≡ None
  join-tight l at s n h =
      let other : level == l ≡ false = grind (arith, nat_tests) in
      last-join l at s (omega arith) ∙ ap (λ b. or_else (cond b (Some (at + length p)) None) (last_from l at 0 s p)) other ∙ left.tight l at s n h

  join-last : last_from level 0 0 start (p ++ t ∷ q) ≡ Some (length p)
  join-last =
      let same : level == level ≡ true = grind (arith, nat_tests) in
      let z : 0 + length p ≡ length p = omega arith in
      last-join level 0 start (omega arith) ∙ ap (λ b. or_else (cond b (Some (0 + length p)) None) (last_from level 0 0 start p)) same ∙ ap Some z

  binary-is : binary_of (operator t.kind) t.place a b ≡ Ok (node t.place (k.Binary op a b))
  binary-is = ap (λ o. binary_of o t.place a b) is

  join-cuts : (after : Place) → expression_of room (p ++ t ∷ q) after ≡ Ok (node t.place (k.Binary op a b))
  join-cuts after =
      expression_of-some room (p ++ t ∷ q) after (length p) (sym (loosest-is (p ++ t ∷ q) (length p) level (λ l h. join-tight l 0 start refl h) join-last below))
      ∙ rw (take-append_seam, drop-append_seam, left.cuts t.place, right.cuts after) binary-is

  pub joined : IsPart room level (p ++ t ∷ q) (node t.place (k.Binary op a b))
  joined = record {
    cuts = join-cuts;
    closed = closed-append p (t ∷ q) left.closed (closed-flat t q flat_t.depth right.closed);
    ended = λ s. before_over-append s p (t ∷ q) ∙ right.ended (behind t.kind (before_over s p));
    untyped = begins_type-append p (t ∷ q) left.untyped flat_t.untyped;
    tight = join-tight;
    plain =
        has_comma-append 0 p (t ∷ q) left.plain ∙ ap (λ d. has_comma d (t ∷ q)) left.closed.flat
        ∙ ap (λ b. b || has_comma (depth_after t.kind 0) q) flat_t.comma ∙ ap (λ d. has_comma d q) (flat_t.depth 0) ∙ right.plain;
  }

pub weaker : (room b c : ℕ) (ts : List Token) (e : Expr) → c ≤ b → IsPart room b ts e → IsPart room c ts e
weaker room b c ts e h p = record { cuts = p.cuts; closed = p.closed; ended = p.ended; untyped = p.untyped; tight = λ l at s n below. p.tight l at s n (omega arith); plain = p.plain }

-- ---- one token

module _ (room : ℕ) (t : Token) (e : Expr) (one : IsOne t.kind) (cuts_as : (after : Place) → primary expression_of room t.kind t [] after ≡ Ok e) where
  one-tight : (l at : ℕ) (s : Before) → last_from l at 0 s (t ∷ []) ≡ None
  one-tight l at s = skip-plain l at 0 s t [] one.operator_none

  one-cuts : (after : Place) → expression_of room (t ∷ []) after ≡ Ok e
  one-cuts after =
      expression_of-none room (t ∷ []) after (sym (loosest-none (t ∷ []) (λ l h. one-tight l 0 start)))
      ∙ ap (λ o. prefixed expression_of room o t [] after) one.prefix_none ∙ cuts_as after

  one-part : IsPart room 9 (t ∷ []) e
  one-part = record {
    cuts = one-cuts;
    closed = closed-flat t [] one.depth closed-none;
    ended = one.after;
    untyped = one.untyped;
    tight = λ l at s n h. one-tight l at s;
    plain = ap (λ b. b || has_comma (depth_after t.kind 0) []) one.comma;
  }

constant-one : (kind : TokenKind) (c : Constant) → kind ≡ Number c → IsOne kind
constant-one kind c e = rw e (record { depth = λ d. refl; after = λ before. refl; comma = refl; untyped = refl; operator_none = refl; prefix_none = refl })

null-one : (kind : TokenKind) → kind ≡ Null → IsOne kind
null-one kind e = rw e (record { depth = λ d. refl; after = λ before. refl; comma = refl; untyped = refl; operator_none = refl; prefix_none = refl })

pub constant-part : (room : ℕ) (t : Token) (c : Constant) → t.kind ≡ Number c → IsPart room 9 (t ∷ []) (node t.place (k.Constant c))
constant-part room t c e = one-part room t (node t.place (k.Constant c)) (constant-one t.kind c e) (λ after. rw e refl)

pub null-part : (room : ℕ) (t : Token) → t.kind ≡ Null → IsPart room 9 (t ∷ []) (node t.place k.Null)
null-part room t e = one-part room t (node t.place k.Null) (null-one t.kind e) (λ after. rw e refl)

pub name-part : (room : ℕ) (t : Token) (n : List ℕ) → name_of t.kind ≡ Some n → IsPart room 9 (t ∷ []) (node t.place (k.Name n))
name-part room t n e =
    let is = name-named t.kind n e in
    one-part room t (node t.place (k.Name n)) is.one (λ after. is.cut_as expression_of room t [] after ∙ rw e refl)

-- ---- a sign before an operand

module _ (room : ℕ) (t : Token) (u : UnaryOp) (q : List Token) (e : Expr) (is : prefix t.kind ≡ Some u) (part : IsPart room 9 q e) where
  flat_sign : IsFlat t.kind
  flat_sign = prefix-is-flat t.kind u is

  sign-tight : (l at : ℕ) (s : Before) → is_operand s ≡ false → l < 9 → last_from l at 0 s (t ∷ q) ≡ None
  sign-tight l at s n h =
      skip-first l at 0 s t q n ∙ ap (λ d. last_from l (at + 1) d (behind t.kind s) q) (flat_sign.depth 0)
      ∙ ap (λ x. last_from l (at + 1) 0 x q) (flat_sign.after s) ∙ part.tight l (at + 1) start refl h

  sign-cuts : (after : Place) → expression_of room (t ∷ q) after ≡ Ok (node t.place (k.Unary u e))
  sign-cuts after =
      expression_of-none room (t ∷ q) after (sym (loosest-none (t ∷ q) (λ l h. sign-tight l 0 start refl h)))
      ∙ ap (λ o. prefixed expression_of room o t q after) is ∙ rw (part.cuts after) refl

  pub signed : IsPart room 9 (t ∷ q) (node t.place (k.Unary u e))
  signed = record {
    cuts = sign-cuts;
    closed = closed-flat t q flat_sign.depth part.closed;
    ended = λ s. part.ended (behind t.kind s);
    untyped = flat_sign.untyped;
    tight = sign-tight;
    plain = ap (λ b. b || has_comma (depth_after t.kind 0) q) flat_sign.comma ∙ ap (λ d. has_comma d q) (flat_sign.depth 0) ∙ part.plain;
  }

-- ---- an expression in brackets

inside-some : {A : Type 0} (room : ℕ) (place : Place) (part : ℕ → Result A Refusal) → room == 0 ≡ false → inside room place part ≡ part (room - 1)
inside-some room place part e = ap (λ b. cond b (Err (too_deep place)) (part (room - 1))) e

ended-round : (before : Before) → before ≡ operand → round_closed before ≡ operand
ended-round before e = ap round_closed e

round-at : (kind : TokenKind) (room : ℕ) (t : Token) (ts : List Token) (after : Place) → mark_of kind ≡ Some mark.OpenParen → t.kind ≡ kind → primary expression_of room kind t ts after ≡ round expression_of room t.place (closing_from 0 1 ts) ts after
round-at (Mark w) room t ts after e same = ap (λ x. at_mark expression_of room (is_bracket Round (opens x)) t.place ts after) same ∙ ap (λ m. at_mark expression_of room (is_bracket Round (mark_opens m)) t.place ts after) e
round-at _ room t ts after e same = cc

round-primary : (room : ℕ) (t : Token) (ts : List Token) (after : Place) → mark_of t.kind ≡ Some mark.OpenParen → primary expression_of room t.kind t ts after ≡ round expression_of room t.place (closing_from 0 1 ts) ts after
round-primary room t ts after e = round-at t.kind room t ts after e refl

module _ (room bound : ℕ) (o c : Token) (p : List Token) (e : Expr) (is_open : mark_of o.kind ≡ Some mark.OpenParen) (is_close : mark_of c.kind ≡ Some mark.CloseParen) (some_room : room == 0 ≡ false) (part : IsPart (room - 1) bound p e) where
  unlevelled_c : operator c.kind ≡ None
  unlevelled_c = unlevelled-mark c.kind mark.CloseParen is_close refl

  bracket-tight : (l at : ℕ) (s : Before) → last_from l at 0 s (o ∷ (p ++ c ∷ [])) ≡ None
  bracket-tight l at s = around-last o c p [] (round-opens o.kind is_open) (round-closes c.kind is_close) unlevelled_c part.closed l at s

  bracket-ended : (s : Before) → before_over s (o ∷ (p ++ c ∷ [])) ≡ operand
  bracket-ended s =
      around-before o c p [] (round-opens o.kind is_open) (round-closes c.kind is_close) unlevelled_c part.closed s
      ∙ mark-behind c.kind mark.CloseParen (before_over (behind o.kind s) p) is_close ∙ ended-round _ (part.ended (behind o.kind s))

  bracket-alone : (after : Place) → round expression_of room o.place (closing_from 0 1 (p ++ c ∷ [])) (p ++ c ∷ []) after ≡ Ok (node o.place (k.Bracket e))
  bracket-alone after =
      ap (λ at. round expression_of room o.place at (p ++ c ∷ []) after) (close-at c p [] (round-closes c.kind is_close) unlevelled_c part.closed)
      ∙ rw take-append_seam (
      ap (λ to. round_by expression_of room o.place to (length p) (p ++ c ∷ []) after) (spelled-none p part.untyped)
      ∙ rw (take-append_seam, drop-append_seam) (
      ap (λ r. r >>= (λ x. Ok (node o.place (k.Bracket x)))) (inside-some room o.place (λ r. expression_of r p c.place) some_room)
      ∙ rw (part.cuts c.place) refl))

  bracket-cuts : (after : Place) → expression_of room (o ∷ (p ++ c ∷ [])) after ≡ Ok (node o.place (k.Bracket e))
  bracket-cuts after =
      expression_of-none room (o ∷ (p ++ c ∷ [])) after (sym (loosest-none (o ∷ (p ++ c ∷ [])) (λ l h. bracket-tight l 0 start)))
      ∙ ap (λ u. prefixed expression_of room u o (p ++ c ∷ []) after) (unprefixed-mark o.kind mark.OpenParen is_open refl)
      ∙ round-primary room o (p ++ c ∷ []) after is_open
      ∙ bracket-alone after

  pub bracketed : IsPart room 9 (o ∷ (p ++ c ∷ [])) (node o.place (k.Bracket e))
  bracketed = record {
    cuts = bracket-cuts;
    closed = around-closed o c p [] (round-opens o.kind is_open) (round-closes c.kind is_close) unlevelled_c part.closed closed-none;
    ended = bracket-ended;
    untyped = mark-untyped o.kind mark.OpenParen is_open;
    tight = λ l at s n h. bracket-tight l at s;
    plain = around-plain o c p [] (round-opens o.kind is_open) (round-closes c.kind is_close) unlevelled_c part.closed;
  }

-- ---- what begins with a name

-- what the last token closes
pub closed-is : (c : Token) (p : List Token) → ((d : ℕ) → depth_after c.kind d ≡ d - 1) → operator c.kind ≡ None → IsClosed p → closed (p ++ c ∷ []) ≡ Some (closed_in p c.place)
closed-is c p closes_one unlevelled part =
    ap (λ at. closed_by at (p ++ c ∷ [])) (close-at c p [] closes_one unlevelled part) ∙ rw (take-append_seam, drop-append_seam) refl

-- a name or `memset`, and tokens in brackets
module _ (room : ℕ) (t o c : Token) (p : List Token) (e : Expr) (is : IsNamed t.kind) (opens_one : IsOpen o.kind) (closes_one : (d : ℕ) → depth_after c.kind d ≡ d - 1) (unlevelled : operator c.kind ≡ None) (part : IsClosed p)
    (ended : behind c.kind (before_over (behind o.kind operand) p) ≡ operand) (cuts_as : (after : Place) → operand_named expression_of room t (o ∷ (p ++ c ∷ [])) ≡ Ok e) where
  named-tight : (l at : ℕ) (s : Before) → last_from l at 0 s (t ∷ o ∷ (p ++ c ∷ [])) ≡ None
  named-tight l at s =
      skip-plain l at 0 s t (o ∷ (p ++ c ∷ [])) is.one.operator_none
      ∙ ap (λ d. last_from l (at + 1) d (behind t.kind s) (o ∷ (p ++ c ∷ []))) (is.one.depth 0)
      ∙ around-last o c p [] opens_one closes_one unlevelled part l (at + 1) (behind t.kind s)

  named-cuts : (after : Place) → expression_of room (t ∷ o ∷ (p ++ c ∷ [])) after ≡ Ok e
  named-cuts after =
      expression_of-none room (t ∷ o ∷ (p ++ c ∷ [])) after (sym (loosest-none (t ∷ o ∷ (p ++ c ∷ [])) (λ l h. named-tight l 0 start)))
      ∙ ap (λ u. prefixed expression_of room u t (o ∷ (p ++ c ∷ [])) after) is.one.prefix_none
      ∙ is.cut_as expression_of room t (o ∷ (p ++ c ∷ [])) after ∙ cuts_as after

  named-plain : has_comma 0 (t ∷ o ∷ (p ++ c ∷ [])) ≡ false
  named-plain =
      ap (λ b. b || has_comma (depth_after t.kind 0) (o ∷ (p ++ c ∷ []))) is.one.comma
      ∙ ap (λ d. has_comma d (o ∷ (p ++ c ∷ []))) (is.one.depth 0) ∙ around-plain o c p [] opens_one closes_one unlevelled part

  named-ended : (s : Before) → before_over s (t ∷ o ∷ (p ++ c ∷ [])) ≡ operand
  named-ended s =
      ap (λ x. before_over x (o ∷ (p ++ c ∷ []))) (is.one.after s) ∙ around-before o c p [] opens_one closes_one unlevelled part operand ∙ ended

  named-part : IsPart room 9 (t ∷ o ∷ (p ++ c ∷ [])) e
  named-part = record {
    cuts = named-cuts;
    closed = closed-flat t (o ∷ (p ++ c ∷ [])) is.one.depth (around-closed o c p [] opens_one closes_one unlevelled part closed-none);
    ended = named-ended;
    untyped = is.one.untyped;
    tight = λ l at s n h. named-tight l at s;
    plain = named-plain;
  }

module _ (room : ℕ) (t o c : Token) (n : Callee) (p : List Token) (es : List Expr) (is : callee_of t.kind ≡ Some n) (is_open : mark_of o.kind ≡ Some mark.OpenParen) (is_close : mark_of c.kind ≡ Some mark.CloseParen)
    (some_room : room == 0 ≡ false) (inner : IsInner (room - 1) p es) where
  call-ended : behind c.kind (before_over (behind o.kind operand) p) ≡ operand
  call-ended =
      mark-behind c.kind mark.CloseParen (before_over (behind o.kind operand) p) is_close
      ∙ ap (λ b. round_closed (before_over b p)) (mark-behind o.kind mark.OpenParen operand is_open) ∙ inner.ended

  call-cuts : (after : Place) → operand_named expression_of room t (o ∷ (p ++ c ∷ [])) ≡ Ok (node t.place (k.Call n es))
  call-cuts after =
      ap (λ m. behind_name expression_of room (mark_opens m) t o (p ++ c ∷ [])) is_open
      ∙ ap (λ f. call_expression expression_of room t.place f o.place (closed (p ++ c ∷ []))) is
      ∙ ap (λ x. call_expression expression_of room t.place (Some n) o.place x) (closed-is c p (round-closes c.kind is_close) (unlevelled-mark c.kind mark.CloseParen is_close refl) inner.closed)
      ∙ ap (λ r. r >>= (λ xs. Ok (node t.place (k.Call n xs)))) (inside-some room o.place (λ r. arguments expression_of r p c.place) some_room ∙ inner.given c.place)

  pub called-part : IsPart room 9 (t ∷ o ∷ (p ++ c ∷ [])) (node t.place (k.Call n es))
  called-part =
      named-part room t o c p (node t.place (k.Call n es)) (callee-named t.kind n is) (round-opens o.kind is_open) (round-closes c.kind is_close) (unlevelled-mark c.kind mark.CloseParen is_close refl) inner.closed call-ended call-cuts

module _ (room bound : ℕ) (t o c : Token) (n : List ℕ) (p : List Token) (e : Expr) (is : name_of t.kind ≡ Some n) (is_open : mark_of o.kind ≡ Some mark.OpenBracket) (is_close : mark_of c.kind ≡ Some mark.CloseBracket)
    (some_room : room == 0 ≡ false) (part : IsPart (room - 1) bound p e) where
  element-cuts : (after : Place) → operand_named expression_of room t (o ∷ (p ++ c ∷ [])) ≡ Ok (node t.place (k.Element n e))
  element-cuts after =
      ap (λ m. behind_name expression_of room (mark_opens m) t o (p ++ c ∷ [])) is_open
      ∙ ap (λ f. element expression_of room t.place f o.place (closed (p ++ c ∷ []))) is
      ∙ ap (λ x. element expression_of room t.place (Some n) o.place x) (closed-is c p (square-closes c.kind is_close) (unlevelled-mark c.kind mark.CloseBracket is_close refl) part.closed)
      ∙ ap (λ r. r >>= (λ x. Ok (node t.place (k.Element n x)))) (inside-some room o.place (λ r. expression_of r p c.place) some_room ∙ part.cuts c.place)

  pub element-part : IsPart room 9 (t ∷ o ∷ (p ++ c ∷ [])) (node t.place (k.Element n e))
  element-part =
      named-part room t o c p (node t.place (k.Element n e)) (name-named t.kind n is) (square-opens o.kind is_open) (square-closes c.kind is_close) (unlevelled-mark c.kind mark.CloseBracket is_close refl) part.closed
      (mark-behind c.kind mark.CloseBracket (before_over (behind o.kind operand) p) is_close) element-cuts

-- ---- members

module _ (room : ℕ) (t o f : Token) (n field : List ℕ) (is : name_of t.kind ≡ Some n) (is_arrow_o : mark_of o.kind ≡ Some mark.Arrow) (is_field : name_of f.kind ≡ Some field) where
  base : IsNamed t.kind
  base = name-named t.kind n is

  last : IsNamed f.kind
  last = name-named f.kind field is_field

  arrow-depth : (d : ℕ) → depth_after o.kind d ≡ d
  arrow-depth d = rw is_arrow_o refl

  member-tight : (l at : ℕ) (s : Before) → last_from l at 0 s (t ∷ o ∷ f ∷ []) ≡ None
  member-tight l at s =
      skip-plain l at 0 s t (o ∷ f ∷ []) base.one.operator_none
      ∙ ap (λ d. last_from l (at + 1) d (behind t.kind s) (o ∷ f ∷ [])) (base.one.depth 0)
      ∙ skip-plain l (at + 1) 0 (behind t.kind s) o (f ∷ []) (unlevelled-mark o.kind mark.Arrow is_arrow_o refl)
      ∙ skip-plain l (at + 1 + 1) (depth_after o.kind 0) (behind o.kind (behind t.kind s)) f [] last.one.operator_none

  member-cuts : (after : Place) → expression_of room (t ∷ o ∷ f ∷ []) after ≡ Ok (node t.place (k.Member n field))
  member-cuts after =
      expression_of-none room (t ∷ o ∷ f ∷ []) after (sym (loosest-none (t ∷ o ∷ f ∷ []) (λ l h. member-tight l 0 start)))
      ∙ ap (λ u. prefixed expression_of room u t (o ∷ f ∷ []) after) base.one.prefix_none
      ∙ base.cut_as expression_of room t (o ∷ f ∷ []) after
      ∙ ap (λ m. behind_name expression_of room (mark_opens m) t o (f ∷ [])) is_arrow_o
      ∙ ap (λ m. member_by (is_arrow_mark m) t.place (name_of t.kind) (f ∷ [])) is_arrow_o
      ∙ ap (λ b. member_named t.place b (name_of f.kind)) is
      ∙ ap (λ b. member_named t.place (Some n) b) is_field

  member-plain : has_comma 0 (t ∷ o ∷ f ∷ []) ≡ false
  member-plain =
      ap (λ b. b || has_comma (depth_after t.kind 0) (o ∷ f ∷ [])) base.one.comma
      ∙ ap (λ d. has_comma d (o ∷ f ∷ [])) (base.one.depth 0)
      ∙ ap (λ m. is_comma_mark m || has_comma (depth_after o.kind 0) (f ∷ [])) is_arrow_o
      ∙ ap (λ d. has_comma d (f ∷ [])) (arrow-depth 0)
      ∙ ap (λ b. b || has_comma (depth_after f.kind 0) []) last.one.comma

  pub member-part : IsPart room 9 (t ∷ o ∷ f ∷ []) (node t.place (k.Member n field))
  member-part = record {
    cuts = member-cuts;
    closed = closed-flat t (o ∷ f ∷ []) base.one.depth (closed-flat o (f ∷ []) arrow-depth (closed-flat f [] last.one.depth closed-none));
    ended = λ s. last.one.after (behind o.kind (behind t.kind s));
    untyped = base.one.untyped;
    tight = λ l at s n h. member-tight l at s;
    plain = member-plain;
  }

-- ---- casts

drop-next : (xs : List Token) (c : Token) (ys : List Token) → drop (length xs + 1) (xs ++ c ∷ ys) ≡ ys
drop-next [] c ys = refl
drop-next (x ∷ xs) c ys = let e : length (x ∷ xs) + 1 ≡ suc (length xs + 1) = omega arith in ap (λ n. drop n (x ∷ (xs ++ c ∷ ys))) e ∙ drop-next xs c ys

pub words-closed : (ts : List Token) → AreTypeWords ts → IsClosed ts
words-closed [] w = closed-none
words-closed (t ∷ ts) w = let is = type-word t.kind w.0 in closed-flat t ts is.depth (words-closed ts w.1)

words-before : (ks : List TokenKind) (ts : List Token) → AreTypeWords ts → before_over (bracket ks) ts ≡ bracket (ks ++ kinds_of ts)
words-before ks [] w = ap bracket (sym (append-nil ks))
words-before ks (t ∷ ts) w =
    let is = type-word t.kind w.0 in
    ap (λ b. before_over b ts) (is.after (bracket ks)) ∙ words-before (ks ++ t.kind ∷ []) ts w.1 ∙ ap bracket (append_assoc ks (t.kind ∷ []) (kinds_of ts))

module _ (room : ℕ) (o c : Token) (words q : List Token) (to : Spelled) (e : Expr) (is_open : mark_of o.kind ≡ Some mark.OpenParen) (is_close : mark_of c.kind ≡ Some mark.CloseParen)
    (are_words : AreTypeWords words) (spells : spelled_of (kinds_of words) ≡ Some to) (some_room : room == 0 ≡ false) (part : IsPart room 9 q e) where
  unlevelled_close : operator c.kind ≡ None
  unlevelled_close = unlevelled-mark c.kind mark.CloseParen is_close refl

  type_closed : IsClosed words
  type_closed = words-closed words are_words

  type-before : (s : Before) → behind c.kind (before_over (behind o.kind s) words) ≡ start
  type-before s =
      mark-behind c.kind mark.CloseParen (before_over (behind o.kind s) words) is_close
      ∙ ap (λ b. round_closed (before_over b words)) (mark-behind o.kind mark.OpenParen s is_open)
      ∙ ap round_closed (words-before [] words are_words)
      ∙ ap (λ s. cond (is_some s) start operand) spells

  cast-tight : (l at : ℕ) (s : Before) → is_operand s ≡ false → l < 9 → last_from l at 0 s (o ∷ (words ++ c ∷ q)) ≡ None
  cast-tight l at s n h =
      around-last o c words q (round-opens o.kind is_open) (round-closes c.kind is_close) unlevelled_close type_closed l at s
      ∙ ap (λ b. last_from l (at + 1 + length words + 1) 0 b q) (type-before s) ∙ part.tight l (at + 1 + length words + 1) start refl h

  cast-alone : (after : Place) → round expression_of room o.place (closing_from 0 1 (words ++ c ∷ q)) (words ++ c ∷ q) after ≡ Ok (node o.place (k.Cast to e))
  cast-alone after =
      ap (λ at. round expression_of room o.place at (words ++ c ∷ q) after) (close-at c words q (round-closes c.kind is_close) unlevelled_close type_closed)
      ∙ rw take-append_seam (
      ap (λ s. round_by expression_of room o.place s (length words) (words ++ c ∷ q) after) spells
      ∙ ap (λ ts. cast expression_of room o.place to ts after) (drop-next words c q)
      ∙ ap (λ r. r >>= (λ x. Ok (node o.place (k.Cast to x)))) (inside-some room o.place (λ r. expression_of room q after) some_room ∙ part.cuts after))

  cast-cuts : (after : Place) → expression_of room (o ∷ (words ++ c ∷ q)) after ≡ Ok (node o.place (k.Cast to e))
  cast-cuts after =
      expression_of-none room (o ∷ (words ++ c ∷ q)) after (sym (loosest-none (o ∷ (words ++ c ∷ q)) (λ l h. cast-tight l 0 start refl h)))
      ∙ ap (λ u. prefixed expression_of room u o (words ++ c ∷ q) after) (unprefixed-mark o.kind mark.OpenParen is_open refl)
      ∙ round-primary room o (words ++ c ∷ q) after is_open ∙ cast-alone after

  pub cast-part : IsPart room 9 (o ∷ (words ++ c ∷ q)) (node o.place (k.Cast to e))
  cast-part = record {
    cuts = cast-cuts;
    closed = around-closed o c words q (round-opens o.kind is_open) (round-closes c.kind is_close) unlevelled_close type_closed part.closed;
    ended = λ s. around-before o c words q (round-opens o.kind is_open) (round-closes c.kind is_close) unlevelled_close type_closed s ∙ part.ended (behind c.kind (before_over (behind o.kind s) words));
    untyped = mark-untyped o.kind mark.OpenParen is_open;
    tight = cast-tight;
    plain = around-plain o c words q (round-opens o.kind is_open) (round-closes c.kind is_close) unlevelled_close type_closed ∙ part.plain;
  }

-- ---- arguments

put-append : (b : Bool) (t : Token) (xs ys : List Delimited) → 0 < length xs → put_in b t (xs ++ ys) ≡ put_in b t xs ++ ys
put-append true t xs ys h = refl
put-append false t [] ys h = absurd (omega arith)
put-append false t (x ∷ xs) ys h = refl

put-some : (b : Bool) (t : Token) (ps : List Delimited) → 0 < length ps → 0 < length (put_in b t ps)
put-some true t ps h = omega arith
put-some false t [] h = h
put-some false t (p ∷ ps) h = omega arith

parts-some : (after : Place) (d : ℕ) (ts : List Token) → 0 < length (parts after d ts)
parts-some after d [] = omega arith
parts-some after d (t ∷ ts) = put-some (d == 0 && is_comma t.kind) t (parts after (depth_after t.kind d) ts) (parts-some after (depth_after t.kind d) ts)

-- the parts on either side of a comma
pub parts-seam : (after : Place) (d : ℕ) (xs : List Token) (c : Token) (ys : List Token) → mark_of c.kind ≡ Some mark.Comma → depth_over d xs ≡ 0 → parts after d (xs ++ c ∷ ys) ≡ parts c.place d xs ++ parts after 0 ys
parts-seam after d [] c ys is flat =
    ap (λ n. parts after n (c ∷ ys)) flat
    ∙ ap (λ m. put_in (is_comma_mark m) c (parts after (depth_by (mark_opens m) (mark_closes m) 0) ys)) is
parts-seam after d (x ∷ xs) c ys is flat =
    ap (put_in (d == 0 && is_comma x.kind) x) (parts-seam after (depth_after x.kind d) xs c ys is flat)
    ∙ put-append (d == 0 && is_comma x.kind) x (parts c.place (depth_after x.kind d) xs) (parts after 0 ys) (parts-some c.place (depth_after x.kind d) xs)

-- without a comma there is one
pub parts-one : (after : Place) (d : ℕ) (xs : List Token) → has_comma d xs ≡ false → parts after d xs ≡ (xs, after) ∷ []
parts-one after d [] e = refl
parts-one after d (x ∷ xs) e =
    let o = no-comma-first d x xs e in
    ap (λ b. put_in b x (parts after (depth_after x.kind d) xs)) o.0 ∙ ap (put x) (parts-one after (depth_after x.kind d) xs o.1)

one-more : (r : Result Expr Refusal) (a b : Result (List Expr) Refusal)
    → (r >>= λ e. ((a >>= λ es. b >>= λ fs. Ok (es ++ fs)) >>= λ xs. Ok (e ∷ xs))) ≡ ((r >>= λ e. a >>= λ es. Ok (e ∷ es)) >>= λ es. b >>= λ fs. Ok (es ++ fs))
one-more (Err f) a b = refl
one-more (Ok e) (Err f) b = refl
one-more (Ok e) (Ok es) (Err f) = refl
one-more (Ok e) (Ok es) (Ok fs) = refl

same-all : (b : Result (List Expr) Refusal) → b ≡ (b >>= λ fs. Ok fs)
same-all (Ok fs) = refl
same-all (Err f) = refl

cut_all-append : (room : ℕ) (ps qs : List Delimited) → cut_all expression_of room (ps ++ qs) ≡ (cut_all expression_of room ps >>= λ es. cut_all expression_of room qs >>= λ fs. Ok (es ++ fs))
cut_all-append room [] qs = same-all (cut_all expression_of room qs)
cut_all-append room (p ∷ ps) qs =
    ap (λ a. expression_of room p.0 p.1 >>= λ e. a >>= λ es. Ok (e ∷ es)) (cut_all-append room ps qs) ∙ one-more (expression_of room p.0 p.1) (cut_all expression_of room ps) (cut_all expression_of room qs)

some-tokens : (ts : List Token) → before_over start ts ≡ operand → 0 < length ts
some-tokens [] e = cc
some-tokens (t ∷ ts) e = omega arith

pub one-arg : (room bound : ℕ) (p : List Token) (e : Expr) → IsPart room bound p e → AreArgs room p (e ∷ [])
one-arg room bound p e part = record {
  closed = part.closed;
  ended = part.ended;
  some = some-tokens p (part.ended start);
  given = λ after. ap (cut_all expression_of room) (parts-one after 0 p part.plain) ∙ rw (part.cuts after) refl;
}

pub args-joined : (room : ℕ) (c : Token) (p q : List Token) (es fs : List Expr) → mark_of c.kind ≡ Some mark.Comma → AreArgs room p es → AreArgs room q fs → AreArgs room (p ++ c ∷ q) (es ++ fs)
args-joined room c p q es fs is left right =
    let flat : (d : ℕ) → depth_after c.kind d ≡ d = λ d. ap (λ m. depth_by (mark_opens m) (mark_closes m) d) is in
    record {
      closed = closed-append p (c ∷ q) left.closed (closed-flat c q flat right.closed);
      ended = λ s. before_over-append s p (c ∷ q) ∙ right.ended (behind c.kind (before_over s p));
      some = omega (arith, length-append p (c ∷ q));
      given = λ after.
          ap (cut_all expression_of room) (parts-seam after 0 p c q is left.closed.flat)
          ∙ cut_all-append room (parts c.place 0 p) (parts after 0 q)
          ∙ ap (λ r. r >>= λ xs. cut_all expression_of room (parts after 0 q) >>= λ ys. Ok (xs ++ ys)) (left.given c.place)
          ∙ ap (λ r. r >>= λ ys. Ok (es ++ ys)) (right.given after);
    }

-- an argument before others
pub more-args : (room bound : ℕ) (c : Token) (p q : List Token) (e : Expr) (es : List Expr) → mark_of c.kind ≡ Some mark.Comma → IsPart room bound p e → AreArgs room q es → AreArgs room (p ++ c ∷ q) (e ∷ es)
more-args room bound c p q e es is part args = args-joined room c p q (e ∷ []) es is (one-arg room bound p e part) args

pub inner-none : (room : ℕ) → IsInner room [] []
unfolding spelled_of
inner-none room = record { closed = closed-none; ended = refl; given = λ after. refl }

pub inner-some : (room : ℕ) (ts : List Token) (es : List Expr) → AreArgs room ts es → IsInner room ts es
inner-some room [] es args = absurd (let h = args.some in omega arith)
inner-some room (t ∷ ts) es args = record { closed = args.closed; ended = ended-round _ (args.ended (bracket [])); given = args.given }
