-- An operand behind prefix operators and casts.
use Rattle.std.proofs.Common.{◌≡◌, ℕ, zero, suc, ◌+◌, ◌==◌, List, [], ◌∷◌, ◌++◌, length, take, drop, Option, Some, None, Result, Ok, Err, refl, sym, ap, subst, ◌∙◌, arith, Bool, true, false, cond, length-append, add-one}
use Rattle.std.specs.Prelude.{is_some}
use Rattle.std.proofs.lemmas.Option.{none-some, same_Some}
use Rattle.std.proofs.Math.Seq.{drop-append_seam}
use Rattle.c_text.specs.declared.place.Place.{Place}
use Rattle.c_text.specs.declared.token.Spelled.{Spelled}
use Rattle.c_text.specs.declared.token.Token.{Token}
use Rattle.c_text.specs.declared.token.TokenKind.{TokenKind}
use Rattle.c_text.specs.declared.token.TokenKind.TheVariants.{Word, Constant as Number, Quoted, Mark, TypeName, Null, Memset}
use Rattle.c_tree.specs.declared.symbol.Bracket.TheVariants.{Round}
use Rattle.c_tree.specs.declared.symbol.Punctuator.{Punctuator}
use Rattle.c_tree.specs.declared.symbol.Punctuator.TheVariants as mark
use Rattle.c_tree.specs.declared.expression.UnaryOp.{UnaryOp}
use Rattle.c_tree.specs.declared.expression.Expr.{Expr}
use Rattle.c_text.specs.declared.refusal.CFault.{CFault}
use Rattle.c_text.specs.declared.refusal.CFault.TheVariants.{Fault, Memory}
use Rattle.c_text.specs.Refusal.{Refusal, Gives}
use Rattle.cg_out.specs.Words.{◌>>=◌, or_else}
use Rattle.c_tree.specs.Symbol.{mark_of, name_of}
use Rattle.c_tree.specs.Brackets.{mark_opens, mark_closes, depth_by, depth_after, opens, is_bracket, closing_from, too_deep}
use Rattle.c_tree.specs.Operators.{prefix}
use Rattle.c_tree.specs.TypeName.{spelled_of, kinds_of, is_type_word}
use Rattle.c_tree.specs.ExpressionCut.{Before, start, bracket, operand, round_closed, mark_behind, word_behind, behind, is_cut, last_from, expression_of, operand_of, prefixed, primary, at_mark, round, round_by}
use Rattle.c_tree.specs.TokenRun.{depth_over, before_over}
use Rattle.c_tree.proofs.ExpressionSteps.{expression_of-none}
use Rattle.c_tree.proofs.ExpressionTokens.{last_from-append, prefix-is-flat, loosest-none, skip-first, suc-not-zero}
use Rattle.c_expression.specs.declared.prefixes.PrefixKind.TheVariants.{Sign, Cast}
use Rattle.c_expression.specs.declared.prefixes.PrefixOp.{PrefixOp}
use Rattle.c_expression.specs.Prefixes.{with_prefix, with_prefixes}
use Rattle.c_expression.specs.Joint.{IsJointless, Faults}
use Rattle.c_expression.specs.Operand.{IsBefore}

-- ---- tokens that begin anew

or-none : (x y : Option ℕ) → or_else x y ≡ None → (x ≡ None) × (y ≡ None)
or-none None y e = (refl, e)
or-none (Some n) y e = absurd (none-some n (sym e))

here-none : (b : Bool) (at other : ℕ) → cond b (Some at) None ≡ None → cond b (Some other) None ≡ None
here-none true at other e = absurd (none-some at (sym e))
here-none false at other e = refl

shifted : (level at other depth : ℕ) (before : Before) (ts : List Token) → last_from level at depth before ts ≡ None → last_from level other depth before ts ≡ None
shifted level at other depth before [] e = refl
shifted level at other depth before (t ∷ ts) e =
    let two = or-none (last_from level (at + 1) (depth_after t.kind depth) (behind t.kind before) ts) (cond (is_cut level depth before t) (Some at) None) e in
    rw (shifted level (at + 1) (other + 1) (depth_after t.kind depth) (behind t.kind before) ts two.0, here-none (is_cut level depth before t) at other two.1) refl

-- no bracket that may hold a type is open
abbrev Started : Before → Type 0
Started start = Unit {0}
Started (bracket ks) = ⊥
Started operand = Unit {0}

mark-anew : (m : Option Punctuator) → mark_behind m operand ≡ mark_behind m start
mark-anew None = refl
mark-anew (Some mark.OpenParen) = refl
mark-anew (Some mark.CloseParen) = refl
mark-anew (Some mark.OpenBracket) = refl
mark-anew (Some mark.CloseBracket) = refl
mark-anew (Some mark.OpenBrace) = refl
mark-anew (Some mark.CloseBrace) = refl
mark-anew (Some mark.Comma) = refl
mark-anew (Some mark.Semicolon) = refl
mark-anew (Some mark.Colon) = refl
mark-anew (Some mark.Arrow) = refl
mark-anew (Some mark.Star) = refl
mark-anew (Some mark.Complement) = refl
mark-anew (Some mark.Not) = refl
mark-anew (Some mark.Plus) = refl
mark-anew (Some mark.Minus) = refl
mark-anew (Some mark.ShiftLeft) = refl
mark-anew (Some mark.ShiftRight) = refl
mark-anew (Some mark.Less) = refl
mark-anew (Some mark.Greater) = refl
mark-anew (Some mark.LessEqual) = refl
mark-anew (Some mark.GreaterEqual) = refl
mark-anew (Some mark.EqualEqual) = refl
mark-anew (Some mark.NotEqual) = refl
mark-anew (Some mark.And) = refl
mark-anew (Some mark.Caret) = refl
mark-anew (Some mark.Bar) = refl
mark-anew (Some mark.AndAnd) = refl
mark-anew (Some mark.BarBar) = refl
mark-anew (Some mark.Equal) = refl
mark-anew (Some mark.BarEqual) = refl
mark-anew (Some mark.AndEqual) = refl
mark-anew (Some mark.CaretEqual) = refl
mark-anew (Some mark.PlusEqual) = refl
mark-anew (Some mark.MinusEqual) = refl
mark-anew (Some mark.ShiftLeftEqual) = refl
mark-anew (Some mark.ShiftRightEqual) = refl

word-anew : (n : Option (List ℕ)) (k : TokenKind) (b : Bool) → is_type_word k ≡ b → word_behind n k operand ≡ word_behind n k start
word-anew (Some n) k b e = refl
word-anew None k true e = rw e refl
word-anew None k false e = rw e refl

kind-anew : (k : TokenKind) → behind k operand ≡ behind k start
kind-anew (Word w) = word-anew (name_of (Word w)) (Word w) (is_type_word (Word w)) refl
kind-anew (Mark w) = mark-anew (mark_of (Mark w))
kind-anew (Number c) = refl
kind-anew Null = refl
kind-anew Memset = refl
kind-anew (TypeName s) = refl
kind-anew (Quoted q) = refl

anew : (k : TokenKind) (before : Before) → Started before → behind k before ≡ behind k start
anew k start h = refl
anew k operand h = kind-anew k
anew k (bracket ks) h = absurd h

restarted : (level at other : ℕ) (before : Before) (ts : List Token) → Started before → last_from level at 0 before ts ≡ None → last_from level other 0 start ts ≡ None
restarted level at other before [] s e = refl
restarted level at other before (t ∷ ts) s e =
    let two = or-none (last_from level (at + 1) (depth_after t.kind 0) (behind t.kind before) ts) (cond (is_cut level 0 before t) (Some at) None) e in
    skip-first level other 0 start t ts refl
    ∙ ap (λ b. last_from level (other + 1) (depth_after t.kind 0) b ts) (sym (anew t.kind before s))
    ∙ shifted level (at + 1) (other + 1) (depth_after t.kind 0) (behind t.kind before) ts two.0

jointless-behind : (xs ys : List Token) → depth_over 0 xs ≡ 0 → Started (before_over start xs) → IsJointless (xs ++ ys) → IsJointless ys
jointless-behind xs ys flat s tight = record {
  none = λ level at h.
      let e = sym (last_from-append level 0 0 start xs ys) ∙ tight.none level 0 h in
      let two = or-none (last_from level (0 + length xs) (depth_over 0 xs) (before_over start xs) ys) (last_from level 0 0 start xs) e in
      restarted level (0 + length xs) at (before_over start xs) ys s (ap (λ d. last_from level (0 + length xs) d (before_over start xs) ys) (sym flat) ∙ two.0);
}

-- ---- a prefix operator

pub sign-before : (room : ℕ) (t : Token) (rest : List Token) (after : Place) (u : UnaryOp) → prefix t.kind ≡ Some u → IsBefore room (t ∷ rest) after (record { place = t.place; kind = Sign u }) 0
sign-before room t rest after u is =
    let flat = prefix-is-flat t.kind u is in
    record {
      within = omega arith;
      cuts = ap (λ o. prefixed expression_of room o t rest after) is;
      jointless = jointless-behind (t ∷ []) rest (flat.depth 0) (subst Started (sym (flat.after start)) tt);
    }

-- ---- a cast

-- tokens up to the one that closes a bracket
record IsClosing (n depth at : ℕ) (ts : List Token) : Type 0 where
  xs : List Token
  ys : List Token
  is : ts ≡ xs ++ ys
  index : n + length xs ≡ suc at
  flat : depth_over depth xs ≡ 0
  ended : (before : Before) → Started (before_over before xs)

started-round : (before : Before) → Started (round_closed before)
started-round start = tt
started-round operand = tt
started-round (bracket ks) = by (is_some (spelled_of ks))
  where
    by : (b : Bool) → Started (cond b start operand)
    by true = tt
    by false = tt

started-mark : (m : Option Punctuator) (before : Before) (d : ℕ) → depth_by (mark_opens m) (mark_closes m) (suc d) ≡ 0 → Started (mark_behind m before)
started-mark (Some mark.CloseParen) before d e = started-round before
started-mark (Some mark.CloseBracket) before d e = tt
started-mark (Some mark.CloseBrace) before d e = tt
started-mark (Some mark.OpenParen) before d e = absurd (omega (arith, e))
started-mark (Some mark.OpenBracket) before d e = absurd (omega (arith, e))
started-mark (Some mark.OpenBrace) before d e = absurd (omega (arith, e))
started-mark _ before d e = absurd (omega (arith, e))

started-kind : (k : TokenKind) (before : Before) (d : ℕ) → depth_after k (suc d) ≡ 0 → Started (behind k before)
started-kind (Mark w) before d e = started-mark (mark_of (Mark w)) before d e
started-kind _ before d e = absurd (omega (arith, e))

closing-by : (n d at : ℕ) (t : Token) (ts : List Token) (m : ℕ) → depth_after t.kind (suc d) ≡ m → cond (m == 0) (Some n) (closing_from (n + 1) m ts) ≡ Some at
    → ((e : ℕ) → m ≡ suc e → closing_from (n + 1) (suc e) ts ≡ Some at → IsClosing (n + 1) (suc e) at ts) → IsClosing n (suc d) at (t ∷ ts)
closing-by n d at t ts zero m e ih =
    let same : n ≡ at = same_Some n at e in
    record { xs = t ∷ []; ys = ts; is = refl; index = omega (arith, same); flat = m; ended = λ before. started-kind t.kind before d m }
closing-by n d at t ts (suc k) m e ih =
    let more = ih k refl (sym (ap (λ b. cond b (Some n) (closing_from (n + 1) (suc k) ts)) (suc-not-zero k)) ∙ e) in
    record {
      xs = t ∷ more.xs;
      ys = more.ys;
      is = ap (λ us. t ∷ us) more.is;
      index = omega (arith, more.index);
      flat = ap (λ x. depth_over x more.xs) m ∙ more.flat;
      ended = λ before. more.ended (behind t.kind before);
    }

closing : (n d at : ℕ) (ts : List Token) → closing_from n (suc d) ts ≡ Some at → IsClosing n (suc d) at ts
closing n d at [] e = absurd (none-some at e)
closing n d at (t ∷ ts) e = closing-by n d at t ts (depth_after t.kind (suc d)) refl e (λ k m f. closing (n + 1) k at ts f)

primary-round : (k : TokenKind) (room : ℕ) (t : Token) (rest : List Token) (after : Place) → t.kind ≡ k → is_bracket Round (opens k) ≡ true → primary expression_of room k t rest after ≡ round expression_of room t.place (closing_from 0 1 rest) rest after
primary-round (Mark w) room t rest after e is = ap (λ b. at_mark expression_of room b t.place rest after) (ap (λ x. is_bracket Round (opens x)) e ∙ is)
primary-round _ room t rest after e is = cc

alone-round : (room : ℕ) (t : Token) (rest : List Token) (after : Place) → prefix t.kind ≡ None → is_bracket Round (opens t.kind) ≡ true → operand_of expression_of room (t ∷ rest) after ≡ round expression_of room t.place (closing_from 0 1 rest) rest after
alone-round room t rest after bare is = ap (λ o. prefixed expression_of room o t rest after) bare ∙ primary-round t.kind room t rest after refl is

open-depth : (m : Option Punctuator) → is_bracket Round (mark_opens m) ≡ true → depth_by (mark_opens m) (mark_closes m) 0 ≡ 1
open-depth (Some mark.OpenParen) e = refl
open-depth _ e = cc

pub cast-before : (room : ℕ) (t : Token) (rest : List Token) (after : Place) (at : ℕ) (to : Spelled) → prefix t.kind ≡ None → is_bracket Round (opens t.kind) ≡ true → closing_from 0 1 rest ≡ Some at → spelled_of (kinds_of (take at rest)) ≡ Some to → room == 0 ≡ false
    → IsBefore room (t ∷ rest) after (record { place = t.place; kind = Cast to }) (at + 1)
cast-before room t rest after at to bare is closes spells some_room =
    let c = closing 0 0 at rest closes in
    let n : length c.xs ≡ at + 1 = omega (arith, c.index) in
    let behind_all : drop (at + 1 + 1) (t ∷ rest) ≡ c.ys = ap (λ i. drop i (t ∷ rest)) (add-one (at + 1)) ∙ ap (λ i. drop i rest) (sym n) ∙ ap (λ us. drop (length c.xs) us) c.is ∙ drop-append_seam c.xs c.ys in
    let same : drop (at + 1 + 1) (t ∷ rest) ≡ drop (at + 1) rest = ap (λ i. drop i (t ∷ rest)) (add-one (at + 1)) in
    record {
      within = omega (arith, n, ap length c.is, length-append c.xs c.ys);
      cuts =
          alone-round room t rest after bare is
          ∙ ap (λ o. round expression_of room t.place o rest after) closes
          ∙ ap (λ o. round_by expression_of room t.place o at rest after) spells
          ∙ ap (λ b. cond b (Err (too_deep t.place)) (expression_of room (drop (at + 1) rest) after) >>= (λ e. Ok (with_prefix (record { place = t.place; kind = Cast to }) e))) some_room
          ∙ ap (λ us. expression_of room us after >>= (λ e. Ok (with_prefix (record { place = t.place; kind = Cast to }) e))) (sym same);
      jointless = λ tight. subst IsJointless (sym behind_all)
          (jointless-behind (t ∷ c.xs) c.ys (ap (λ d. depth_over d c.xs) (open-depth (mark_of t.kind) is) ∙ c.flat) (c.ended (behind t.kind start)) (subst IsJointless (ap (λ us. t ∷ us) c.is) tight));
    }

-- ---- all that stands before an operand

-- the last of them stands next to the operand
pub last-prefix : (ps : List PrefixOp) (p : PrefixOp) (e : Expr) → with_prefixes (ps ++ p ∷ []) e ≡ with_prefixes ps (with_prefix p e)
last-prefix [] p e = refl
last-prefix (q ∷ ps) p e = ap (with_prefix q) (last-prefix ps p e)

pub alone-cut : (room : ℕ) (ts : List Token) (after : Place) → IsJointless ts → expression_of room ts after ≡ operand_of expression_of room ts after
alone-cut room ts after tight = expression_of-none room ts after (sym (loosest-none ts (λ l h. tight.none l 0 h)))

pub behind-more : (r : Result Expr Refusal) (ps : List PrefixOp) (p : PrefixOp) → ((r >>= λ e. Ok (with_prefix p e)) >>= (λ e. Ok (with_prefixes ps e))) ≡ (r >>= λ e. Ok (with_prefixes (ps ++ p ∷ []) e))
behind-more (Ok e) ps p = ap Ok (sym (last-prefix ps p e))
behind-more (Err f) ps p = refl

-- what a front means, where the operand has these before it
module _ (room : ℕ) (whole left : List Token) (after : Place) (ps : List PrefixOp) (tight : IsJointless left) (told : expression_of room whole after ≡ (expression_of room left after >>= λ e. Ok (with_prefixes ps e))) where
  alone-told : expression_of room whole after ≡ (operand_of expression_of room left after >>= λ e. Ok (with_prefixes ps e))
  alone-told = told ∙ ap (λ r. r >>= (λ e. Ok (with_prefixes ps e))) (alone-cut room left after tight)

  pub told-before : (p : PrefixOp) (more : ℕ) → IsBefore room left after p more → expression_of room whole after ≡ (expression_of room (drop (more + 1) left) after >>= λ e. Ok (with_prefixes (ps ++ p ∷ []) e))
  told-before p more b = alone-told ∙ ap (λ r. r >>= (λ e. Ok (with_prefixes ps e))) b.cuts ∙ behind-more (expression_of room (drop (more + 1) left) after) ps p

  pub told-whole : (tree : Expr) → operand_of expression_of room left after ≡ Ok tree → expression_of room whole after ≡ Ok (with_prefixes ps tree)
  told-whole tree e = alone-told ∙ ap (λ r. r >>= (λ x. Ok (with_prefixes ps x))) e

  pub told-fault : (x : CFault) → Faults {X = Expr} (Err x) (operand_of expression_of room left after) → Gives {X = Expr} {Y = Expr} (λ e. e) (Err x) (expression_of room whole after)
  told-fault (Fault kind place) e = alone-told ∙ ap (λ r. r >>= (λ y. Ok (with_prefixes ps y))) e
  told-fault Memory e = tt
