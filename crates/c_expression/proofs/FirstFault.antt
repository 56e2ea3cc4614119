-- An expression has the first fault of its operands.
use Rattle.std.proofs.Common.{◌≡◌, ℕ, zero, suc, ◌+◌, ◌==◌, ◌<◌, List, [], ◌∷◌, ◌++◌, length, take, drop, get_or, Option, Some, None, Result, Ok, Err, refl, sym, ap, subst, ◌∙◌, arith, Bool, true, false, cond, length-append}
use Rattle.std.specs.Prelude.{◌&&◌}
use Rattle.std.proofs.lemmas.Bool.{false≢true}
use Rattle.std.proofs.lemmas.Bool.Decides.{nat_tests}
use Rattle.std.proofs.lemmas.Option.{none-some, same_Some}
use Rattle.std.proofs.Math.Seq.{take-append_seam, drop-append_seam}
use Rattle.c_text.specs.declared.place.Place.{Place}
use Rattle.c_text.specs.declared.token.Token.{Token}
use Rattle.c_text.specs.Refusal.{Refusal}
use Rattle.cg_out.specs.Words.{◌>>=◌, or_else}
use Rattle.c_tree.specs.Operators.{Leveled, levels, operator}
use Rattle.c_tree.specs.Brackets.{depth_after}
use Rattle.c_tree.specs.ExpressionCut.{Before, start, operand, behind, is_operand, has_level, is_cut, last_from, loosest_of, loosest, Cutting, binary_of, at_operator, expression_of}
use Rattle.c_tree.specs.TokenRun.{depth_over, before_over}
use Rattle.c_tree.proofs.ExpressionSteps.{expression_of-some}
use Rattle.c_tree.proofs.ExpressionTokens.{last_from-append, depth_over-append, before_over-append, operator-flat, operator-level}
use Rattle.c_expression.specs.Joint.{IsJoint}
use Rattle.cg_out.proofs.WordLaws.{or_else-assoc, both}
use Rattle.c_expression.proofs.Commas.{is-zero}

-- ---- the operator at which tokens are cut stands between operands

-- tokens before it, it, and those behind it
record Split (depth : ℕ) (before : Before) (at j : ℕ) (ts : List Token) : Type 0 where
  ls : List Token
  t : Token
  rs : List Token
  is : ts ≡ ls ++ t ∷ rs
  index : j ≡ at + length ls
  flat : depth_over depth ls ≡ 0
  ended : before_over before ls ≡ operand
  leveled : Leveled
  operates : operator t.kind ≡ Some leveled

pub is-operand : (before : Before) → is_operand before ≡ true → before ≡ operand
is-operand operand e = refl
is-operand start e = absurd (false≢true e)
is-operand (Before.bracket ks) e = absurd (false≢true e)

split-here : (level depth : ℕ) (before : Before) (at j : ℕ) (t : Token) (ts : List Token) (o : Option Leveled) → operator t.kind ≡ o → is_cut level depth before t ≡ true → Some at ≡ Some j → Split depth before at j (t ∷ ts)
split-here level depth before at j t ts None e c s =
    let a = both (depth == 0) (is_operand before && has_level level (operator t.kind)) c in
    let b = both (is_operand before) (has_level level (operator t.kind)) a.1 in
    absurd (false≢true (ap (has_level level) (sym e) ∙ b.1))
split-here level depth before at j t ts (Some o) e c s =
    let a = both (depth == 0) (is_operand before && has_level level (operator t.kind)) c in
    let b = both (is_operand before) (has_level level (operator t.kind)) a.1 in
    let same : at ≡ j = same_Some at j s in
    record { ls = []; t = t; rs = ts; is = refl; index = omega (arith, same); flat = is-zero depth a.0; ended = is-operand before b.0; leveled = o; operates = e }

split-later : (level depth : ℕ) (before : Before) (at j : ℕ) (t : Token) (ts : List Token) → Split (depth_after t.kind depth) (behind t.kind before) (at + 1) j ts → Split depth before at j (t ∷ ts)
split-later level depth before at j t ts s = record {
  ls = t ∷ s.ls;
  t = s.t;
  rs = s.rs;
  is = ap (λ us. t ∷ us) s.is;
  index = omega (arith, s.index);
  flat = s.flat;
  ended = s.ended;
  leveled = s.leveled;
  operates = s.operates;
}

split-by : (level depth : ℕ) (before : Before) (at j : ℕ) (t : Token) (ts : List Token) (r : Option ℕ) (b : Bool) → is_cut level depth before t ≡ b
    → (r ≡ Some j → Split (depth_after t.kind depth) (behind t.kind before) (at + 1) j ts) → or_else r (cond b (Some at) None) ≡ Some j → Split depth before at j (t ∷ ts)
split-by level depth before at j t ts (Some k) b c ih e = split-later level depth before at j t ts (ih e)
split-by level depth before at j t ts None true c ih e = split-here level depth before at j t ts (operator t.kind) refl c e
split-by level depth before at j t ts None false c ih e = absurd (none-some j e)

split : (level depth : ℕ) (before : Before) (at j : ℕ) (ts : List Token) → last_from level at depth before ts ≡ Some j → Split depth before at j ts
split level depth before at j [] e = absurd (none-some j e)
split level depth before at j (t ∷ ts) e =
    split-by level depth before at j t ts (last_from level (at + 1) (depth_after t.kind depth) (behind t.kind before) ts) (is_cut level depth before t) refl
    (split level (depth_after t.kind depth) (behind t.kind before) (at + 1) j ts) e

split-of : (levels : List ℕ) (j : ℕ) (ts : List Token) → loosest_of levels ts ≡ Some j → Split 0 start 0 j ts
split-of [] j ts e = absurd (none-some j e)
split-of (level ∷ levels) j ts e = by (last_from level 0 0 start ts) refl (split-of levels j ts) e
  where
    by : (r : Option ℕ) → last_from level 0 0 start ts ≡ r → (loosest_of levels ts ≡ Some j → Split 0 start 0 j ts) → or_else r (loosest_of levels ts) ≡ Some j → Split 0 start 0 j ts
    by (Some k) f ih e = split level 0 start 0 j ts (f ∙ e)
    by None f ih e = ih e

split-loosest : (j : ℕ) (ts : List Token) → loosest ts ≡ Some j → Split 0 start 0 j ts
unfolding loosest
split-loosest j ts e = split-of levels j ts e

-- ---- where one stands, tokens are cut

abbrev IsFound : Option ℕ → Type 0
IsFound None = ⊥
IsFound (Some j) = Unit {0}

found-or : (x y : Option ℕ) → IsFound y → IsFound (or_else x y)
found-or (Some i) y h = tt
found-or None y h = h

found-first : (x y : Option ℕ) → IsFound x → IsFound (or_else x y)
found-first (Some i) y h = tt
found-first None y h = absurd h

-- with an operator of this level
last-found : (l : List Token) (t : Token) (r : List Token) (j : IsJoint l t) → IsFound (last_from j.leveled.0 0 0 start (l ++ t ∷ r))
last-found l t r j =
    let level = j.leveled.0 in
    let rest = last_from level (0 + length l + 1) (depth_after t.kind 0) (behind t.kind operand) r in
    let same : level == level ≡ true = grind (arith, nat_tests) in
    let here : last_from level (0 + length l) (depth_over 0 l) (before_over start l) (t ∷ r) ≡ or_else rest (Some (0 + length l)) =
    ap (λ d. last_from level (0 + length l) d (before_over start l) (t ∷ r)) j.flat
    ∙ ap (λ b. last_from level (0 + length l) 0 b (t ∷ r)) j.ended
    ∙ ap (λ o. or_else rest (cond (has_level level o) (Some (0 + length l)) None)) j.operates
    ∙ ap (λ b. or_else rest (cond b (Some (0 + length l)) None)) same in
    subst IsFound (sym (last_from-append level 0 0 start l (t ∷ r)))
    (found-first _ (last_from level 0 0 start l) (subst IsFound (sym here) (found-or rest (Some (0 + length l)) tt)))

among : (i : ℕ) (ls : List ℕ) (ts : List Token) → i < length ls → IsFound (last_from (get_or ls i 0) 0 0 start ts) → IsFound (loosest_of ls ts)
among i [] ts h f = absurd (omega (arith, h))
among zero (level ∷ ls) ts h f = found-first (last_from level 0 0 start ts) (loosest_of ls ts) f
among (suc i) (level ∷ ls) ts h f = found-or (last_from level 0 0 start ts) (loosest_of ls ts) (among i ls ts (omega (arith, h)) f)

level-at : (n : ℕ) → n < 9 → get_or levels n 0 ≡ n
level-at zero h = refl
level-at (suc zero) h = refl
level-at (suc (suc zero)) h = refl
level-at (suc (suc (suc zero))) h = refl
level-at (suc (suc (suc (suc zero)))) h = refl
level-at (suc (suc (suc (suc (suc zero))))) h = refl
level-at (suc (suc (suc (suc (suc (suc zero)))))) h = refl
level-at (suc (suc (suc (suc (suc (suc (suc zero))))))) h = refl
level-at (suc (suc (suc (suc (suc (suc (suc (suc zero)))))))) h = refl
level-at (suc (suc (suc (suc (suc (suc (suc (suc (suc n))))))))) h = absurd (omega (arith, h))

loosest-found : (n : ℕ) (ts : List Token) → n < 9 → IsFound (last_from n 0 0 start ts) → IsFound (loosest ts)
unfolding loosest
loosest-found n ts h f = among n levels ts (omega (arith, h)) (subst (λ l. IsFound (last_from l 0 0 start ts)) (sym (level-at n h)) f)

-- ---- one list cut at two places

abbrev Tokens : Type 0
Tokens = List Token

data Where (l : Tokens) (t : Token) (r : Tokens) (p : Tokens) (u : Token) (q : Tokens) : Type 0 where
  same : l ≡ p → t ≡ u → r ≡ q → Where l t r p u q
  earlier : (m : Tokens) → l ≡ p ++ u ∷ m → q ≡ m ++ t ∷ r → Where l t r p u q
  later : (m : Tokens) → p ≡ l ++ t ∷ m → r ≡ m ++ u ∷ q → Where l t r p u q

abbrev first-of : Token → Tokens → Token
first-of d [] = d
first-of d (t ∷ ts) = t

abbrev rest-of : Tokens → Tokens
rest-of [] = []
rest-of (t ∷ ts) = ts

where-behind : (x y : Token) (l : Tokens) (t : Token) (r p : Tokens) (u : Token) (q : Tokens) → x ≡ y → Where l t r p u q → Where (x ∷ l) t r (y ∷ p) u q
where-behind x y l t r p u q e (same a b c) = same (λ i. (e i) ∷ (a i)) b c
where-behind x y l t r p u q e (earlier m a b) = earlier m (λ i. (e i) ∷ (a i)) b
where-behind x y l t r p u q e (later m a b) = later m (λ i. (sym e i) ∷ (a i)) b

where-of : (l : Tokens) (t : Token) (r p : Tokens) (u : Token) (q : Tokens) → l ++ t ∷ r ≡ p ++ u ∷ q → Where l t r p u q
where-of [] t r [] u q e = same refl (ap (first-of t) e) (ap rest-of e)
where-of [] t r (y ∷ p) u q e = later p (ap (λ x. x ∷ p) (sym (ap (first-of t) e))) (ap rest-of e)
where-of (x ∷ l) t r [] u q e = earlier l (ap (λ y. y ∷ l) (ap (first-of x) e)) (sym (ap rest-of e))
where-of (x ∷ l) t r (y ∷ p) u q e = where-behind x y l t r p u q (ap (first-of x) e) (where-of l t r p u q (ap rest-of e))

-- ---- what stands between two operators

joint-front : (p m : Tokens) (u t : Token) (j : IsJoint p u) (k : IsJoint (p ++ u ∷ m) t) → IsJoint m t
joint-front p m u t j k =
    let flat = operator-flat u.kind j.leveled j.operates in
    record {
      flat =
          ap (λ d. depth_over d m) (sym (flat.depth 0)) ∙ ap (λ d. depth_over (depth_after u.kind d) m) (sym j.flat)
          ∙ sym (depth_over-append 0 p (u ∷ m)) ∙ k.flat;
      ended =
          ap (λ b. before_over b m) (sym (flat.after (before_over start p))) ∙ sym (before_over-append start p (u ∷ m)) ∙ k.ended;
      leveled = k.leveled;
      operates = k.operates;
    }

-- ---- the fault of a cut

abbrev pub fault : {A : Type 0} → Result A Refusal → Option Refusal
fault (Ok x) = None
fault (Err e) = Some e

fault-parts : (a b : Cutting) (o : Option Leveled) (v : Leveled) (p : Place) → o ≡ Some v → fault (a >>= (λ x. b >>= (λ y. binary_of o p x y))) ≡ or_else (fault a) (fault b)
fault-parts (Ok x) (Ok y) o v p e = ap (λ w. fault (binary_of w p x y)) e
fault-parts (Ok x) (Err f) o v p e = refl
fault-parts (Err f) b o v p e = refl

-- at the operator of which the cut is made
fault-cut : (room : ℕ) (ts : Tokens) (after : Place) (j : ℕ) → Some j ≡ loosest ts → (s : Split 0 start 0 j ts) → fault (expression_of room ts after) ≡ or_else (fault (expression_of room s.ls s.t.place)) (fault (expression_of room s.rs after))
fault-cut room ts after j e s =
    let n : j ≡ length s.ls = omega (arith, s.index) in
    ap fault (expression_of-some room ts after j e)
    ∙ ap (λ i. fault (at_operator expression_of room (take i ts) (drop i ts) after)) n
    ∙ ap (λ us. fault (at_operator expression_of room (take (length s.ls) us) (drop (length s.ls) us) after)) s.is
    ∙ rw (take-append_seam, drop-append_seam) (fault-parts (expression_of room s.ls s.t.place) (expression_of room s.rs after) (operator s.t.kind) s.leveled s.t.place s.operates)

found-is : (o : Option ℕ) → IsFound o → (B : Type 0) → ((j : ℕ) → o ≡ Some j → B) → B
found-is None f B k = absurd f
found-is (Some j) f B k = k j refl

-- at any operator between operands
abbrev Within : ℕ → ℕ → Type 0
Within n room = (l : Tokens) (t : Token) (r : Tokens) (after : Place) → length l + length r < n → IsJoint l t → fault (expression_of room (l ++ t ∷ r) after) ≡ or_else (fault (expression_of room l t.place)) (fault (expression_of room r after))

-- the parts round an operator, by where another one stands
module _ (n room : ℕ) (ih : Within n room) (l : Tokens) (t : Token) (r : Tokens) (after : Place) (le : length l + length r < suc n) (j : IsJoint l t) where
  fault-where : (s : Tokens) (u : Token) (q : Tokens) → IsJoint s u → Where l t r s u q → or_else (fault (expression_of room s u.place)) (fault (expression_of room q after)) ≡ or_else (fault (expression_of room l t.place)) (fault (expression_of room r after))
  fault-where s u q k (same a b c) = λ i. or_else (fault (expression_of room (sym a i) (sym b i).place)) (fault (expression_of room (sym c i) after))
  fault-where s u q k (earlier m a b) =
      let inner = joint-front s m u t k (subst (λ xs. IsJoint xs t) a j) in
      let size = length-append s (u ∷ m) in
      let right = ih m t r after (omega (arith, le, size, ap length a)) inner in
      let left = ih s u m t.place (omega (arith, le, size, ap length a)) k in
      ap (λ xs. or_else (fault (expression_of room s u.place)) (fault (expression_of room xs after))) b
      ∙ ap (λ o. or_else (fault (expression_of room s u.place)) o) right
      ∙ sym (or_else-assoc (fault (expression_of room s u.place)) (fault (expression_of room m t.place)) (fault (expression_of room r after)))
      ∙ ap (λ o. or_else o (fault (expression_of room r after))) (sym left)
      ∙ ap (λ xs. or_else (fault (expression_of room xs t.place)) (fault (expression_of room r after))) (sym a)
  fault-where s u q k (later m a b) =
      let inner = joint-front l m t u j (subst (λ xs. IsJoint xs u) a k) in
      let size = length-append m (u ∷ q) in
      let left = ih l t m u.place (omega (arith, le, size, ap length b)) j in
      let right = ih m u q after (omega (arith, le, size, ap length b)) inner in
      ap (λ xs. or_else (fault (expression_of room xs u.place)) (fault (expression_of room q after))) a
      ∙ ap (λ o. or_else o (fault (expression_of room q after))) left
      ∙ or_else-assoc (fault (expression_of room l t.place)) (fault (expression_of room m u.place)) (fault (expression_of room q after))
      ∙ ap (λ o. or_else (fault (expression_of room l t.place)) o) (sym right)
      ∙ ap (λ xs. or_else (fault (expression_of room l t.place)) (fault (expression_of room xs after))) (sym b)

  fault-step : fault (expression_of room (l ++ t ∷ r) after) ≡ or_else (fault (expression_of room l t.place)) (fault (expression_of room r after))
  fault-step =
      let found = loosest-found j.leveled.0 (l ++ t ∷ r) (operator-level t.kind j.leveled j.operates) (last-found l t r j) in
      found-is (loosest (l ++ t ∷ r)) found _ (λ i e.
      let s = split-loosest i (l ++ t ∷ r) e in
      fault-cut room (l ++ t ∷ r) after i (sym e) s
      ∙ fault-where s.ls s.t s.rs (record { flat = s.flat; ended = s.ended; leveled = s.leveled; operates = s.operates }) (where-of l t r s.ls s.t s.rs s.is))

fault-within : (n room : ℕ) → Within n room
fault-within zero room l t r after le j = absurd (omega (arith, le))
fault-within (suc n) room l t r after le j = fault-step n room (fault-within n room) l t r after le j

-- an expression has the first fault of what stands before an operator and behind it
pub joint-fault : (room : ℕ) (l : Tokens) (t : Token) (r : Tokens) (after : Place) → IsJoint l t → fault (expression_of room (l ++ t ∷ r) after) ≡ or_else (fault (expression_of room l t.place)) (fault (expression_of room r after))
joint-fault room l t r after j = fault-within (suc (length l + length r)) room l t r after (omega arith) j
