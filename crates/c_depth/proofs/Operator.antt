-- The operator at which an expression is cut stands outside brackets.
use Rattle.std.proofs.Common.{◌≡◌, ℕ, ◌+◌, ◌==◌, List, [], ◌∷◌, Option, Some, None, refl, subst, Bool, true, false, cond}
use Rattle.std.specs.Prelude.{◌&&◌, is_some}
use Rattle.std.proofs.lemmas.Bool.{and_parts, eqb-true, false≢true}
use Rattle.std.proofs.lemmas.Option.{none-some}
use Rattle.c_text.specs.declared.token.Token.{Token}
use Rattle.c_text.specs.declared.token.TokenKind.{TokenKind}
use Rattle.cg_out.specs.Words.{or_else}
use Rattle.c_tree.specs.Brackets.{depth_after}
use Rattle.c_tree.specs.Operators.{Leveled, levels, operator}
use Rattle.c_tree.specs.ExpressionCut.{Before, start, behind, is_operand, has_level, is_cut, last_from, loosest_of, loosest}
use Rattle.c_tree.proofs.ExpressionTokens.{operator-flat}
use Rattle.c_depth.proofs.Flat.{IsFlat}
use Rattle.c_depth.proofs.Split.{Outside, OutsideFrom, outside-here, outside-more, outside-at}
use Rattle.c_depth.proofs.Tests.{same_Some}

abbrev pub is_operator : TokenKind → Bool
is_operator k = is_some (operator k)

pub operator-is-flat : (k : TokenKind) → is_operator k ≡ true → IsFlat k
operator-is-flat k h = by-operator (operator k) refl h
  where
    by-operator : (o : Option Leveled) → operator k ≡ o → is_some o ≡ true → IsFlat k
    by-operator None e h = absurd (false≢true h)
    by-operator (Some v) e h = (operator-flat k v e).depth 0

has-some : (level : ℕ) (o : Option Leveled) → has_level level o ≡ true → is_some o ≡ true
has-some level (Some v) h = refl
has-some level None h = h

last-here : (level at depth i : ℕ) (before : Before) (t : Token) (ts : List Token) (b : Bool) → is_cut level depth before t ≡ b → cond b (Some at) None ≡ Some i → OutsideFrom is_operator at depth i (t ∷ ts)
last-here level at depth i before t ts true e h =
    let two = and_parts (depth == 0) (is_operand before && has_level level (operator t.kind)) e in
    let more = and_parts (is_operand before) (has_level level (operator t.kind)) two.1 in
    subst (λ n. OutsideFrom is_operator at depth n (t ∷ ts)) (same_Some at i h)
    (outside-here is_operator at depth t ts (eqb-true depth 0 two.0) (has-some level (operator t.kind) more.1))
last-here level at depth i before t ts false e h = absurd (none-some i h)

last-by : (level at depth i : ℕ) (before : Before) (t : Token) (ts : List Token) (more : Option ℕ) → or_else more (cond (is_cut level depth before t) (Some at) None) ≡ Some i
    → (more ≡ Some i → OutsideFrom is_operator (at + 1) (depth_after t.kind depth) i ts) → OutsideFrom is_operator at depth i (t ∷ ts)
last-by level at depth i before t ts (Some j) h behind_it = outside-more is_operator at depth i t ts (behind_it h)
last-by level at depth i before t ts None h behind_it = last-here level at depth i before t ts (is_cut level depth before t) refl h

last-outside : (level at depth i : ℕ) (before : Before) (ts : List Token) → last_from level at depth before ts ≡ Some i → OutsideFrom is_operator at depth i ts
last-outside level at depth i before [] h = absurd (none-some i h)
last-outside level at depth i before (t ∷ ts) h =
    last-by level at depth i before t ts (last_from level (at + 1) (depth_after t.kind depth) (behind t.kind before) ts) h
    (last-outside level (at + 1) (depth_after t.kind depth) i (behind t.kind before) ts)

either-outside : (i : ℕ) (ts : List Token) (x y : Option ℕ) → or_else x y ≡ Some i → (x ≡ Some i → Outside is_operator 0 i ts) → (y ≡ Some i → Outside is_operator 0 i ts) → Outside is_operator 0 i ts
either-outside i ts (Some j) y h left right = left h
either-outside i ts None y h left right = right h

among-outside : (list : List ℕ) (i : ℕ) (ts : List Token) → loosest_of list ts ≡ Some i → Outside is_operator 0 i ts
among-outside [] i ts h = absurd (none-some i h)
among-outside (level ∷ more) i ts h =
    either-outside i ts (last_from level 0 0 start ts) (loosest_of more ts) h
    (λ e. outside-at is_operator 0 i ts (last-outside level 0 0 i start ts e)) (among-outside more i ts)

pub loosest-outside : (i : ℕ) (ts : List Token) → loosest ts ≡ Some i → Outside is_operator 0 i ts
unfolding loosest
loosest-outside i ts h = among-outside levels i ts h
