-- What a cut of an expression sees of tokens that stand in a row.
use Rattle.std.proofs.Common.{◌≡◌, ℕ, zero, suc, ◌+◌, ◌-◌, ◌==◌, ◌<◌, List, [], ◌∷◌, ◌++◌, length, Option, Some, None, Result, Err, refl, sym, ap, ◌∙◌, subst, arith, Bool, true, false, cond}
use Rattle.std.specs.Prelude.{◌&&◌, ◌||◌, is_some}
use Rattle.std.proofs.lemmas.Bool.Decides.{nat_tests}
use Rattle.c_text.specs.declared.place.Place.{Place}
use Rattle.c_text.specs.declared.token.Token.{Token}
use Rattle.c_text.specs.declared.token.TokenKind.{TokenKind}
use Rattle.c_text.specs.declared.token.TokenKind.TheVariants.{Word, Mark, TypeName, Memset}
use Rattle.c_text.specs.Refusal.{Refusal}
use Rattle.c_tree.specs.declared.symbol.Bracket.{Bracket}
use Rattle.c_tree.specs.declared.symbol.Keyword.{Keyword}
use Rattle.c_tree.specs.declared.symbol.Punctuator.{Punctuator}
use Rattle.c_tree.specs.declared.symbol.Punctuator.TheVariants as mark
use Rattle.c_tree.specs.declared.expression.Callee.{Callee}
use Rattle.c_tree.specs.declared.expression.UnaryOp.{UnaryOp}
use Rattle.cg_out.specs.Words.{or_else}
use Rattle.c_tree.specs.Symbol.{keyword_in, keyword_of, mark_in, mark_of, name_of, function_named, callee_of, unless_keyword, is_comma, is_comma_mark}
use Rattle.c_tree.specs.Brackets.{mark_opens, mark_closes, depth_by, depth_after, closing_from, too_deep}
use Rattle.c_tree.specs.Operators.{Leveled, binary_mark, operator, prefix_mark, prefix}
use Rattle.c_tree.specs.TypeName.{spelled_of, kinds_of, of_token, by_keywords, one_by, two_by, three_by, is_type_word, is_type_keyword}
use Rattle.c_tree.specs.ExpressionCut.{Before, start, operand, type_behind, mark_behind, word_behind, behind, is_operand, has_level, is_cut, last_from, loosest, Cutter, operand_named, primary, inside}
use Rattle.c_tree.specs.TokenRun.{depth_over, before_over, has_comma, is_keyword, begins_type}
use Rattle.cg_out.proofs.WordLaws.{or_else-none, or_else-assoc}

-- ---- lists that stand in a row

pub last_from-append : (level at depth : ℕ) (before : Before) (xs ys : List Token)
    → last_from level at depth before (xs ++ ys) ≡ or_else (last_from level (at + length xs) (depth_over depth xs) (before_over before xs) ys) (last_from level at depth before xs)
last_from-append level at depth before [] ys =
    let e : at ≡ at + 0 = omega arith in
    ap (λ n. last_from level n depth before ys) e ∙ sym (or_else-none _)
last_from-append level at depth before (x ∷ xs) ys =
    let e : at + 1 + length xs ≡ at + length (x ∷ xs) = omega arith in
    let d = depth_after x.kind depth in
    let b = behind x.kind before in
    let here = cond (is_cut level depth before x) (Some at) None in
    ap (λ o. or_else o here) (last_from-append level (at + 1) d b xs ys)
    ∙ or_else-assoc (last_from level (at + 1 + length xs) (depth_over d xs) (before_over b xs) ys) (last_from level (at + 1) d b xs) here
    ∙ ap (λ n. or_else (last_from level n (depth_over d xs) (before_over b xs) ys) (or_else (last_from level (at + 1) d b xs) here)) e

pub depth_over-append : (depth : ℕ) (xs ys : List Token) → depth_over depth (xs ++ ys) ≡ depth_over (depth_over depth xs) ys
depth_over-append depth [] ys = refl
depth_over-append depth (x ∷ xs) ys = depth_over-append (depth_after x.kind depth) xs ys

pub before_over-append : (before : Before) (xs ys : List Token) → before_over before (xs ++ ys) ≡ before_over (before_over before xs) ys
before_over-append before [] ys = refl
before_over-append before (x ∷ xs) ys = before_over-append (behind x.kind before) xs ys

pub begins_type-append : (xs ys : List Token) → begins_type xs ≡ false → begins_type ys ≡ false → begins_type (xs ++ ys) ≡ false
begins_type-append [] ys e h = h
begins_type-append (x ∷ xs) ys e h = e

-- ---- single tokens

-- no bracket and no comma, and an operand is to follow it
pub record IsFlat (k : TokenKind) : Type 0 where
  pub depth : (d : ℕ) → depth_after k d ≡ d
  pub after : (before : Before) → behind k before ≡ start
  pub comma : is_comma k ≡ false
  pub untyped : is_keyword k ≡ false

record IsFlatMark (m : Option Punctuator) : Type 0 where
  depth : (d : ℕ) → depth_by (mark_opens m) (mark_closes m) d ≡ d
  after : (before : Before) → mark_behind m before ≡ start
  comma : is_comma_mark m ≡ false

binary-flat : (m : Option Punctuator) (o : Leveled) → binary_mark m ≡ Some o → IsFlatMark m
binary-flat (Some mark.BarBar) o e = record { depth = λ d. refl; after = λ b. refl; comma = refl }
binary-flat (Some mark.AndAnd) o e = record { depth = λ d. refl; after = λ b. refl; comma = refl }
binary-flat (Some mark.Bar) o e = record { depth = λ d. refl; after = λ b. refl; comma = refl }
binary-flat (Some mark.Caret) o e = record { depth = λ d. refl; after = λ b. refl; comma = refl }
binary-flat (Some mark.And) o e = record { depth = λ d. refl; after = λ b. refl; comma = refl }
binary-flat (Some mark.EqualEqual) o e = record { depth = λ d. refl; after = λ b. refl; comma = refl }
binary-flat (Some mark.NotEqual) o e = record { depth = λ d. refl; after = λ b. refl; comma = refl }
binary-flat (Some mark.Less) o e = record { depth = λ d. refl; after = λ b. refl; comma = refl }
binary-flat (Some mark.Greater) o e = record { depth = λ d. refl; after = λ b. refl; comma = refl }
binary-flat (Some mark.LessEqual) o e = record { depth = λ d. refl; after = λ b. refl; comma = refl }
binary-flat (Some mark.GreaterEqual) o e = record { depth = λ d. refl; after = λ b. refl; comma = refl }
binary-flat (Some mark.ShiftLeft) o e = record { depth = λ d. refl; after = λ b. refl; comma = refl }
binary-flat (Some mark.ShiftRight) o e = record { depth = λ d. refl; after = λ b. refl; comma = refl }
binary-flat (Some mark.Plus) o e = record { depth = λ d. refl; after = λ b. refl; comma = refl }
binary-flat (Some mark.Minus) o e = record { depth = λ d. refl; after = λ b. refl; comma = refl }
binary-flat _ o e = cc

prefix-flat : (m : Option Punctuator) (o : UnaryOp) → prefix_mark m ≡ Some o → IsFlatMark m
prefix-flat (Some mark.Plus) o e = record { depth = λ d. refl; after = λ b. refl; comma = refl }
prefix-flat (Some mark.Minus) o e = record { depth = λ d. refl; after = λ b. refl; comma = refl }
prefix-flat (Some mark.Complement) o e = record { depth = λ d. refl; after = λ b. refl; comma = refl }
prefix-flat (Some mark.Not) o e = record { depth = λ d. refl; after = λ b. refl; comma = refl }
prefix-flat _ o e = cc

of_mark : (w : List ℕ) → IsFlatMark (mark_in w) → IsFlat (Mark w)
of_mark w m = record { depth = m.depth; after = m.after; comma = m.comma; untyped = refl }

pub operator-flat : (k : TokenKind) (o : Leveled) → operator k ≡ Some o → IsFlat k
operator-flat (Mark w) o e = of_mark w (binary-flat (mark_in w) o e)
operator-flat _ o e = cc

pub prefix-is-flat : (k : TokenKind) (o : UnaryOp) → prefix k ≡ Some o → IsFlat k
prefix-is-flat (Mark w) o e = of_mark w (prefix-flat (mark_in w) o e)
prefix-is-flat _ o e = cc

level_is : (v o : Leveled) → Some v ≡ Some o → v.0 ≡ o.0
level_is v o e = cc

mark-level : (m : Option Punctuator) (o : Leveled) → binary_mark m ≡ Some o → o.0 < 9
mark-level (Some mark.BarBar) o e = omega (arith, level_is _ o e)
mark-level (Some mark.AndAnd) o e = omega (arith, level_is _ o e)
mark-level (Some mark.Bar) o e = omega (arith, level_is _ o e)
mark-level (Some mark.Caret) o e = omega (arith, level_is _ o e)
mark-level (Some mark.And) o e = omega (arith, level_is _ o e)
mark-level (Some mark.EqualEqual) o e = omega (arith, level_is _ o e)
mark-level (Some mark.NotEqual) o e = omega (arith, level_is _ o e)
mark-level (Some mark.Less) o e = omega (arith, level_is _ o e)
mark-level (Some mark.Greater) o e = omega (arith, level_is _ o e)
mark-level (Some mark.LessEqual) o e = omega (arith, level_is _ o e)
mark-level (Some mark.GreaterEqual) o e = omega (arith, level_is _ o e)
mark-level (Some mark.ShiftLeft) o e = omega (arith, level_is _ o e)
mark-level (Some mark.ShiftRight) o e = omega (arith, level_is _ o e)
mark-level (Some mark.Plus) o e = omega (arith, level_is _ o e)
mark-level (Some mark.Minus) o e = omega (arith, level_is _ o e)
mark-level _ o e = cc

pub operator-level : (k : TokenKind) (o : Leveled) → operator k ≡ Some o → o.0 < 9
operator-level k o e = mark-level (mark_of k) o e

-- what stands behind a punctuator
pub mark-behind : (k : TokenKind) (m : Punctuator) (before : Before) → mark_of k ≡ Some m → behind k before ≡ mark_behind (Some m) before
mark-behind (Mark w) m before e = ap (λ o. mark_behind o before) e
mark-behind _ m before e = cc

pub mark-untyped : (k : TokenKind) (m : Punctuator) → mark_of k ≡ Some m → is_keyword k ≡ false
mark-untyped (Mark w) m e = refl
mark-untyped _ m e = cc

-- an operand of one token
pub record IsOne (k : TokenKind) : Type 0 where
  pub depth : (d : ℕ) → depth_after k d ≡ d
  pub after : (before : Before) → behind k before ≡ operand
  pub comma : is_comma k ≡ false
  pub untyped : is_keyword k ≡ false
  pub operator_none : operator k ≡ None
  pub prefix_none : prefix k ≡ None

-- one that a call, an element or a member may begin with
pub record IsNamed (k : TokenKind) : Type 0 where
  pub one : IsOne k
  pub cut_as : (cut : Cutter) (room : ℕ) (t : Token) (ts : List Token) (after : _) → primary cut room k t ts after ≡ operand_named cut room t ts

word-one-by : (o : Option Keyword) (w n : List ℕ) → unless_keyword o w ≡ Some n → is_some o ≡ false
word-one-by None w n e = refl
word-one-by (Some kw) w n e = cc

pub name-named : (k : TokenKind) (n : List ℕ) → name_of k ≡ Some n → IsNamed k
name-named (Word w) n e = record {
  one = record {
    depth = λ d. refl;
    after = λ before. ap (λ o. word_behind o (Word w) before) e;
    comma = refl;
    untyped = word-one-by (keyword_in w) w n e;
    operator_none = refl;
    prefix_none = refl;
  };
  cut_as = λ cut room t ts after. refl;
}
name-named _ n e = cc

memset-named : IsNamed Memset
memset-named = record {
  one = record { depth = λ d. refl; after = λ before. refl; comma = refl; untyped = refl; operator_none = refl; prefix_none = refl };
  cut_as = λ cut room t ts after. refl;
}

named-by : (k : TokenKind) (o : Option (List ℕ)) (f : Callee) → name_of k ≡ o → function_named o ≡ Some f → IsNamed k
named-by k None f is e = cc
named-by k (Some n) f is e = name-named k n is

pub callee-named : (k : TokenKind) (f : Callee) → callee_of k ≡ Some f → IsNamed k
callee-named Memset f e = memset-named
callee-named (Word w) f e = named-by (Word w) (name_of (Word w)) f refl e
callee-named _ f e = cc

-- ---- a type at the front

no-keyword : (k : TokenKind) → is_keyword k ≡ false → keyword_of k ≡ None
no-keyword (TypeName s) e = cc
no-keyword (Word w) e = none-of (keyword_in w) e
  where
    none-of : (o : Option Keyword) → is_some o ≡ false → o ≡ None
    none-of None e = refl
    none-of (Some kw) e = cc
no-keyword _ e = refl

one-none : (k : TokenKind) → is_keyword k ≡ false → of_token k ≡ None
one-none (TypeName s) e = cc
one-none (Word w) e = ap (λ o. by_keywords (one_by o)) (no-keyword (Word w) e)
one-none _ e = refl

two-none : (o q : Option Keyword) → o ≡ None → by_keywords (two_by o q) ≡ None
two-none None q e = refl
two-none (Some kw) q e = cc

three-none : (o q r : Option Keyword) → o ≡ None → by_keywords (three_by o q r) ≡ None
three-none None q r e = refl
three-none (Some kw) q r e = cc

pub spelled-none : (ts : List Token) → begins_type ts ≡ false → spelled_of (kinds_of ts) ≡ None
unfolding spelled_of
spelled-none [] e = refl
spelled-none (a ∷ []) e = one-none a.kind e
spelled-none (a ∷ b ∷ []) e = two-none (keyword_of a.kind) (keyword_of b.kind) (no-keyword a.kind e)
spelled-none (a ∷ b ∷ c ∷ []) e = three-none (keyword_of a.kind) (keyword_of b.kind) (keyword_of c.kind) (no-keyword a.kind e)
spelled-none (a ∷ b ∷ c ∷ d ∷ ts) e = refl

-- a word of a type opens and closes nothing
pub record IsWord (k : TokenKind) : Type 0 where
  pub depth : (d : ℕ) → depth_after k d ≡ d
  pub after : (before : Before) → behind k before ≡ type_behind k before
  pub comma : is_comma k ≡ false
  pub operator_none : operator k ≡ None

keyword-behind : (o : Option Keyword) (w : List ℕ) (before : Before) → is_type_keyword o ≡ true → unless_keyword o w ≡ None
keyword-behind None w before e = cc
keyword-behind (Some kw) w before e = refl

pub type-word : (k : TokenKind) → is_type_word k ≡ true → IsWord k
type-word (TypeName s) e = record { depth = λ d. refl; after = λ before. refl; comma = refl; operator_none = refl }
type-word (Word w) e = record {
  depth = λ d. refl;
  after = λ before. ap (λ o. word_behind o (Word w) before) (keyword-behind (keyword_in w) w before e) ∙ ap (λ b. cond b (type_behind (Word w) before) start) e;
  comma = refl;
  operator_none = refl;
}
type-word _ e = cc

-- ---- brackets

cond-none : {A : Type 0} (b : Bool) (i : A) (y : Option A) → cond b (Some i) y ≡ None → (b ≡ false) × (y ≡ None)
cond-none true i y e = cc
cond-none false i y e = (refl, e)

-- a list that closes no bracket, after its first token
pub closing-rest : (at d : ℕ) (x : Token) (xs : List Token) → closing_from at d (x ∷ xs) ≡ None
    → (depth_after x.kind d == 0 ≡ false) × (closing_from (at + 1) (depth_after x.kind d) xs ≡ None)
closing-rest at d x xs e = cond-none (depth_after x.kind d == 0) at (closing_from (at + 1) (depth_after x.kind d) xs) e

-- where a bracket is closed in two lists, that is not closed in the first
pub closing-append : (at d : ℕ) (xs ys : List Token) → closing_from at d xs ≡ None → closing_from at d (xs ++ ys) ≡ closing_from (at + length xs) (depth_over d xs) ys
closing-append at d [] ys e = let z : at ≡ at + 0 = omega arith in ap (λ n. closing_from n d ys) z
closing-append at d (x ∷ xs) ys e =
    let z : at + 1 + length xs ≡ at + length (x ∷ xs) = omega arith in
    let c = closing-rest at d x xs e in
    ap (λ b. cond b (Some at) (closing_from (at + 1) (depth_after x.kind d) (xs ++ ys))) c.0
    ∙ closing-append (at + 1) (depth_after x.kind d) xs ys c.1
    ∙ ap (λ n. closing_from n (depth_over (depth_after x.kind d) xs) ys) z

close-suc : (d : ℕ) → suc d - 1 == 0 ≡ false → suc d - 1 ≡ suc (d - 1)
close-suc d e = grind (arith, nat_tests)

by-suc : (o c : Option Bracket) (d : ℕ) → depth_by o c (suc d) == 0 ≡ false → depth_by o c (suc d) ≡ suc (depth_by o c d)
by-suc (Some b) c d e = omega arith
by-suc None (Some b) d e = close-suc d e
by-suc None None d e = refl

by-suc2 : (o c : Option Bracket) (d : ℕ) → depth_by o c (suc d) ≡ suc (depth_by o c d) → depth_by o c (suc (suc d)) ≡ suc (suc (depth_by o c d))
by-suc2 (Some b) c d e = omega arith
by-suc2 None (Some b) d e = omega arith
by-suc2 None None d e = refl

depth-suc : (k : TokenKind) (d : ℕ) → depth_after k (suc d) == 0 ≡ false → depth_after k (suc d) ≡ suc (depth_after k d)
depth-suc k d e = by-suc (mark_opens (mark_of k)) (mark_closes (mark_of k)) d e

depth-suc2 : (k : TokenKind) (d : ℕ) → depth_after k (suc d) ≡ suc (depth_after k d) → depth_after k (suc (suc d)) ≡ suc (suc (depth_after k d))
depth-suc2 k d e = by-suc2 (mark_opens (mark_of k)) (mark_closes (mark_of k)) d e

-- one bracket more
pub over-suc : (at d : ℕ) (xs : List Token) → closing_from at (suc d) xs ≡ None → depth_over (suc d) xs ≡ suc (depth_over d xs)
over-suc at d [] e = refl
over-suc at d (x ∷ xs) e =
    let c = closing-rest at (suc d) x xs e in
    let s = depth-suc x.kind d c.0 in
    ap (λ n. depth_over n xs) s ∙ over-suc (at + 1) (depth_after x.kind d) xs (subst (λ n. closing_from (at + 1) n xs ≡ None) s c.1)

pub suc-not-zero : (d : ℕ) → suc d == 0 ≡ false
suc-not-zero d = grind (arith, nat_tests)

-- what closes no bracket closes none with one more open
-- what stands in brackets where one more may be open
pub inside-room : {A : Type 0} (room : ℕ) (place : Place) (part : ℕ → Result A Refusal) → inside (suc room) place part ≡ part room
inside-room room place part =
    ap (λ b. cond b (Err (too_deep place)) (part (suc room - 1))) (suc-not-zero room) ∙ ap part (omega arith)

pub closing-deeper : (at d : ℕ) (xs : List Token) → closing_from at (suc d) xs ≡ None → closing_from at (suc (suc d)) xs ≡ None
closing-deeper at d [] e = refl
closing-deeper at d (x ∷ xs) e =
    let c = closing-rest at (suc d) x xs e in
    let s = depth-suc x.kind d c.0 in
    let s2 = depth-suc2 x.kind d s in
    let inner = closing-deeper (at + 1) (depth_after x.kind d) xs (subst (λ n. closing_from (at + 1) n xs ≡ None) s c.1) in
    ap (λ n. cond (n == 0) (Some at) (closing_from (at + 1) n xs)) s2
    ∙ ap (λ b. cond b (Some at) (closing_from (at + 1) (suc (suc (depth_after x.kind d))) xs)) (suc-not-zero (suc (depth_after x.kind d))) ∙ inner

-- no token cuts inside brackets
pub last_from-inside : (level at d : ℕ) (before : Before) (xs : List Token) → closing_from at (suc d) xs ≡ None → last_from level at (suc d) before xs ≡ None
last_from-inside level at d before [] e = refl
last_from-inside level at d before (x ∷ xs) e =
    let c = closing-rest at (suc d) x xs e in
    let s = depth-suc x.kind d c.0 in
    let inner = last_from-inside level (at + 1) (depth_after x.kind d) (behind x.kind before) xs (subst (λ n. closing_from (at + 1) n xs ≡ None) s c.1) in
    let found = subst (λ n. last_from level (at + 1) n (behind x.kind before) xs ≡ None) (sym s) inner in
    rw (found, suc-not-zero d) refl

-- ---- commas

or-false : (x y : Bool) → (x || y) ≡ false → (x ≡ false) × (y ≡ false)
or-false true y e = cc
or-false false y e = (refl, e)

pub no-comma-first : (d : ℕ) (x : Token) (xs : List Token) → has_comma d (x ∷ xs) ≡ false → ((d == 0 && is_comma x.kind) ≡ false) × (has_comma (depth_after x.kind d) xs ≡ false)
no-comma-first d x xs e = or-false (d == 0 && is_comma x.kind) (has_comma (depth_after x.kind d) xs) e

pub has_comma-append : (d : ℕ) (xs ys : List Token) → has_comma d xs ≡ false → has_comma d (xs ++ ys) ≡ has_comma (depth_over d xs) ys
has_comma-append d [] ys e = refl
has_comma-append d (x ∷ xs) ys e =
    let o = no-comma-first d x xs e in
    ap (λ b. b || has_comma (depth_after x.kind d) (xs ++ ys)) o.0 ∙ has_comma-append (depth_after x.kind d) xs ys o.1

pub has_comma-inside : (at d : ℕ) (xs : List Token) → closing_from at (suc d) xs ≡ None → has_comma (suc d) xs ≡ false
has_comma-inside at d [] e = refl
has_comma-inside at d (x ∷ xs) e =
    let c = closing-rest at (suc d) x xs e in
    let s = depth-suc x.kind d c.0 in
    let inner = has_comma-inside (at + 1) (depth_after x.kind d) xs (subst (λ n. closing_from (at + 1) n xs ≡ None) s c.1) in
    let found = subst (λ n. has_comma n xs ≡ false) (sym s) inner in
    rw (suc-not-zero d, found) refl

-- ---- tokens that do not cut

and-none : (a b : Bool) → (a && (b && false)) ≡ false
and-none true true = refl
and-none true false = refl
and-none false b = refl

and-first : (a b c : Bool) → b ≡ false → (a && (b && c)) ≡ false
and-first true b c e = rw e refl
and-first false b c e = refl

uncut : (level at d : ℕ) (before : Before) (t : Token) (ts : List Token) → is_cut level d before t ≡ false
    → last_from level at d before (t ∷ ts) ≡ last_from level (at + 1) (depth_after t.kind d) (behind t.kind before) ts
uncut level at d before t ts e =
    let rest = last_from level (at + 1) (depth_after t.kind d) (behind t.kind before) ts in
    ap (λ b. or_else rest (cond b (Some at) None)) e ∙ or_else-none rest

pub skip-plain : (level at d : ℕ) (before : Before) (t : Token) (ts : List Token) → operator t.kind ≡ None
    → last_from level at d before (t ∷ ts) ≡ last_from level (at + 1) (depth_after t.kind d) (behind t.kind before) ts
skip-plain level at d before t ts e =
    uncut level at d before t ts (ap (λ o. d == 0 && (is_operand before && has_level level o)) e ∙ and-none (d == 0) (is_operand before))

pub skip-first : (level at d : ℕ) (before : Before) (t : Token) (ts : List Token) → is_operand before ≡ false
    → last_from level at d before (t ∷ ts) ≡ last_from level (at + 1) (depth_after t.kind d) (behind t.kind before) ts
skip-first level at d before t ts e = uncut level at d before t ts (and-first (d == 0) (is_operand before) (has_level level (operator t.kind)) e)

-- ---- the loosest level

-- it is the first that has an operator
pub loosest-is : (ts : List Token) (i level : ℕ) → ((l : ℕ) → l < level → last_from l 0 0 start ts ≡ None) → last_from level 0 0 start ts ≡ Some i → level < 9 → loosest ts ≡ Some i
unfolding loosest
loosest-is ts i zero above e h = rw e refl
loosest-is ts i (suc zero) above e h = rw (above 0 (omega arith), e) refl
loosest-is ts i (suc (suc zero)) above e h = rw (above 0 (omega arith), above 1 (omega arith), e) refl
loosest-is ts i (suc (suc (suc zero))) above e h = rw (above 0 (omega arith), above 1 (omega arith), above 2 (omega arith), e) refl
loosest-is ts i (suc (suc (suc (suc zero)))) above e h = rw (above 0 (omega arith), above 1 (omega arith), above 2 (omega arith), above 3 (omega arith), e) refl
loosest-is ts i (suc (suc (suc (suc (suc zero))))) above e h = rw (above 0 (omega arith), above 1 (omega arith), above 2 (omega arith), above 3 (omega arith), above 4 (omega arith), e) refl
loosest-is ts i (suc (suc (suc (suc (suc (suc zero)))))) above e h = rw (above 0 (omega arith), above 1 (omega arith), above 2 (omega arith), above 3 (omega arith), above 4 (omega arith), above 5 (omega arith), e) refl
loosest-is ts i (suc (suc (suc (suc (suc (suc (suc zero))))))) above e h = rw (above 0 (omega arith), above 1 (omega arith), above 2 (omega arith), above 3 (omega arith), above 4 (omega arith), above 5 (omega arith), above 6 (omega arith), e) refl
loosest-is ts i (suc (suc (suc (suc (suc (suc (suc (suc zero)))))))) above e h = rw (above 0 (omega arith), above 1 (omega arith), above 2 (omega arith), above 3 (omega arith), above 4 (omega arith), above 5 (omega arith), above 6 (omega arith), above 7 (omega arith), e) refl
loosest-is ts i (suc (suc (suc (suc (suc (suc (suc (suc (suc n))))))))) above e h = absurd (omega arith)

-- where no operator stands outside brackets
pub loosest-none : (ts : List Token) → ((l : ℕ) → l < 9 → last_from l 0 0 start ts ≡ None) → loosest ts ≡ None
unfolding loosest
loosest-none ts h = rw (h 0 (omega arith), h 1 (omega arith), h 2 (omega arith), h 3 (omega arith), h 4 (omega arith), h 5 (omega arith), h 6 (omega arith), h 7 (omega arith), h 8 (omega arith)) refl
