-- Tokens that are no brackets: words, names, types and single punctuators.
use Rattle.std.proofs.Common.{◌≡◌, ℕ, zero, suc, List, [], ◌∷◌, length, take, drop, Option, Some, None, refl, ◌∙◌, true}
use Rattle.std.specs.Prelude.{is_some}
use Rattle.std.proofs.lemmas.Bool.{false≢true}
use Rattle.c_text.specs.declared.token.Spelled.{Spelled}
use Rattle.c_text.specs.declared.token.Token.{Token}
use Rattle.c_text.specs.declared.token.TokenKind.{TokenKind}
use Rattle.c_text.specs.declared.token.TokenKind.TheVariants.{Word, Constant as Number, Quoted, Mark, TypeName, Null, Memset}
use Rattle.c_tree.specs.declared.symbol.Keyword.{Keyword}
use Rattle.c_tree.specs.declared.symbol.Punctuator.{Punctuator}
use Rattle.c_tree.specs.declared.symbol.Punctuator.TheVariants as mark
use Rattle.c_tree.specs.declared.expression.Callee.{Callee}
use Rattle.cg_out.specs.Words.{or_else}
use Rattle.c_tree.specs.Symbol.{keyword_of, name_of, callee_of, mark_of, is_arrow, is_arrow_mark, is_colon, is_colon_mark, is_comma, is_comma_mark, is_equal, is_equal_mark, is_semicolon, is_semicolon_mark, is_star, is_star_mark}
use Rattle.c_tree.specs.Brackets.{mark_opens, mark_closes, depth_by, depth_after}
use Rattle.c_tree.specs.Operators.{assign_mark, assignment}
use Rattle.c_tree.specs.TypeName.{CountedType, spelled_of, kinds_of, of_token, by_keywords, two_by, three_by, counted_type, type_of_first, front_type}
use Rattle.c_tree.proofs.ExpressionTokens.{name-named, callee-named}
use Rattle.c_depth.specs.Shallow.{is_shallow}
use Rattle.c_depth.proofs.Depth.{shallow-outside}

-- no bracket is open behind the token where none was before
abbrev pub IsFlat : TokenKind → Type 0
IsFlat k = depth_after k 0 ≡ 0

abbrev IsFlatMark : Option Punctuator → Type 0
IsFlatMark m = depth_by (mark_opens m) (mark_closes m) 0 ≡ 0

-- ---- words

pub name-flat : (k : TokenKind) → is_some (name_of k) ≡ true → IsFlat k
name-flat k h = by-name (name_of k) refl h
  where
    by-name : (o : Option (List ℕ)) → name_of k ≡ o → is_some o ≡ true → IsFlat k
    by-name None e h = absurd (false≢true h)
    by-name (Some n) e h = (name-named k n e).one.depth 0

pub callee-flat : (k : TokenKind) → is_some (callee_of k) ≡ true → IsFlat k
callee-flat k h = by-callee (callee_of k) refl h
  where
    by-callee : (o : Option Callee) → callee_of k ≡ o → is_some o ≡ true → IsFlat k
    by-callee None e h = absurd (false≢true h)
    by-callee (Some f) e h = (callee-named k f e).one.depth 0

pub keyword-level : (k : TokenKind) (d : ℕ) → is_some (keyword_of k) ≡ true → depth_after k d ≡ d
keyword-level (Mark m) d h = absurd (false≢true h)
keyword-level (Word w) d h = refl
keyword-level (TypeName s) d h = refl
keyword-level (Number c) d h = refl
keyword-level (Quoted q) d h = refl
keyword-level Null d h = refl
keyword-level Memset d h = refl

pub keyword-flat : (k : TokenKind) → is_some (keyword_of k) ≡ true → IsFlat k
keyword-flat k h = keyword-level k 0 h

-- ---- punctuators

arrow-mark : (m : Option Punctuator) → is_arrow_mark m ≡ true → IsFlatMark m
arrow-mark (Some mark.Arrow) h = refl
arrow-mark _ h = absurd (false≢true h)

colon-mark : (m : Option Punctuator) → is_colon_mark m ≡ true → IsFlatMark m
colon-mark (Some mark.Colon) h = refl
colon-mark _ h = absurd (false≢true h)

comma-mark : (m : Option Punctuator) → is_comma_mark m ≡ true → IsFlatMark m
comma-mark (Some mark.Comma) h = refl
comma-mark _ h = absurd (false≢true h)

equal-mark : (m : Option Punctuator) → is_equal_mark m ≡ true → IsFlatMark m
equal-mark (Some mark.Equal) h = refl
equal-mark _ h = absurd (false≢true h)

semicolon-mark : (m : Option Punctuator) → is_semicolon_mark m ≡ true → IsFlatMark m
semicolon-mark (Some mark.Semicolon) h = refl
semicolon-mark _ h = absurd (false≢true h)

star-mark : (m : Option Punctuator) → is_star_mark m ≡ true → IsFlatMark m
star-mark (Some mark.Star) h = refl
star-mark _ h = absurd (false≢true h)

assignment-mark : (m : Option Punctuator) → is_some (assign_mark m) ≡ true → IsFlatMark m
assignment-mark (Some mark.Equal) h = refl
assignment-mark (Some mark.BarEqual) h = refl
assignment-mark (Some mark.AndEqual) h = refl
assignment-mark (Some mark.CaretEqual) h = refl
assignment-mark (Some mark.PlusEqual) h = refl
assignment-mark (Some mark.MinusEqual) h = refl
assignment-mark (Some mark.ShiftLeftEqual) h = refl
assignment-mark (Some mark.ShiftRightEqual) h = refl
assignment-mark _ h = absurd (false≢true h)

pub arrow-flat : (k : TokenKind) → is_arrow k ≡ true → IsFlat k
arrow-flat k h = arrow-mark (mark_of k) h

pub colon-flat : (k : TokenKind) → is_colon k ≡ true → IsFlat k
colon-flat k h = colon-mark (mark_of k) h

pub comma-flat : (k : TokenKind) → is_comma k ≡ true → IsFlat k
comma-flat k h = comma-mark (mark_of k) h

pub equal-flat : (k : TokenKind) → is_equal k ≡ true → IsFlat k
equal-flat k h = equal-mark (mark_of k) h

pub semicolon-flat : (k : TokenKind) → is_semicolon k ≡ true → IsFlat k
semicolon-flat k h = semicolon-mark (mark_of k) h

pub star-flat : (k : TokenKind) → is_star k ≡ true → IsFlat k
star-flat k h = star-mark (mark_of k) h

pub assignment-flat : (k : TokenKind) → is_some (assignment k) ≡ true → IsFlat k
assignment-flat k h = assignment-mark (mark_of k) h

-- ---- types

abbrev AreFlat : List Token → Type 0
AreFlat [] = Unit {0}
AreFlat (t ∷ ts) = IsFlat t.kind × AreFlat ts

one-flat : (k : TokenKind) → is_some (of_token k) ≡ true → IsFlat k
one-flat (TypeName s) h = refl
one-flat (Word w) h = refl
one-flat (Number c) h = refl
one-flat (Quoted q) h = refl
one-flat Null h = refl
one-flat Memset h = refl
one-flat (Mark m) h = absurd (false≢true h)

two-words : (o q : Option Keyword) → is_some (by_keywords (two_by o q)) ≡ true → (is_some o ≡ true) × (is_some q ≡ true)
two-words (Some a) (Some b) h = (refl, refl)
two-words (Some a) None h = absurd (false≢true h)
two-words None q h = absurd (false≢true h)

three-words : (o q r : Option Keyword) → is_some (by_keywords (three_by o q r)) ≡ true → (is_some o ≡ true) × (is_some q ≡ true) × (is_some r ≡ true)
three-words (Some a) (Some b) (Some c) h = (refl, refl, refl)
three-words (Some a) (Some b) None h = absurd (false≢true h)
three-words (Some a) None r h = absurd (false≢true h)
three-words None q r h = absurd (false≢true h)

spelled-flat : (ts : List Token) → is_some (spelled_of (kinds_of ts)) ≡ true → AreFlat ts
unfolding spelled_of
spelled-flat [] h = tt
spelled-flat (a ∷ []) h = (one-flat a.kind h, tt)
spelled-flat (a ∷ b ∷ []) h = let w = two-words (keyword_of a.kind) (keyword_of b.kind) h in (keyword-flat a.kind w.0, (keyword-flat b.kind w.1, tt))
spelled-flat (a ∷ b ∷ c ∷ []) h =
    let w = three-words (keyword_of a.kind) (keyword_of b.kind) (keyword_of c.kind) h in (keyword-flat a.kind w.0, (keyword-flat b.kind w.1, (keyword-flat c.kind w.2, tt)))
spelled-flat (a ∷ b ∷ c ∷ d ∷ ts) h = absurd (false≢true h)

flat-shallow : (room : ℕ) (ts : List Token) → AreFlat ts → is_shallow room 0 ts ≡ true
flat-shallow room [] h = refl
flat-shallow room (t ∷ ts) h = shallow-outside room 0 t ts h.0 ∙ flat-shallow room ts h.1

pub spelled-shallow : (room : ℕ) (ts : List Token) → is_some (spelled_of (kinds_of ts)) ≡ true → is_shallow room 0 ts ≡ true
spelled-shallow room ts h = flat-shallow room ts (spelled-flat ts h)

flat-before : (room n : ℕ) (ts : List Token) → AreFlat (take n ts) → is_shallow room 0 ts ≡ is_shallow room 0 (drop (length (take n ts)) ts)
flat-before room zero ts h = refl
flat-before room (suc n) [] h = refl
flat-before room (suc n) (t ∷ ts) h = shallow-outside room 0 t ts h.0 ∙ flat-before room n ts h.1

-- behind a type at the front
abbrev pub IsBehind : List Token → Option CountedType → Type 0
IsBehind ts None = Unit {0}
IsBehind ts (Some s) = (room : ℕ) → is_shallow room 0 ts ≡ is_shallow room 0 (drop s.1 ts)

counted-behind : (n : ℕ) (ts : List Token) (o : Option Spelled) → (is_some o ≡ true → AreFlat (take n ts)) → IsBehind ts (counted_type o (length (take n ts)))
counted-behind n ts None h = tt
counted-behind n ts (Some s) h = λ room. flat-before room n ts (h refl)

first-behind : (n : ℕ) (ts : List Token) → IsBehind ts (type_of_first n ts)
first-behind n ts = counted-behind n ts (spelled_of (kinds_of (take n ts))) (spelled-flat (take n ts))

or-behind : (ts : List Token) (x y : Option CountedType) → IsBehind ts x → IsBehind ts y → IsBehind ts (or_else x y)
or-behind ts (Some s) y h i = h
or-behind ts None y h i = i

pub type-behind : (ts : List Token) → IsBehind ts (front_type ts)
unfolding front_type
type-behind ts = or-behind ts (type_of_first 3 ts) (or_else (type_of_first 2 ts) (type_of_first 1 ts)) (first-behind 3 ts) (or-behind ts (type_of_first 2 ts) (type_of_first 1 ts) (first-behind 2 ts) (first-behind 1 ts))
