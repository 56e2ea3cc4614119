-- What the tokens of a type of integers are, and that it stands in front of them.
use Rattle.std.proofs.Common.{◌≡◌, ℕ, zero, suc, Bool, true, false, List, [], ◌∷◌, ◌++◌, length, take, drop, Option, Some, None, refl, sym, ap, subst, ◌∙◌}
use Rattle.std.specs.Prelude.{codes, ◌&&◌}
use Rattle.std.specs.List.{AllByRecursion}
use Rattle.std.proofs.Math.Seq.{drop-append_seam}
use Rattle.c_text.specs.declared.token.Token.{Token}
use Rattle.c_text.specs.declared.token.TokenKind.{TokenKind}
use Rattle.c_text.specs.declared.token.TokenKind.TheVariants.{Word, TypeName}
use Rattle.c_text.specs.declared.token.Spelled.{Spelled}
use Rattle.c_text.specs.declared.token.Spelled.TheVariants.{Exact, Size, Plain}
use Rattle.c_tree.specs.declared.symbol.Keyword.{Keyword}
use Rattle.c_tree.specs.Symbol.{keyword_in, keyword_of}
use Rattle.c_tree.specs.Brackets.{opens}
use Rattle.c_tree.specs.StatementCut.{is_void, is_else}
use Rattle.c_tree.specs.TypeName.{CountedType, spelled_of, of_token, by_keywords, two_by, three_by, counted_type, kinds_of, type_of_first, front_type, is_type_word}
use Rattle.c_parts.specs.StatementPart.{plain_key, plain_open}
use Rattle.cg_out.specs.Words.{or_else}
use Rattle.c_tree.specs.TokenRun.{AreTypeWords, IsClosed, begins_type}
use Rattle.c_tree.proofs.ExpressionTokens.{spelled-none}
use Rattle.c_parts.proofs.ExpressionParts.{words-closed}
use Rattle.c_printed.specs.Spelling.{left_type}
use Rattle.c_recut.proofs.Tokens.{head-of, nil-of, split-of, every-is}
use Rattle.c_text.specs.declared.token.IntType.TheVariants as int
use Rattle.c_tree.specs.declared.symbol.Keyword.TheVariants as key

-- ---- its words

pub words-kinds : (ts : List Token) (ks : List TokenKind) → kinds_of ts ≡ ks → AllByRecursion (λ (k : TokenKind). is_type_word k ≡ true) ks → AreTypeWords ts
words-kinds ts [] e h = subst AreTypeWords (sym (nil-of ts e)) tt
words-kinds ts (k ∷ ks) e h =
    let a = head-of k ks ts e in
    subst AreTypeWords (sym a.is) (ap is_type_word a.first_kind ∙ h.0, words-kinds a.rest ks a.rest_kinds h.1)

pub type-words : (s : Spelled) → AllByRecursion (λ (k : TokenKind). is_type_word k ≡ true) (left_type s)
unfolding keyword_in
type-words (Exact w b) = (refl, tt)
type-words Size = (refl, tt)
type-words (Plain int.Bool) = (refl, tt)
type-words (Plain int.SignedChar) = (refl, (refl, tt))
type-words (Plain int.UnsignedChar) = (refl, (refl, tt))
type-words (Plain int.Short) = (refl, tt)
type-words (Plain int.UnsignedShort) = (refl, (refl, tt))
type-words (Plain int.Int) = (refl, tt)
type-words (Plain int.UnsignedInt) = (refl, (refl, tt))
type-words (Plain int.Long) = (refl, tt)
type-words (Plain int.UnsignedLong) = (refl, (refl, tt))
type-words (Plain int.LongLong) = (refl, (refl, tt))
type-words (Plain int.UnsignedLongLong) = (refl, (refl, (refl, tt)))

word-of : (P : TokenKind → Type 0) → ((w : List ℕ) → P (Word w)) → ((s : Spelled) → P (TypeName s)) → (k : TokenKind) → is_type_word k ≡ true → P k
word-of P words names (Word w) e = words w
word-of P words names (TypeName s) e = names s
word-of P words names _ e = cc

-- what holds of each word and of each name of a type
pub type-all : (P : TokenKind → Type 0) → ((w : List ℕ) → P (Word w)) → ((s : Spelled) → P (TypeName s)) → (s : Spelled) → AllByRecursion P (left_type s)
type-all P words names s = every-is (λ (k : TokenKind). is_type_word k ≡ true) P (word-of P words names) (left_type s) (type-words s)

pub type-spelled : (s : Spelled) → spelled_of (left_type s) ≡ Some s
unfolding keyword_in spelled_of
type-spelled (Exact w b) = refl
type-spelled Size = refl
type-spelled (Plain int.Bool) = refl
type-spelled (Plain int.SignedChar) = refl
type-spelled (Plain int.UnsignedChar) = refl
type-spelled (Plain int.Short) = refl
type-spelled (Plain int.UnsignedShort) = refl
type-spelled (Plain int.Int) = refl
type-spelled (Plain int.UnsignedInt) = refl
type-spelled (Plain int.Long) = refl
type-spelled (Plain int.UnsignedLong) = refl
type-spelled (Plain int.LongLong) = refl
type-spelled (Plain int.UnsignedLongLong) = refl

-- ---- its first token

-- neither `return` nor `break`, and none of `const`, `struct` and `static`
abbrev pub free_key : Option Keyword → Bool
free_key (Some key.Return) = false
free_key (Some key.Break) = false
free_key (Some key.Const) = false
free_key (Some key.Struct) = false
free_key (Some key.Static) = false
free_key other = true

pub record TypeFirst (ks : List TokenKind) : Type 0 where
  pub kind : TokenKind
  pub rest : List TokenKind
  pub is : ks ≡ kind ∷ rest
  pub free : free_key (keyword_of kind) ≡ true
  pub simple_is : (plain_key (keyword_of kind) && plain_open (opens kind)) ≡ true
  pub no_else : is_else kind ≡ false
  pub no_void : is_void kind ≡ false

pub type-first : (s : Spelled) → TypeFirst (left_type s)
unfolding keyword_in
type-first (Exact w b) = record { kind = _; rest = _; is = refl; free = refl; simple_is = refl; no_else = refl; no_void = refl }
type-first Size = record { kind = _; rest = _; is = refl; free = refl; simple_is = refl; no_else = refl; no_void = refl }
type-first (Plain int.Bool) = record { kind = _; rest = _; is = refl; free = refl; simple_is = refl; no_else = refl; no_void = refl }
type-first (Plain int.SignedChar) = record { kind = _; rest = _; is = refl; free = refl; simple_is = refl; no_else = refl; no_void = refl }
type-first (Plain int.UnsignedChar) = record { kind = _; rest = _; is = refl; free = refl; simple_is = refl; no_else = refl; no_void = refl }
type-first (Plain int.Short) = record { kind = _; rest = _; is = refl; free = refl; simple_is = refl; no_else = refl; no_void = refl }
type-first (Plain int.UnsignedShort) = record { kind = _; rest = _; is = refl; free = refl; simple_is = refl; no_else = refl; no_void = refl }
type-first (Plain int.Int) = record { kind = _; rest = _; is = refl; free = refl; simple_is = refl; no_else = refl; no_void = refl }
type-first (Plain int.UnsignedInt) = record { kind = _; rest = _; is = refl; free = refl; simple_is = refl; no_else = refl; no_void = refl }
type-first (Plain int.Long) = record { kind = _; rest = _; is = refl; free = refl; simple_is = refl; no_else = refl; no_void = refl }
type-first (Plain int.UnsignedLong) = record { kind = _; rest = _; is = refl; free = refl; simple_is = refl; no_else = refl; no_void = refl }
type-first (Plain int.LongLong) = record { kind = _; rest = _; is = refl; free = refl; simple_is = refl; no_else = refl; no_void = refl }
type-first (Plain int.UnsignedLongLong) = record { kind = _; rest = _; is = refl; free = refl; simple_is = refl; no_else = refl; no_void = refl }

-- ---- the type in front

abbrev first_kinds : ℕ → List TokenKind → Option CountedType
first_kinds n ks = counted_type (spelled_of (take n ks)) (length (take n ks))

abbrev front_kinds : List TokenKind → Option CountedType
front_kinds ks = or_else (first_kinds 3 ks) (or_else (first_kinds 2 ks) (first_kinds 1 ks))

take-kinds : (n : ℕ) (ts : List Token) → kinds_of (take n ts) ≡ take n (kinds_of ts)
take-kinds zero ts = refl
take-kinds (suc n) [] = refl
take-kinds (suc n) (t ∷ ts) = ap (λ ks. t.kind ∷ ks) (take-kinds n ts)

take-count : (n : ℕ) (ts : List Token) → length (take n ts) ≡ length (take n (kinds_of ts))
take-count zero ts = refl
take-count (suc n) [] = refl
take-count (suc n) (t ∷ ts) = ap suc (take-count n ts)

first-is : (n : ℕ) (ts : List Token) → type_of_first n ts ≡ first_kinds n (kinds_of ts)
first-is n ts = λ i. counted_type (spelled_of (take-kinds n ts i)) (take-count n ts i)

front-is : (ts : List Token) → front_type ts ≡ front_kinds (kinds_of ts)
unfolding front_type
front-is ts = λ i. or_else (first-is 3 ts i) (or_else (first-is 2 ts i) (first-is 1 ts i))

two-none : (q : Option Keyword) → by_keywords (two_by q None) ≡ None
two-none None = refl
two-none (Some k) = refl

three-none-second : (q r : Option Keyword) → by_keywords (three_by q None r) ≡ None
three-none-second None r = refl
three-none-second (Some k) r = refl

three-none-third : (q r : Option Keyword) → by_keywords (three_by q r None) ≡ None
three-none-third None r = refl
three-none-third (Some k) None = refl
three-none-third (Some k) (Some l) = refl

front-one : (a k : TokenKind) (rest : List TokenKind) (s : Spelled) → of_token a ≡ Some s → keyword_of k ≡ None → front_kinds (a ∷ k ∷ rest) ≡ Some (s, 1)
unfolding spelled_of
front-one a k [] s e f =
    let two : by_keywords (two_by (keyword_of a) (keyword_of k)) ≡ None = ap (λ q. by_keywords (two_by (keyword_of a) q)) f ∙ two-none (keyword_of a) in
    λ i. or_else (counted_type (two i) 2) (or_else (counted_type (two i) 2) (counted_type (e i) 1))
front-one a k (r ∷ rest) s e f =
    let two : by_keywords (two_by (keyword_of a) (keyword_of k)) ≡ None = ap (λ q. by_keywords (two_by (keyword_of a) q)) f ∙ two-none (keyword_of a) in
    let three : by_keywords (three_by (keyword_of a) (keyword_of k) (keyword_of r)) ≡ None = ap (λ q. by_keywords (three_by (keyword_of a) q (keyword_of r))) f ∙ three-none-second (keyword_of a) (keyword_of r) in
    λ i. or_else (counted_type (three i) 3) (or_else (counted_type (two i) 2) (counted_type (e i) 1))

front-two : (a b k : TokenKind) (rest : List TokenKind) (s : Spelled) → by_keywords (two_by (keyword_of a) (keyword_of b)) ≡ Some s → keyword_of k ≡ None → front_kinds (a ∷ b ∷ k ∷ rest) ≡ Some (s, 2)
unfolding spelled_of
front-two a b k rest s e f =
    let three : by_keywords (three_by (keyword_of a) (keyword_of b) (keyword_of k)) ≡ None = ap (λ q. by_keywords (three_by (keyword_of a) (keyword_of b) q)) f ∙ three-none-third (keyword_of a) (keyword_of b) in
    λ i. or_else (counted_type (three i) 3) (or_else (counted_type (e i) 2) (first_kinds 1 (a ∷ b ∷ k ∷ rest)))

front-of : (s : Spelled) (k : TokenKind) (rest : List TokenKind) → keyword_of k ≡ None → front_kinds (left_type s ++ k ∷ rest) ≡ Some (s, length (left_type s))
unfolding keyword_in spelled_of
front-of (Exact w b) k rest f = front-one (TypeName (Exact w b)) k rest _ refl f
front-of Size k rest f = front-one (TypeName Size) k rest _ refl f
front-of (Plain int.Bool) k rest f = front-one (Word (codes "_Bool")) k rest _ refl f
front-of (Plain int.SignedChar) k rest f = front-two (Word (codes "signed")) (Word (codes "char")) k rest _ refl f
front-of (Plain int.UnsignedChar) k rest f = front-two (Word (codes "unsigned")) (Word (codes "char")) k rest _ refl f
front-of (Plain int.Short) k rest f = front-one (Word (codes "short")) k rest _ refl f
front-of (Plain int.UnsignedShort) k rest f = front-two (Word (codes "unsigned")) (Word (codes "short")) k rest _ refl f
front-of (Plain int.Int) k rest f = front-one (Word (codes "int")) k rest _ refl f
front-of (Plain int.UnsignedInt) k rest f = front-two (Word (codes "unsigned")) (Word (codes "int")) k rest _ refl f
front-of (Plain int.Long) k rest f = front-one (Word (codes "long")) k rest _ refl f
front-of (Plain int.UnsignedLong) k rest f = front-two (Word (codes "unsigned")) (Word (codes "long")) k rest _ refl f
front-of (Plain int.LongLong) k rest f = front-two (Word (codes "long")) (Word (codes "long")) k rest _ refl f
front-of (Plain int.UnsignedLongLong) k rest f = refl

-- a type, before a token that is no keyword
front-type : (s : Spelled) (k : TokenKind) (rest : List TokenKind) (ts : List Token) → kinds_of ts ≡ left_type s ++ k ∷ rest → keyword_of k ≡ None → front_type ts ≡ Some (s, length (left_type s))
front-type s k rest ts e f = front-is ts ∙ ap front_kinds e ∙ front-of s k rest f

begins-take : (n : ℕ) (ts : List Token) → begins_type ts ≡ false → begins_type (take n ts) ≡ false
begins-take zero ts e = refl
begins-take (suc n) [] e = refl
begins-take (suc n) (t ∷ ts) e = e

none-first : (n : ℕ) (ts : List Token) → begins_type ts ≡ false → type_of_first n ts ≡ None
none-first n ts e = ap (λ s. counted_type s (length (take n ts))) (spelled-none (take n ts) (begins-take n ts e))

pub front-none : (ts : List Token) → begins_type ts ≡ false → front_type ts ≡ None
unfolding front_type
front-none ts e = λ i. or_else (none-first 3 ts e i) (or_else (none-first 2 ts e i) (none-first 1 ts e i))

kinds-length : (ts : List Token) → length (kinds_of ts) ≡ length ts
kinds-length [] = refl
kinds-length (t ∷ ts) = ap suc (kinds-length ts)

-- a type in front, and what stands behind it
pub record Typed (s : Spelled) (ks : List TokenKind) (ts : List Token) : Type 0 where
  pub words : List Token
  pub rest : List Token
  pub is : ts ≡ words ++ rest
  pub closed : IsClosed words
  pub words_kinds : kinds_of words ≡ left_type s
  pub rest_kinds : kinds_of rest ≡ ks
  pub front : front_type ts ≡ Some (s, length (left_type s))
  pub behind : drop (length (left_type s)) ts ≡ rest

pub typed-of : (s : Spelled) (k : TokenKind) (ks : List TokenKind) (ts : List Token) → kinds_of ts ≡ left_type s ++ k ∷ ks → keyword_of k ≡ None → Typed s (k ∷ ks) ts
typed-of s k ks ts e f =
    let p = split-of (left_type s) (k ∷ ks) ts e in
    let count : length (left_type s) ≡ length p.left = ap length (sym p.left_kinds) ∙ kinds-length p.left in
    record {
      words = p.left;
      rest = p.right;
      is = p.is;
      closed = words-closed p.left (words-kinds p.left (left_type s) p.left_kinds (type-words s));
      words_kinds = p.left_kinds;
      rest_kinds = p.right_kinds;
      front = front-type s k ks ts e f;
      behind = (λ i. drop (count i) (p.is i)) ∙ drop-append_seam p.left p.right;
    }
