-- Texts that are read piece by piece.
use Rattle.std.proofs.Common.{◌≡◌, ℕ, zero, suc, Bool, true, false, not, ◌||◌, ◌&&◌, ◌==◌, List, [], ◌∷◌, ◌++◌, replicate, refl, sym, ap, ◌∙◌, append_assoc, append-nil}
use Rattle.std.specs.Prelude.{codes}
use Rattle.std.specs.List.{list_all}
use Rattle.c_text.specs.declared.token.TokenKind.{TokenKind}
use Rattle.c_text.specs.declared.token.TokenKind.TheVariants.{Word}
use Rattle.c_text.specs.Characters.{goes_on, first_passes, Pass, IsName}
use Rattle.c_text.specs.Splice.{is_plain}
use Rattle.c_text.specs.Piece.{Lexeme, token, line_end, space, bad, is_sign}
use Rattle.c_text.specs.StandardHeader.{is_mark}
use Rattle.c_text.specs.Tokens.{kinds}
use Rattle.c_text.proofs.Boundary.{pass-all, pass-append, goes_on_with_number, kinds-name, kinds-blanks}
use Rattle.c_text.proofs.PrintedLines.{bytes-plain, name-goes_on}
use Rattle.cg_out.proofs.WordLaws.{both}
use Rattle.c_printed.proofs.SmallLaws.{not-true, or-true, passes-append}

-- ---- lexemes

-- no fault, no token that could begin a directive, and within a line (`inline`) no line end
abbrev pub fine : Bool → Lexeme → Bool
fine inline (token k) = not (is_mark (codes "#") k)
fine inline line_end = not inline
fine inline space = true
fine inline (bad c) = false

abbrev pub tokens_in : List Lexeme → List TokenKind
tokens_in [] = []
tokens_in (token k ∷ ls) = k ∷ tokens_in ls
tokens_in (line_end ∷ ls) = tokens_in ls
tokens_in (space ∷ ls) = tokens_in ls
tokens_in (bad c ∷ ls) = tokens_in ls

pub in-append : (ks ls : List Lexeme) → tokens_in (ks ++ ls) ≡ tokens_in ks ++ tokens_in ls
in-append [] ls = refl
in-append (token k ∷ ks) ls = ap (λ r. k ∷ r) (in-append ks ls)
in-append (line_end ∷ ks) ls = in-append ks ls
in-append (space ∷ ks) ls = in-append ks ls
in-append (bad c ∷ ks) ls = in-append ks ls

-- ---- pieces

-- no name and no number goes on with this
abbrev pub stops : List ℕ → Bool
stops rest = not (first_passes goes_on_with_number rest)

-- the text has these tokens, whatever follows (`free`), or where what follows goes on with no name and no number
pub record Reads (inline free : Bool) (text : List ℕ) (ks : List TokenKind) : Type 0 where
  pub lexemes : List Lexeme
  pub cut : (rest : List ℕ) → (free || stops rest) ≡ true → kinds 0 (text ++ rest) ≡ lexemes ++ kinds 0 rest
  pub clean : list_all (fine inline) lexemes ≡ true
  pub are : tokens_in lexemes ≡ ks
  pub plain : Pass is_plain text

-- what is fine within a line is fine
finer : (i j : Bool) (ls : List Lexeme) → (i || not j) ≡ true → list_all (fine i) ls ≡ true → list_all (fine j) ls ≡ true
finer true j ls h e = loose j ls e
  where
    loose : (j : Bool) (ls : List Lexeme) → list_all (fine true) ls ≡ true → list_all (fine j) ls ≡ true
    loose j [] e = refl
    loose j (token k ∷ ls) e = let t = both (fine true (token k)) (list_all (fine true) ls) e in λ i. t.0 i && loose j ls t.1 i
    loose j (line_end ∷ ls) e = cc
    loose j (space ∷ ls) e = loose j ls e
    loose j (bad c ∷ ls) e = e
finer false false ls h e = e
finer false true ls h e = cc

first-of : (i j : Bool) → (i || not (i && j)) ≡ true
first-of true j = refl
first-of false j = refl

second-of : (i j : Bool) → (j || not (i && j)) ≡ true
second-of true true = refl
second-of true false = refl
second-of false true = refl
second-of false false = refl

pub looser : (ls : List Lexeme) → list_all (fine true) ls ≡ true → list_all (fine false) ls ≡ true
looser ls e = finer true false ls refl e

pub rough : (g : Bool) (x : List ℕ) (a : List TokenKind) → Reads true g x a → Reads false g x a
rough g x a p = record { lexemes = p.lexemes; cut = p.cut; clean = finer true false p.lexemes refl p.clean; are = p.are; plain = p.plain }

-- pieces in a row, where the second begins with a byte that ends the first
pub joined : {i j : Bool} (f g : Bool) (x y : List ℕ) (a b : List TokenKind) → ((rest : List ℕ) → (g || stops rest) ≡ true → (f || stops (y ++ rest)) ≡ true) → Reads i f x a → Reads j g y b → Reads (i && j) g (x ++ y) (a ++ b)
joined {i} {j} f g x y a b stop p q = record {
  lexemes = p.lexemes ++ q.lexemes;
  cut = λ rest e.
      ap (kinds 0) (append_assoc x y rest) ∙ p.cut (y ++ rest) (stop rest e)
      ∙ ap (λ ls. p.lexemes ++ ls) (q.cut rest e) ∙ sym (append_assoc p.lexemes q.lexemes (kinds 0 rest));
  clean = passes-append (fine (i && j)) p.lexemes q.lexemes (finer i (i && j) p.lexemes (first-of i j) p.clean) (finer j (i && j) q.lexemes (second-of i j) q.clean);
  are = in-append p.lexemes q.lexemes ∙ ap (λ ks. ks ++ tokens_in q.lexemes) p.are ∙ ap (λ ks. a ++ ks) q.are;
  plain = pass-append is_plain x y p.plain q.plain;
}

-- behind a piece that may stand before anything
pub then : {i j : Bool} (g : Bool) (x y : List ℕ) (a b : List TokenKind) → Reads i true x a → Reads j g y b → Reads (i && j) g (x ++ y) (a ++ b)
then g x y a b p q = joined true g x y a b (λ rest e. refl) p q

-- what is cut of the text alone
pub whole-lexemes : {i : Bool} (f : Bool) (x : List ℕ) (a : List TokenKind) (p : Reads i f x a) → p.lexemes ≡ kinds 0 x
whole-lexemes f x a p = sym (append-nil p.lexemes) ∙ sym (p.cut [] (or-true f)) ∙ ap (kinds 0) (append-nil x)

-- nothing
pub nothing : Reads true true [] []
nothing = record { lexemes = []; cut = λ rest e. refl; clean = refl; are = refl; plain = tt }

pub free-any : {i : Bool} (g : Bool) (x : List ℕ) (a : List TokenKind) → Reads i true x a → Reads i g x a
free-any g x a p = record { lexemes = p.lexemes; cut = λ rest e. p.cut rest refl; clean = p.clean; are = p.are; plain = p.plain }

-- a given text, whose tests are `refl`
pub given : {i : Bool} (x : List ℕ) (ls : List Lexeme) → ((rest : List ℕ) → kinds 0 (x ++ rest) ≡ ls ++ kinds 0 rest) → list_all (fine i) ls ≡ true → list_all is_plain x ≡ true → Reads i true x (tokens_in ls)
given x ls e c p = record { lexemes = ls; cut = λ rest f. e rest; clean = c; are = refl; plain = pass-all is_plain x p }

-- a name
none-of : (g d s : Bool) → (g || d || s) ≡ false → g ≡ false
none-of false d s e = refl
none-of true d s e = cc

no-name : (rest : List ℕ) → stops rest ≡ true → first_passes goes_on rest ≡ false
no-name [] e = refl
no-name (b ∷ bs) e = none-of (goes_on b) (b == 46) (is_sign b) (not-true (goes_on_with_number b) e)

pub named : (n : List ℕ) → IsName n → Reads true false n (Word n ∷ [])
named n h = record {
  lexemes = token (Word n) ∷ [];
  cut = λ rest e. kinds-name n rest h (no-name rest e);
  clean = refl;
  are = refl;
  plain = bytes-plain n (name-goes_on n h);
}

-- a name before a byte that goes on with no name, though it might go on with a number
pub named-before : {i : Bool} (g : Bool) (n y : List ℕ) (b : List TokenKind) → ((rest : List ℕ) → first_passes goes_on (y ++ rest) ≡ false) → IsName n → Reads i g y b → Reads i g (n ++ y) (Word n ∷ b)
named-before g n y b stop h q = record {
  lexemes = token (Word n) ∷ q.lexemes;
  cut = λ rest e. ap (kinds 0) (append_assoc n y rest) ∙ kinds-name n (y ++ rest) h (stop rest) ∙ ap (λ ls. token (Word n) ∷ ls) (q.cut rest e);
  clean = q.clean;
  are = ap (λ ks. Word n ∷ ks) q.are;
  plain = pass-append is_plain n y (bytes-plain n (name-goes_on n h)) q.plain;
}

-- an indent
all-spaces : (n : ℕ) → list_all (fine true) (replicate n space) ≡ true
all-spaces zero = refl
all-spaces (suc n) = all-spaces n

no-tokens : (n : ℕ) → tokens_in (replicate n space) ≡ []
no-tokens zero = refl
no-tokens (suc n) = no-tokens n

pass-blanks : (n : ℕ) → Pass is_plain (replicate n 32)
pass-blanks zero = tt
pass-blanks (suc n) = (refl, pass-blanks n)

pub indent : (n : ℕ) → Reads true true (replicate n 32) []
indent n = record { lexemes = replicate n space; cut = λ rest e. kinds-blanks n rest; clean = all-spaces n; are = no-tokens n; plain = pass-blanks n }
