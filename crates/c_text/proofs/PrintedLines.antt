-- The lexemes of lines as a header has them.
use Rattle.std.proofs.Common.{◌≡◌, ℕ, Bool, true, false, List, [], ◌∷◌, ◌++◌, codes, refl, sym, ap, ◌∙◌, append_assoc, arith}
use Rattle.std.specs.List.{AllByRecursion}
use Rattle.std.proofs.lemmas.Bool.Decides.{nat_tests}
use Rattle.c_text.specs.declared.token.TokenKind.TheVariants.{Word, Quoted, Mark}
use Rattle.c_text.specs.Characters.{is_letter, goes_on, Pass, IsName}
use Rattle.c_text.specs.Punctuator.{mark_at}
use Rattle.c_text.specs.Piece.{Lexeme, token, line_end, space, in_string}
use Rattle.c_text.specs.Tokens.{kinds}
use Rattle.c_text.specs.SeenToken.{Seen}
use Rattle.c_text.specs.Directive.{begins_fresh, before_lines, lines}
use Rattle.c_text.proofs.Boundary.{pass-append, kinds-name, kinds-comment, kinds-string, is_no_star}
use Rattle.c_text.specs.Splice.{is_plain}

abbrev pub hash : Lexeme
hash = token (Mark (codes "#"))

abbrev pub word : List ℕ → Lexeme
word w = token (Word w)

-- ---- directives

pub kinds-ifndef : (n rest : List ℕ) → IsName n → kinds 0 (codes "#ifndef " ++ (n ++ 10 ∷ rest)) ≡ hash ∷ word (codes "ifndef") ∷ space ∷ word n ∷ line_end ∷ kinds 0 rest
unfolding mark_at
kinds-ifndef n rest h = ap (λ ls. hash ∷ word (codes "ifndef") ∷ space ∷ ls) (kinds-name n (10 ∷ rest) h refl)

pub kinds-endif : (rest : List ℕ) → kinds 0 (codes "#endif" ++ 10 ∷ rest) ≡ hash ∷ word (codes "endif") ∷ line_end ∷ kinds 0 rest
unfolding mark_at
kinds-endif rest = refl

pub kinds-define_empty : (n rest : List ℕ) → IsName n → kinds 0 (codes "#define " ++ (n ++ 10 ∷ rest)) ≡ hash ∷ word (codes "define") ∷ space ∷ word n ∷ line_end ∷ kinds 0 rest
unfolding mark_at
kinds-define_empty n rest h = ap (λ ls. hash ∷ word (codes "define") ∷ space ∷ ls) (kinds-name n (10 ∷ rest) h refl)

-- with a body behind a blank
pub kinds-define : (n body : List ℕ) → IsName n → kinds 0 (codes "#define " ++ (n ++ 32 ∷ body)) ≡ hash ∷ word (codes "define") ∷ space ∷ word n ∷ space ∷ kinds 0 body
unfolding mark_at
kinds-define n body h = ap (λ ls. hash ∷ word (codes "define") ∷ space ∷ ls) (kinds-name n (32 ∷ body) h refl)

-- the lexemes of `#include <` name `.h>`
abbrev pub include_of : List ℕ → List Lexeme
include_of name = hash ∷ word (codes "include") ∷ space ∷ token (Mark (codes "<")) ∷ word name ∷ token (Mark (codes ".")) ∷ word (codes "h") ∷ token (Mark (codes ">")) ∷ line_end ∷ []

pub kinds-include_stdbool : (rest : List ℕ) → kinds 0 (codes "#include <stdbool.h>" ++ 10 ∷ rest) ≡ include_of (codes "stdbool") ++ kinds 0 rest
unfolding mark_at
kinds-include_stdbool rest = refl

pub kinds-include_stddef : (rest : List ℕ) → kinds 0 (codes "#include <stddef.h>" ++ 10 ∷ rest) ≡ include_of (codes "stddef") ++ kinds 0 rest
unfolding mark_at
kinds-include_stddef rest = refl

pub kinds-include_stdint : (rest : List ℕ) → kinds 0 (codes "#include <stdint.h>" ++ 10 ∷ rest) ≡ include_of (codes "stdint") ++ kinds 0 rest
unfolding mark_at
kinds-include_stdint rest = refl

pub kinds-include_string : (rest : List ℕ) → kinds 0 (codes "#include <string.h>" ++ 10 ∷ rest) ≡ include_of (codes "string") ++ kinds 0 rest
unfolding mark_at
kinds-include_string rest = refl

pub kinds-include_quoted : (name rest : List ℕ) → Pass in_string name → kinds 0 (codes "#include " ++ 34 ∷ (name ++ 34 ∷ 10 ∷ rest)) ≡ hash ∷ word (codes "include") ∷ space ∷ token (Quoted name) ∷ line_end ∷ kinds 0 rest
unfolding mark_at
kinds-include_quoted name rest h = ap (λ ls. hash ∷ word (codes "include") ∷ space ∷ ls) (kinds-string name (10 ∷ rest) h)

-- ---- comments

-- a line that is a comment whose inside has no star
pub kinds-comment_line : (t rest : List ℕ) → Pass is_no_star t → kinds 0 (codes "/* " ++ (t ++ (codes " */" ++ 10 ∷ rest))) ≡ space ∷ line_end ∷ kinds 0 rest
kinds-comment_line t rest h =
    ap (λ bs. kinds 0 (47 ∷ 42 ∷ 32 ∷ bs)) (sym (append_assoc t (32 ∷ []) (42 ∷ 47 ∷ 10 ∷ rest)))
    ∙ kinds-comment (32 ∷ (t ++ 32 ∷ [])) (10 ∷ rest) (refl, pass-append is_no_star t (32 ∷ []) h (refl, tt))

-- ---- names as bytes of strings and plain text

name-in_string : (b : ℕ) → goes_on b ≡ true → in_string b ≡ true
name-in_string b h = grind (arith, nat_tests)

name-plain : (b : ℕ) → goes_on b ≡ true → is_plain b ≡ true
name-plain b h = grind (arith, nat_tests)

letter-goes_on : (b : ℕ) → is_letter b ≡ true → goes_on b ≡ true
letter-goes_on b h = rw h refl

pub pass-weaker : (p q : ℕ → Bool) → ((b : ℕ) → p b ≡ true → q b ≡ true) → (bs : List ℕ) → Pass p bs → Pass q bs
pass-weaker p q f [] h = tt
pass-weaker p q f (b ∷ bs) h = (f b h.0, pass-weaker p q f bs h.1)

pub name-goes_on : (n : List ℕ) → IsName n → Pass goes_on n
name-goes_on [] h = tt
name-goes_on (b ∷ bs) h = (letter-goes_on b h.0, h.1)

pub bytes-in_string : (n : List ℕ) → Pass goes_on n → Pass in_string n
bytes-in_string n h = pass-weaker goes_on in_string name-in_string n h

pub bytes-plain : (n : List ℕ) → Pass goes_on n → Pass is_plain n
bytes-plain n h = pass-weaker goes_on is_plain name-plain n h

-- ---- lines of tokens

-- a token and others that are not fresh, before a fresh one, are one line
pub lines-one : {P : Type 0} (t : Seen P) (ts rest : List (Seen P)) → AllByRecursion (λ u. u.fresh ≡ false) ts → begins_fresh rest ≡ true → lines ((t ∷ ts) ++ rest) ≡ (t ∷ ts) ∷ lines rest
lines-one t [] rest h e = rw e refl
lines-one t (u ∷ us) rest h e = ap (before_lines u.fresh t) (lines-one u us rest h.1 e) ∙ ap (λ r. before_lines r t ((u ∷ us) ∷ lines rest)) h.0
