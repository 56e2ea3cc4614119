-- Where a name, a constant, a string and a comment end.
use Rattle.std.proofs.Common.{◌≡◌, ℕ, zero, suc, Bool, true, false, not, ◌||◌, ◌&&◌, ◌==◌, List, [], ◌∷◌, ◌++◌, length, replicate, take_while, Some, refl, ap, ◌∙◌, append_assoc, arith}
use Rattle.std.specs.List.{list_all}
use Rattle.std.proofs.lemmas.List.Sums.{take_while-cons}
use Rattle.std.proofs.lemmas.Bool.Decides.{nat_tests}
use Rattle.std.proofs.Math.Seq.{drop-append_seam}
use Rattle.c_text.specs.declared.token.Constant.{Constant}
use Rattle.c_text.specs.declared.token.TokenKind.TheVariants.{Word, Constant as Number, Quoted}
use Rattle.c_text.specs.Characters.{is_letter, is_digit, goes_on, first_passes, Pass, IsName}
use Rattle.c_text.specs.IntegerConstant.{constant_of}
use Rattle.c_text.specs.Piece.{Lexeme, token, line_end, space, bad, one_more, close_at, is_exponent, is_sign, number_goes_on, number_rest, in_string}
use Rattle.c_text.specs.Tokens.{kinds}
use Rattle.c_text.specs.BareTokens.{solid}
use Rattle.cg_out.proofs.WordLaws.{both}

-- ---- runs of bytes

pub pass-append : (p : ℕ → Bool) (xs ys : List ℕ) → Pass p xs → Pass p ys → Pass p (xs ++ ys)
pass-append p [] ys h k = k
pass-append p (x ∷ xs) ys h k = (h.0, pass-append p xs ys h.1 k)

-- of a given text, whose test is `refl`
pub pass-all : (p : ℕ → Bool) (bs : List ℕ) → list_all p bs ≡ true → Pass p bs
pass-all p [] h = tt
pass-all p (b ∷ bs) h = let e = both (p b) (list_all p bs) h in (e.0, pass-all p bs e.1)

pub take_while-all : (p : ℕ → Bool) (xs rest : List ℕ) → Pass p xs → first_passes p rest ≡ false → take_while p (xs ++ rest) ≡ xs
take_while-all p [] [] h e = refl
take_while-all p [] (b ∷ bs) h e = take_while-cons p b bs ∙ rw e refl
take_while-all p (x ∷ xs) rest h e = take_while-cons p x (xs ++ rest) ∙ rw (h.0, take_while-all p xs rest h.1 e) refl

-- bytes that belong to what stands before them
pub kinds-skip : (xs ys : List ℕ) → kinds (length xs) (xs ++ ys) ≡ kinds 0 ys
kinds-skip [] ys = refl
kinds-skip (x ∷ xs) ys = kinds-skip xs ys

-- and one byte more
pub kinds-skip_one_more : (xs : List ℕ) (y : ℕ) (ys : List ℕ) → kinds (suc (length xs)) (xs ++ y ∷ ys) ≡ kinds 0 ys
kinds-skip_one_more [] y ys = refl
kinds-skip_one_more (x ∷ xs) y ys = kinds-skip_one_more xs y ys

not-true : (b : Bool) → not b ≡ true → b ≡ false
not-true false h = refl
not-true true h = cc

-- ---- names

pub kinds-name : (n rest : List ℕ) → IsName n → first_passes goes_on rest ≡ false → kinds 0 (n ++ rest) ≡ token (Word n) ∷ kinds 0 rest
kinds-name [] rest h e = absurd h
kinds-name (b ∷ bs) rest h e = rw (h.0, take_while-all goes_on bs rest h.1 e, kinds-skip bs rest) refl

-- ---- constants

-- a constant does not end before this byte
abbrev pub goes_on_with_number : ℕ → Bool
goes_on_with_number b = goes_on b || b == 46 || is_sign b

digit-not-letter : (b : ℕ) → is_digit b ≡ true → is_letter b ≡ false
digit-not-letter b h = grind (arith, nat_tests)

none-of : (g d s t : Bool) → (g || d || s) ≡ false → (g || d || (t && s)) ≡ false
none-of false false s true h = h
none-of false false s false h = refl
none-of false true s t h = cc
none-of true d s t h = cc

stops : (before b : ℕ) → goes_on_with_number b ≡ false → number_goes_on before b ≡ false
stops before b h = none-of (goes_on b) (b == 46) (is_sign b) (is_exponent before) h

pub number_rest-all : (before : ℕ) (xs rest : List ℕ) → Pass goes_on xs → first_passes goes_on_with_number rest ≡ false → number_rest before (xs ++ rest) ≡ xs
number_rest-all before [] [] h e = refl
number_rest-all before [] (b ∷ bs) h e = rw (stops before b e) refl
number_rest-all before (x ∷ xs) rest h e = rw h.0 (ap (λ ys. x ∷ ys) (number_rest-all x xs rest h.1 e))

pub kinds-constant : (b : ℕ) (bs rest : List ℕ) (c : Constant) → is_digit b ≡ true → Pass goes_on bs → constant_of (b ∷ bs) ≡ Some c → first_passes goes_on_with_number rest ≡ false
    → kinds 0 ((b ∷ bs) ++ rest) ≡ token (Number c) ∷ kinds 0 rest
kinds-constant b bs rest c d h k e = rw (digit-not-letter b d, d, number_rest-all b bs rest h e, k, kinds-skip bs rest) refl

-- ---- strings

pub kinds-string : (s rest : List ℕ) → Pass in_string s → kinds 0 (34 ∷ (s ++ 34 ∷ rest)) ≡ token (Quoted s) ∷ kinds 0 rest
kinds-string s rest h = rw (take_while-all in_string s (34 ∷ rest) h refl, drop-append_seam) (ap (λ ls. token (Quoted s) ∷ ls) (kinds-skip_one_more s 34 rest))

-- ---- comments

abbrev pub is_no_star : ℕ → Bool
is_no_star b = not (b == 42)

close_at-all : (xs rest : List ℕ) → Pass is_no_star xs → close_at (xs ++ 42 ∷ 47 ∷ rest) ≡ Some (length (xs ++ 42 ∷ 47 ∷ []))
close_at-all [] rest h = refl
close_at-all (x ∷ xs) rest h = rw (not-true (x == 42) h.0) (ap one_more (close_at-all xs rest h.1))

-- a comment whose inside has no star is one piece of white space
pub kinds-comment : (xs rest : List ℕ) → Pass is_no_star xs → kinds 0 (47 ∷ 42 ∷ (xs ++ 42 ∷ 47 ∷ rest)) ≡ space ∷ kinds 0 rest
kinds-comment xs rest h = rw (close_at-all xs rest h) (ap (λ ls. space ∷ ls) (rw append_assoc at (kinds-skip (xs ++ 42 ∷ 47 ∷ []) rest)))

-- ---- white space

pub kinds-blanks : (n : ℕ) (rest : List ℕ) → kinds 0 (replicate n 32 ++ rest) ≡ replicate n space ++ kinds 0 rest
kinds-blanks zero rest = refl
kinds-blanks (suc n) rest = ap (λ ls. space ∷ ls) (kinds-blanks n rest)

pub solid-append : (ks ls : List Lexeme) → solid (ks ++ ls) ≡ solid ks ++ solid ls
solid-append [] ls = refl
solid-append (token k ∷ ks) ls = ap (λ r. token k ∷ r) (solid-append ks ls)
solid-append (line_end ∷ ks) ls = ap (λ r. line_end ∷ r) (solid-append ks ls)
solid-append (space ∷ ks) ls = solid-append ks ls
solid-append (bad c ∷ ks) ls = ap (λ r. bad c ∷ r) (solid-append ks ls)
