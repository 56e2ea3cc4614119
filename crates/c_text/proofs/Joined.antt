-- Tokens with their places are, without them, the tokens that the lexemes of the text give.
use Rattle.std.proofs.Common.{◌≡◌, ℕ, zero, suc, ◌+◌, ◌<◌, ◌≤◌, Bool, true, false, ◌&&◌, ◌==◌, not, List, [], ◌∷◌, ◌++◌, map, Option, Some, None, Result, Ok, Err, refl, sym, ap, subst, ◌∙◌, arith, eq-eqb}
use Rattle.std.proofs.lemmas.Bool.Decides.{nat_tests}
use Rattle.c_text.specs.declared.token.Token.{Token}
use Rattle.c_text.specs.declared.refusal.CKind.{CKind}
use Rattle.c_text.specs.Refusal.{Refusal}
use Rattle.c_text.specs.Characters.{Pass}
use Rattle.c_text.specs.Splice.{line_after, first_splice, is_plain}
use Rattle.c_text.specs.Piece.{Lexeme, token, line_end, space, bad, piece}
use Rattle.c_text.specs.Tokens.{kinds, Placed, scan, onto, gathered, tokens, unless_spliced}
use Rattle.c_text.specs.SeenToken.{Bare, is_end, bares}
use Rattle.c_text.specs.BareTokens.{bare_token, bare_read, bare_gathered, ReadsAs}

-- ---- lexemes

abbrev pub lexeme : Placed → Lexeme
lexeme l = l.0

pub scan-kinds : (header : Bool) (skip line at : ℕ) (bs : List ℕ) → map lexeme (scan header skip line at bs) ≡ kinds skip bs
scan-kinds header skip line at [] = refl
scan-kinds header (suc k) line at (b ∷ bs) = scan-kinds header k (line_after line b) (at + 1) bs
scan-kinds header zero line at (b ∷ bs) = ap (λ ls. (piece b bs).0 ∷ ls) (scan-kinds header (piece b bs).1 (line_after line b) (at + 1) bs)

-- each lexeme begins where the one before ends
abbrev pub Follow : ℕ → List Placed → Type 0
Follow at [] = Unit {0}
Follow at ((l, p) ∷ ls) = (p.start ≡ at) × (at < p.end) × Follow p.end ls

pub scan-follow : (header : Bool) (skip line at : ℕ) (bs : List ℕ) → Follow (at + skip) (scan header skip line at bs)
scan-follow header skip line at [] = tt
scan-follow header (suc k) line at (b ∷ bs) =
    let e : at + 1 + k ≡ at + suc k = omega arith in
    subst (λ n. Follow n (scan header k (line_after line b) (at + 1) bs)) e (scan-follow header k (line_after line b) (at + 1) bs)
scan-follow header zero line at (b ∷ bs) = (omega arith, omega arith, scan-follow header (piece b bs).1 (line_after line b) (at + 1) bs)

-- ---- tokens

onto-bare : (end : Option ℕ) (t : Token) (r : Result (List Token) Refusal) → bare_read end (onto t r) ≡ onto (bare_token t.kind t.fresh (is_end end t.place.start)) (bare_read (Some t.place.end) r)
onto-bare end t (Ok ts) = refl
onto-bare end t (Err e) = refl

abbrev NotBehind : Option ℕ → ℕ → Type 0
NotBehind None at = Unit {0}
NotBehind (Some end) at = end ≤ at

same-place : (n : ℕ) → true ≡ is_end (Some n) n
same-place n = sym (eq-eqb n n refl)

later-place : (end : Option ℕ) (at to : ℕ) → NotBehind end at → at < to → false ≡ is_end end to
later-place None at to h k = refl
later-place (Some end) at to h k = grind (arith, nat_tests)

later-behind : (end : Option ℕ) (at to : ℕ) → NotBehind end at → at < to → NotBehind end to
later-behind None at to h k = tt
later-behind (Some end) at to h k = omega arith

pub gathered-bare : (fresh joined : Bool) (end : Option ℕ) (at : ℕ) (ls : List Placed) → Follow at ls → NotBehind end at → joined ≡ is_end end at → bare_read end (gathered fresh ls) ≡ bare_gathered fresh joined (map lexeme ls)
gathered-bare fresh joined end at [] f h j = refl
gathered-bare fresh joined end at ((token k, p) ∷ ls) f h j =
    onto-bare end (record { kind = k; place = p; fresh = fresh }) (gathered false ls)
    ∙ ap (λ r. onto (bare_token k fresh r) (bare_read (Some p.end) (gathered false ls))) (ap (is_end end) f.0 ∙ sym j)
    ∙ ap (onto (bare_token k fresh joined)) (gathered-bare false true (Some p.end) p.end ls f.2 (omega arith) (same-place p.end))
gathered-bare fresh joined end at ((line_end, p) ∷ ls) f h j = gathered-bare true false end p.end ls f.2 (later-behind end at p.end h f.1) (later-place end at p.end h f.1)
gathered-bare fresh joined end at ((space, p) ∷ ls) f h j = gathered-bare fresh false end p.end ls f.2 (later-behind end at p.end h f.1) (later-place end at p.end h f.1)
gathered-bare fresh joined end at ((bad c, p) ∷ ls) f h j = refl

-- where no splice stands, the lexemes say what the tokens are
pub tokens-bare : (header : Bool) (text : List ℕ) → first_splice header 1 0 text ≡ None → bare_read None (tokens header text) ≡ bare_gathered true false (kinds 0 text)
tokens-bare header text e =
    ap (λ s. bare_read None (unless_spliced s (gathered true (scan header 0 1 0 text)))) e
    ∙ gathered-bare true false None 0 (scan header 0 1 0 text) (scan-follow header 0 1 0 text) tt refl
    ∙ ap (bare_gathered true false) (scan-kinds header 0 1 0 text)

-- ---- texts without splices

neither : (x y : Bool) → (not x && not y) ≡ true → (x ≡ false) × (y ≡ false)
neither false false h = (refl, refl)
neither false true h = cc
neither true y h = cc

pub plain-no_splice : (header : Bool) (line at : ℕ) (bs : List ℕ) → Pass is_plain bs → first_splice header line at bs ≡ None
plain-no_splice header line at [] h = refl
plain-no_splice header line at (b ∷ bs) h =
    let e = neither (b == 92) (b == 63) h.0 in
    rw (e.0, e.1) (plain-no_splice header (line_after line b) (at + 1) bs h.1)

-- ---- the whole

ok-of : (r : Result (List Token) Refusal) (bs : List Bare) → bare_read None r ≡ Ok bs → (ts : List Token) × (r ≡ Ok ts) × (bares ts ≡ bs)
ok-of (Ok ts) bs e = (ts, refl, cc)
ok-of (Err f) bs e = cc

pub reads-as : (header : Bool) (text : List ℕ) (ls : List Lexeme) (bs : List Bare) → Pass is_plain text → kinds 0 text ≡ ls → bare_gathered true false ls ≡ Ok bs → ReadsAs header text bs
reads-as header text ls bs plain k g =
    let e = tokens-bare header text (plain-no_splice header 1 0 text plain) ∙ ap (bare_gathered true false) k ∙ g in
    let r = ok-of (tokens header text) bs e in
    record { list = r.0; read = r.1; are = r.2 }

-- ---- texts line by line

-- what is read behind what was read before
abbrev pub read_behind : Result (List Bare) CKind → Result (List Bare) CKind → Result (List Bare) CKind
read_behind (Ok xs) (Ok ys) = Ok (xs ++ ys)
read_behind (Ok xs) (Err e) = Err e
read_behind (Err e) r = Err e

pub nothing-before : (r : Result (List Bare) CKind) → r ≡ read_behind (Ok []) r
nothing-before (Ok ys) = refl
nothing-before (Err e) = refl

pub onto-read_behind : (b : Bare) (x y : Result (List Bare) CKind) → onto b (read_behind x y) ≡ read_behind (onto b x) y
onto-read_behind b (Ok xs) (Ok ys) = refl
onto-read_behind b (Ok xs) (Err e) = refl
onto-read_behind b (Err e) y = refl

-- behind a line end the tokens do not depend on those before
pub gathered-line_end : (fresh joined : Bool) (ks ls : List Lexeme) → bare_gathered fresh joined (ks ++ line_end ∷ ls) ≡ read_behind (bare_gathered fresh joined ks) (bare_gathered true false ls)
gathered-line_end fresh joined [] ls = nothing-before (bare_gathered true false ls)
gathered-line_end fresh joined (token k ∷ ks) ls =
    ap (onto (bare_token k fresh joined)) (gathered-line_end false true ks ls) ∙ onto-read_behind (bare_token k fresh joined) (bare_gathered false true ks) (bare_gathered true false ls)
gathered-line_end fresh joined (line_end ∷ ks) ls = gathered-line_end true false ks ls
gathered-line_end fresh joined (space ∷ ks) ls = gathered-line_end fresh false ks ls
gathered-line_end fresh joined (bad c ∷ ks) ls = refl
