-- The depth of tokens that stand in a row.
use Rattle.std.proofs.Common.{◌≡◌, ℕ, suc, ◌-◌, ◌==◌, List, [], ◌∷◌, ◌++◌, take, drop, Option, Some, None, refl, sym, ap, ◌∙◌, arith, false, cond}
use Rattle.std.specs.Prelude.{◌&&◌, nat_lt}
use Rattle.std.proofs.lemmas.Bool.Decides.{nat_tests}
use Rattle.std.proofs.lemmas.List.{take-append-drop}
use Rattle.c_text.specs.declared.token.Token.{Token}
use Rattle.c_text.specs.declared.token.TokenKind.{TokenKind}
use Rattle.c_tree.specs.declared.symbol.Bracket.{Bracket}
use Rattle.c_tree.specs.Symbol.{mark_of}
use Rattle.c_tree.specs.Brackets.{mark_opens, mark_closes, opens, closes, depth_by, depth_after}
use Rattle.c_tree.specs.TokenRun.{depth_over}
use Rattle.c_depth.specs.Shallow.{is_shallow}
use Rattle.c_depth.proofs.Tests.{cond-and}

pub shallow-append : (room depth : ℕ) (xs ys : List Token) → is_shallow room depth (xs ++ ys) ≡ (is_shallow room depth xs && is_shallow room (depth_over depth xs) ys)
shallow-append room depth [] ys = refl
shallow-append room depth (x ∷ xs) ys =
    let next = depth_after x.kind depth in
    ap (λ b. cond (nat_lt room next) false b) (shallow-append room next xs ys) ∙ cond-and (nat_lt room next) (is_shallow room next xs) (is_shallow room (depth_over next xs) ys)

pub shallow-split : (room depth i : ℕ) (ts : List Token) → is_shallow room depth ts ≡ (is_shallow room depth (take i ts) && is_shallow room (depth_over depth (take i ts)) (drop i ts))
shallow-split room depth i ts = ap (λ us. is_shallow room depth us) (sym (take-append-drop i ts)) ∙ shallow-append room depth (take i ts) (drop i ts)

-- ---- tokens outside brackets

zero-fits : (room : ℕ) → nat_lt room 0 ≡ false
zero-fits room = grind (arith, nat_tests)

-- a token behind which no bracket is open
pub shallow-outside : (room depth : ℕ) (t : Token) (ts : List Token) → depth_after t.kind depth ≡ 0 → is_shallow room depth (t ∷ ts) ≡ is_shallow room 0 ts
shallow-outside room depth t ts e = rw (e, zero-fits room) refl

-- ---- brackets

suc-fits : (room depth : ℕ) → nat_lt (suc room) (suc depth) ≡ nat_lt room depth
suc-fits room depth = grind (arith, nat_tests)

-- one more may be open, and one more is
pub shallow-suc : (room depth : ℕ) (t : Token) (ts : List Token) → depth_after t.kind (suc depth) ≡ suc (depth_after t.kind depth)
    → is_shallow (suc room) (suc depth) (t ∷ ts) ≡ cond (nat_lt room (depth_after t.kind depth)) false (is_shallow (suc room) (suc (depth_after t.kind depth)) ts)
shallow-suc room depth t ts e = rw (e, suc-fits room (depth_after t.kind depth)) refl

-- a token that is no bracket, where one may be open
pub shallow-level : (room : ℕ) (t : Token) (ts : List Token) → depth_after t.kind 1 ≡ 1 → is_shallow (suc room) 1 (t ∷ ts) ≡ is_shallow (suc room) 1 ts
shallow-level room t ts e = rw (e, suc-fits room 0, zero-fits room) refl

close-suc : (d : ℕ) → suc d - 1 == 0 ≡ false → suc d - 1 ≡ suc (d - 1)
close-suc d e = grind (arith, nat_tests)

by-suc : (o c : Option Bracket) (d : ℕ) → depth_by o c (suc d) == 0 ≡ false → depth_by o c (suc d) ≡ suc (depth_by o c d)
by-suc (Some b) c d e = omega arith
by-suc None (Some b) d e = close-suc d e
by-suc None None d e = refl

-- a token that does not close the outermost bracket
pub depth-suc : (k : TokenKind) (d : ℕ) → depth_after k (suc d) == 0 ≡ false → depth_after k (suc d) ≡ suc (depth_after k d)
depth-suc k d e = by-suc (mark_opens (mark_of k)) (mark_closes (mark_of k)) d e

-- an opening bracket where one may be open, and where none may be
pub shallow-open : (room : ℕ) (o : Token) (b : Bracket) (ts : List Token) → opens o.kind ≡ Some b → is_shallow (suc room) 0 (o ∷ ts) ≡ is_shallow (suc room) 1 ts
shallow-open room o b ts e =
    ap (λ m. cond (nat_lt (suc room) (depth_by m (closes o.kind) 0)) false (is_shallow (suc room) (depth_by m (closes o.kind) 0) ts)) e
    ∙ ap (λ c. cond c false (is_shallow (suc room) 1 ts)) (suc-fits room 0 ∙ zero-fits room)

pub shallow-none : (o : Token) (b : Bracket) (ts : List Token) → opens o.kind ≡ Some b → is_shallow 0 0 (o ∷ ts) ≡ false
shallow-none o b ts e = ap (λ m. cond (nat_lt 0 (depth_by m (closes o.kind) 0)) false (is_shallow 0 (depth_by m (closes o.kind) 0) ts)) e
