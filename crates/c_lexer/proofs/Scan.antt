-- A step of the loop over the lexemes.
use Rattle.std.proofs.Common.{◌≡◌, ℕ, zero, suc, ◌+◌, ◌<◌, ◌≤◌, Bool, true, false, cond, List, [], ◌∷◌, ◌++◌, length, take, drop, Option, Some, None, Result, Ok, Err, refl, sym, ap, ◌∙◌, arith, add-one, add-zero}
use Rattle.std.specs.Prelude.{count_by, nat_lt}
use Rattle.std.proofs.lemmas.Bool.Decides.{nat_tests}
use Rattle.std.proofs.lemmas.List.Sums.{sum_by-cons}
use Rattle.c_text.specs.declared.place.Place.{Place}
use Rattle.c_text.specs.declared.token.Token.{Token}
use Rattle.c_text.specs.declared.token.TokenKind.{TokenKind}
use Rattle.c_text.specs.Characters.{is_line_end}
use Rattle.c_text.specs.Splice.{line_after, begins_splice, first_splice}
use Rattle.c_text.specs.declared.refusal.CKind.{CKind}
use Rattle.c_text.specs.declared.refusal.CKind.TheVariants.{Splice}
use Rattle.c_text.specs.Refusal.{Refusal}
use Rattle.c_text.specs.Piece.{Lexeme, token, line_end, space, bad, piece}
use Rattle.c_text.specs.Tokens.{Placed, scan, onto, gathered, unless_spliced}
use Rattle.c_lexer.specs.Lexemes.{reach_of}

-- ---- several in front

abbrev pub all_onto : {X E : Type 0} → List X → Result (List X) E → Result (List X) E
all_onto [] r = r
all_onto (x ∷ xs) r = onto x (all_onto xs r)

all_onto-ok : {X E : Type 0} (xs : List X) → all_onto {X = X} {E = E} xs (Ok []) ≡ Ok xs
all_onto-ok [] = refl
all_onto-ok (x ∷ xs) = ap (onto x) (all_onto-ok xs)

all_onto-err : {X E : Type 0} (xs : List X) (e : E) → all_onto {X = X} {E = E} xs (Err e) ≡ Err e
all_onto-err [] e = refl
all_onto-err (x ∷ xs) e = ap (onto x) (all_onto-err xs e)

all_onto-more : {X E : Type 0} (xs : List X) (x : X) (r : Result (List X) E) → all_onto (xs ++ x ∷ []) r ≡ all_onto xs (onto x r)
all_onto-more [] x r = refl
all_onto-more (y ∷ xs) x r = ap (onto y) (all_onto-more xs x r)

-- what is in front makes no fault
onto-fault : {X E : Type 0} (x : X) (r : Result (List X) E) (e : E) → onto x r ≡ Err e → r ≡ Err e
onto-fault x (Ok xs) e h = cc
onto-fault x (Err d) e h = h

all_onto-fault : {X E : Type 0} (xs : List X) (r : Result (List X) E) (e : E) → all_onto xs r ≡ Err e → r ≡ Err e
all_onto-fault [] r e h = h
all_onto-fault (x ∷ xs) r e h = all_onto-fault xs r e (onto-fault x (all_onto xs r) e h)

-- ---- the lexeme in front

line_then : (line b n : ℕ) → line_after line b + n ≡ line + (cond (is_line_end b) 1 0 + n)
line_then line b n = elim (is_line_end b) as (λ r. cond r (line + 1) line + n ≡ line + (cond r 1 0 + n)) [ true ↦ omega arith | false ↦ omega arith ]

scan-skip : (header : Bool) (k line at : ℕ) (bs : List ℕ) → k ≤ length bs → scan header k line at bs ≡ scan header 0 (line + count_by is_line_end (take k bs)) (at + k) (drop k bs)
scan-skip header zero line at bs h = rw (add-zero, add-zero) refl
scan-skip header (suc k) line at [] h = absurd (omega arith)
scan-skip header (suc k) line at (b ∷ bs) h =
    let lines : line_after line b + count_by is_line_end (take k bs) ≡ line + count_by is_line_end (b ∷ take k bs) =
    line_then line b (count_by is_line_end (take k bs)) ∙ ap (λ (n : ℕ). line + n) (sym (sum_by-cons (λ c. cond (is_line_end c) 1 0) b (take k bs))) in
    let bytes : at + 1 + k ≡ at + suc k = omega arith in
    scan-skip header k (line_after line b) (at + 1) bs (omega arith) ∙ ap (λ (n : ℕ). scan header 0 n (at + 1 + k) (drop k bs)) lines ∙ ap (λ (n : ℕ). scan header 0 (line + count_by is_line_end (b ∷ take k bs)) n (drop k bs)) bytes

abbrev pub stands_at : Bool → ℕ → ℕ → ℕ → Place
stands_at header line start end = record { header = header; line = line; start = start; end = end }

-- the lexeme in front, with how many bytes of it follow its first
pub record InFront (left : List ℕ) (l : Lexeme) (k : ℕ) : Type 0 where
  pub first : ℕ
  pub rest : List ℕ
  pub left_is : left ≡ first ∷ rest
  pub is : (l, k) ≡ piece first rest
  pub within : k ≤ length rest

scan-step : (header : Bool) (line at k : ℕ) (left : List ℕ) (l : Lexeme) → InFront left l k
    → scan header 0 line at left ≡ (l, stands_at header line at (at + (k + 1))) ∷ scan header 0 (line + count_by is_line_end (take (k + 1) left)) (at + (k + 1)) (drop (k + 1) left)
scan-step header line at k left l f =
    let e0 : (piece f.first f.rest).0 ≡ l = ap (λ (p : Lexeme × ℕ). p.0) (sym f.is) in
    let e1 : (piece f.first f.rest).1 ≡ k = ap (λ (p : Lexeme × ℕ). p.1) (sym f.is) in
    let end : at + 1 + k ≡ at + suc k = omega arith in
    rw (add-one k, f.left_is, e0, e1, end) (ap (λ (ls : List Placed). (l, stands_at header line at (at + suc k)) ∷ ls) (scan-skip header (suc k) line at (f.first ∷ f.rest) (omega (arith, f.within))))

-- ---- where faults and splices stand

-- no fault of the lexemes stands before this offset
abbrev FaultsFrom : ℕ → List Placed → Type 0
FaultsFrom q ls = (fresh : Bool) (e : Refusal) → gathered fresh ls ≡ Err e → q ≤ e.place.start

reach-some : (l : Lexeme) (k : ℕ) → 0 < reach_of l (k + 1)
reach-some (token t) k = omega arith
reach-some line_end k = omega arith
reach-some space k = omega arith
reach-some (bad c) k = omega arith

pub reach-most : (l : Lexeme) (k : ℕ) → reach_of l (k + 1) ≤ k + 1
reach-most (token t) k = omega arith
reach-most line_end k = omega arith
reach-most space k = omega arith
reach-most (bad c) k = omega arith

faults-step : (l : Lexeme) (p : Place) (k q : ℕ) (ls : List Placed) → q < p.start + reach_of l (k + 1) → FaultsFrom (p.start + (k + 1)) ls → FaultsFrom q ((l, p) ∷ ls)
faults-step (token t) p k q ls lt h fresh e is = omega (arith, lt, h false e (onto-fault _ (gathered false ls) e is))
faults-step line_end p k q ls lt h fresh e is = omega (arith, lt, h true e is)
faults-step space p k q ls lt h fresh e is = omega (arith, lt, h fresh e is)
faults-step (bad c) p k q ls lt h fresh e is =
    let place : p ≡ e.place = cc in
    omega (arith, lt, ap (λ (x : Place). x.start) place)

faults-from : (header : Bool) (k line at : ℕ) (bs : List ℕ) → FaultsFrom (at + k) (scan header k line at bs)
faults-from header k line at [] fresh e is = cc
faults-from header (suc k) line at (b ∷ bs) fresh e is = omega (arith, faults-from header k (line_after line b) (at + 1) bs fresh e is)
faults-from header zero line at (b ∷ bs) fresh e is =
    let l = (piece b bs).0 in
    let k = (piece b bs).1 in
    let behind : FaultsFrom (at + (k + 1)) (scan header k (line_after line b) (at + 1) bs) = λ f d js. omega (arith, faults-from header k (line_after line b) (at + 1) bs f d js) in
    omega (arith, faults-step l (stands_at header line at (at + 1 + k)) k at (scan header k (line_after line b) (at + 1) bs) (omega (arith, reach-some l k)) behind fresh e is)

splice-from : (header : Bool) (line at : ℕ) (bs : List ℕ) (p : Place) → first_splice header line at bs ≡ Some p → at ≤ p.start
splice-from header line at [] p is = cc
splice-from header line at (b ∷ bs) p is = chosen (begins_splice b bs) (splice-from header (line_after line b) (at + 1) bs p) is
  where
    chosen : (r : Bool) → (first_splice header (line_after line b) (at + 1) bs ≡ Some p → at + 1 ≤ p.start)
        → cond r (Some (stands_at header line at (at + 1))) (first_splice header (line_after line b) (at + 1) bs) ≡ Some p → at ≤ p.start
    chosen true h e =
        let place : stands_at header line at (at + 1) ≡ p = cc in
        omega (arith, ap (λ (x : Place). x.start) place)
    chosen false h e = omega (arith, h e)

splice-wins : (p : Place) (r : Result (List Token) Refusal) → ((e : Refusal) → r ≡ Err e → p.start ≤ e.place.start) → unless_spliced (Some p) r ≡ Err (record { kind = Splice; place = p })
splice-wins p (Ok ts) h = refl
splice-wins p (Err e) h =
    let le = h e refl in
    let no : nat_lt e.place.start p.start ≡ false = grind (arith, nat_tests) in
    rw no refl

fault-wins : (o : Option Place) (e : Refusal) → ((p : Place) → o ≡ Some p → e.place.start < p.start) → unless_spliced o (Err e) ≡ Err e
fault-wins None e h = refl
fault-wins (Some p) e h =
    let lt = h p refl in
    let before : nat_lt e.place.start p.start ≡ true = grind (arith, nat_tests) in
    rw before refl

-- ---- the loop over the lexemes

-- the answer, where these tokens stand before the bytes
abbrev pub answer : List Token → Bool → Bool → ℕ → ℕ → List ℕ → Result (List Token) Refusal
answer ts header fresh line at left = unless_spliced (first_splice header line at left) (all_onto ts (gathered fresh (scan header 0 line at left)))

pub answer-all : (ts : List Token) (header fresh : Bool) (line at : ℕ) (left : List ℕ) → left ≡ [] → answer ts header fresh line at left ≡ Ok ts
answer-all ts header fresh line at left e = rw e (all_onto-ok ts)

pub answer-splice : (ts : List Token) (header fresh : Bool) (line at k : ℕ) (left : List ℕ) (l : Lexeme) (p : Place) → InFront left l k
    → first_splice header line at left ≡ Some p → p.start < at + reach_of l (k + 1) → answer ts header fresh line at left ≡ Err (record { kind = Splice; place = p })
answer-splice ts header fresh line at k left l p f is lt =
    let here = stands_at header line at (at + (k + 1)) in
    let next = line + count_by is_line_end (take (k + 1) left) in
    let ls = scan header 0 next (at + (k + 1)) (drop (k + 1) left) in
    let behind : FaultsFrom (at + (k + 1)) ls = λ g d js. omega (arith, faults-from header 0 next (at + (k + 1)) (drop (k + 1) left) g d js) in
    rw (is, scan-step header line at k left l f) (splice-wins p (all_onto ts (gathered fresh ((l, here) ∷ ls))) (λ e js. faults-step l here k p.start ls lt behind fresh e (all_onto-fault ts (gathered fresh ((l, here) ∷ ls)) e js)))

pub answer-bad : (ts : List Token) (header fresh : Bool) (line at k next : ℕ) (left : List ℕ) (c : CKind) → InFront left (bad c) k
    → first_splice header line at left ≡ first_splice header next (at + 1) (drop 1 left) → answer ts header fresh line at left ≡ Err (record { kind = c; place = stands_at header line at (at + (k + 1)) })
answer-bad ts header fresh line at k next left c f none =
    let here = stands_at header line at (at + (k + 1)) in
    rw (none, scan-step header line at k left (bad c) f, all_onto-err) (fault-wins (first_splice header next (at + 1) (drop 1 left)) (record { kind = c; place = here }) (λ p is. omega (arith, splice-from header next (at + 1) (drop 1 left) p is)))

-- a lexeme that is read, and holds no splice
pub answer-step : (ts us : List Token) (header fresh then_fresh : Bool) (line at k next : ℕ) (left : List ℕ) (l : Lexeme) → InFront left l k
    → next ≡ line + count_by is_line_end (take (k + 1) left) → first_splice header line at left ≡ first_splice header next (at + (k + 1)) (drop (k + 1) left)
    → ((ls : List Placed) → all_onto ts (gathered fresh ((l, stands_at header line at (at + (k + 1))) ∷ ls)) ≡ all_onto us (gathered then_fresh ls))
    → answer us header then_fresh next (at + (k + 1)) (drop (k + 1) left) ≡ answer ts header fresh line at left
answer-step ts us header fresh then_fresh line at k next left l f lines none step =
    rw (none, scan-step header line at k left l f, ← lines) (ap (unless_spliced (first_splice header next (at + (k + 1)) (drop (k + 1) left))) (sym (step (scan header 0 next (at + (k + 1)) (drop (k + 1) left)))))

pub pushed : (ts us : List Token) (t : Token) (k : TokenKind) (ls : List Placed) → us ≡ ts ++ t ∷ [] → t.kind ≡ k → all_onto ts (gathered t.fresh ((token k, t.place) ∷ ls)) ≡ all_onto us (gathered false ls)
pushed ts us t k ls e kind = rw (e, all_onto-more, ← kind) refl
