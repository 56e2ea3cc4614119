-- Where tokens are parted, outside brackets or at the one that closes them.
use Rattle.std.proofs.Common.{◌≡◌, ℕ, suc, ◌+◌, ◌==◌, List, [], ◌∷◌, take, drop, Some, refl, ap, ◌∙◌, subst, arith, Bool, true, false, cond}
use Rattle.std.specs.Prelude.{◌&&◌, nat_lt}
use Rattle.std.proofs.lemmas.Bool.{and_parts, eqb-true}
use Rattle.std.proofs.lemmas.Option.{none-some}
use Rattle.c_text.specs.declared.token.Token.{Token}
use Rattle.c_text.specs.declared.token.TokenKind.{TokenKind}
use Rattle.c_tree.specs.Brackets.{depth_after, first_outside, closing_from}
use Rattle.c_tree.specs.TokenRun.{depth_over}
use Rattle.c_depth.specs.Shallow.{is_shallow}
use Rattle.c_depth.proofs.Tests.{same_Some, cond-and}
use Rattle.c_depth.proofs.Depth.{shallow-split, shallow-outside, shallow-suc, depth-suc}

-- ---- a token outside brackets

-- it stands behind so many of the tokens, with so many brackets open before them
pub record Outside (passes : TokenKind → Bool) (depth i : ℕ) (ts : List Token) : Type 0 where
  pub token : Token
  pub rest : List Token
  pub there : drop i ts ≡ token ∷ rest
  pub behind : drop (suc i) ts ≡ rest
  pub flat : depth_over depth (take i ts) ≡ 0
  pub passed : passes token.kind ≡ true

-- counted from another place
abbrev pub OutsideFrom : (TokenKind → Bool) → ℕ → ℕ → ℕ → List Token → Type 0
OutsideFrom passes at depth i ts = (j : ℕ) × (at + j ≡ i) × Outside passes depth j ts

pub outside-here : (passes : TokenKind → Bool) (at depth : ℕ) (t : Token) (ts : List Token) → depth ≡ 0 → passes t.kind ≡ true → OutsideFrom passes at depth at (t ∷ ts)
outside-here passes at depth t ts e p = (0, omega arith, record { token = t; rest = ts; there = refl; behind = refl; flat = e; passed = p })

pub outside-more : (passes : TokenKind → Bool) (at depth i : ℕ) (t : Token) (ts : List Token) → OutsideFrom passes (at + 1) (depth_after t.kind depth) i ts → OutsideFrom passes at depth i (t ∷ ts)
outside-more passes at depth i t ts o =
    (suc o.0, omega (arith, o.1), record { token = o.2.token; rest = o.2.rest; there = o.2.there; behind = o.2.behind; flat = o.2.flat; passed = o.2.passed })

outside-by : (passes : TokenKind → Bool) (at depth i : ℕ) (t : Token) (ts : List Token) (b : Bool) → (depth == 0 && passes t.kind) ≡ b
    → cond b (Some at) (first_outside passes (at + 1) (depth_after t.kind depth) ts) ≡ Some i
    → (first_outside passes (at + 1) (depth_after t.kind depth) ts ≡ Some i → OutsideFrom passes (at + 1) (depth_after t.kind depth) i ts) → OutsideFrom passes at depth i (t ∷ ts)
outside-by passes at depth i t ts true e h more =
    let two = and_parts (depth == 0) (passes t.kind) e in
    subst (λ n. OutsideFrom passes at depth n (t ∷ ts)) (same_Some at i h) (outside-here passes at depth t ts (eqb-true depth 0 two.0) two.1)
outside-by passes at depth i t ts false e h more = outside-more passes at depth i t ts (more h)

outside-from : (passes : TokenKind → Bool) (at depth i : ℕ) (ts : List Token) → first_outside passes at depth ts ≡ Some i → OutsideFrom passes at depth i ts
outside-from passes at depth i [] h = absurd (none-some i h)
outside-from passes at depth i (t ∷ ts) h =
    outside-by passes at depth i t ts (depth == 0 && passes t.kind) refl h (outside-from passes (at + 1) (depth_after t.kind depth) i ts)

pub outside-at : (passes : TokenKind → Bool) (depth i : ℕ) (ts : List Token) → OutsideFrom passes 0 depth i ts → Outside passes depth i ts
outside-at passes depth i ts o = let e : o.0 ≡ i = omega (arith, o.1) in subst (λ n. Outside passes depth n ts) e o.2

-- the first that passes the test
pub outside-first : (passes : TokenKind → Bool) (i : ℕ) (ts : List Token) → first_outside passes 0 0 ts ≡ Some i → Outside passes 0 i ts
outside-first passes i ts h = outside-at passes 0 i ts (outside-from passes 0 0 i ts h)

-- ---- the token that closes a bracket

pub record Closes (depth i : ℕ) (ts : List Token) : Type 0 where
  pub token : Token
  pub rest : List Token
  pub there : drop i ts ≡ token ∷ rest
  pub behind : drop (suc i) ts ≡ rest
  pub shallow : (room : ℕ) → is_shallow (suc room) (suc depth) ts ≡ (is_shallow room depth (take i ts) && is_shallow (suc room) 0 rest)

abbrev ClosesFrom : ℕ → ℕ → ℕ → List Token → Type 0
ClosesFrom at depth i ts = (j : ℕ) × (at + j ≡ i) × Closes depth j ts

closes-more : (at depth i : ℕ) (t : Token) (ts : List Token) → depth_after t.kind (suc depth) ≡ suc (depth_after t.kind depth)
    → ClosesFrom (at + 1) (depth_after t.kind depth) i ts → ClosesFrom at depth i (t ∷ ts)
closes-more at depth i t ts e o = (
  suc o.0,
  omega (arith, o.1),
  record {
    token = o.2.token;
    rest = o.2.rest;
    there = o.2.there;
    behind = o.2.behind;
    shallow = λ room.
        let next = depth_after t.kind depth in
        shallow-suc room depth t ts e ∙ ap (λ b. cond (nat_lt room next) false b) (o.2.shallow room)
        ∙ cond-and (nat_lt room next) (is_shallow room next (take o.0 ts)) (is_shallow (suc room) 0 o.2.rest);
  },
)

closes-by : (at depth i : ℕ) (t : Token) (ts : List Token) (b : Bool) → (depth_after t.kind (suc depth) == 0) ≡ b
    → cond b (Some at) (closing_from (at + 1) (depth_after t.kind (suc depth)) ts) ≡ Some i
    → (closing_from (at + 1) (suc (depth_after t.kind depth)) ts ≡ Some i → ClosesFrom (at + 1) (depth_after t.kind depth) i ts) → ClosesFrom at depth i (t ∷ ts)
closes-by at depth i t ts true e h more = (
  0,
  omega (arith, same_Some at i h),
  record {
    token = t;
    rest = ts;
    there = refl;
    behind = refl;
    shallow = λ room. shallow-outside (suc room) (suc depth) t ts (eqb-true (depth_after t.kind (suc depth)) 0 e);
  },
)
closes-by at depth i t ts false e h more =
    let s = depth-suc t.kind depth e in
    closes-more at depth i t ts s (more (subst (λ n. closing_from (at + 1) n ts ≡ Some i) s h))

closes-from : (at depth i : ℕ) (ts : List Token) → closing_from at (suc depth) ts ≡ Some i → ClosesFrom at depth i ts
closes-from at depth i [] h = absurd (none-some i h)
closes-from at depth i (t ∷ ts) h =
    closes-by at depth i t ts (depth_after t.kind (suc depth) == 0) refl h (closes-from (at + 1) (depth_after t.kind depth) i ts)

-- the bracket that is open before the tokens
pub closes-at : (i : ℕ) (ts : List Token) → closing_from 0 1 ts ≡ Some i → Closes 0 i ts
closes-at i ts h = let o = closes-from 0 0 i ts h in let e : o.0 ≡ i = omega (arith, o.1) in subst (λ n. Closes 0 n ts) e o.2

-- tokens are as deep as those before and behind a token outside brackets
pub outside-shallow : (passes : TokenKind → Bool) (room i : ℕ) (ts : List Token) (o : Outside passes 0 i ts) → depth_after o.token.kind 0 ≡ 0
    → is_shallow room 0 ts ≡ (is_shallow room 0 (take i ts) && is_shallow room 0 o.rest)
outside-shallow passes room i ts o e =
    shallow-split room 0 i ts
    ∙ ap (λ us. is_shallow room 0 (take i ts) && is_shallow room (depth_over 0 (take i ts)) us) o.there
    ∙ ap (λ d. is_shallow room 0 (take i ts) && is_shallow room d (o.token ∷ o.rest)) o.flat
    ∙ ap (λ b. is_shallow room 0 (take i ts) && b) (shallow-outside room 0 o.token o.rest e)
