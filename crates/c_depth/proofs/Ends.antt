-- Behind the last token of an item no bracket is open.
use Rattle.std.proofs.Common.{◌≡◌, ℕ, zero, suc, ◌+◌, List, [], ◌∷◌, take, Option, Some, refl, subst, arith, Bool, true, false, cond}
use Rattle.std.proofs.lemmas.Bool.{false≢true}
use Rattle.std.proofs.lemmas.Option.{none-some}
use Rattle.c_text.specs.declared.token.Token.{Token}
use Rattle.c_text.specs.declared.token.TokenKind.{TokenKind}
use Rattle.c_tree.specs.declared.symbol.Bracket.{Bracket}
use Rattle.c_tree.specs.Brackets.{closes, depth_after}
use Rattle.c_tree.specs.UnitCut.{ends_item, item_end}
use Rattle.c_tree.specs.TokenRun.{depth_over}
use Rattle.c_depth.proofs.Tests.{same_Some}

ends-flat : (depth : ℕ) (b : Option Bracket) (kind : TokenKind) → ends_item depth b kind ≡ true → depth ≡ 0
ends-flat zero b kind h = refl
ends-flat (suc depth) b kind h = absurd (false≢true h)

-- behind the last token of the item, which stands behind so many, no bracket is open
abbrev EndsFrom : ℕ → ℕ → ℕ → List Token → Type 0
EndsFrom at depth i ts = (j : ℕ) × (at + j ≡ i) × (depth_over depth (take (suc j) ts) ≡ 0)

ends-by : (at depth i : ℕ) (x : Token) (xs : List Token) (b : Bool) → ends_item (depth_after x.kind depth) (closes x.kind) x.kind ≡ b
    → cond b (Some at) (item_end (at + 1) (depth_after x.kind depth) xs) ≡ Some i
    → (item_end (at + 1) (depth_after x.kind depth) xs ≡ Some i → EndsFrom (at + 1) (depth_after x.kind depth) i xs) → EndsFrom at depth i (x ∷ xs)
ends-by at depth i x xs true e h more = (0, omega (arith, same_Some at i h), ends-flat (depth_after x.kind depth) (closes x.kind) x.kind e)
ends-by at depth i x xs false e h more = let o = more h in (suc o.0, omega (arith, o.1), o.2)

ends-from : (at depth i : ℕ) (ts : List Token) → item_end at depth ts ≡ Some i → EndsFrom at depth i ts
ends-from at depth i [] h = absurd (none-some i h)
ends-from at depth i (x ∷ xs) h =
    ends-by at depth i x xs (ends_item (depth_after x.kind depth) (closes x.kind) x.kind) refl h (ends-from (at + 1) (depth_after x.kind depth) i xs)

pub item-end : (i : ℕ) (ts : List Token) → item_end 0 0 ts ≡ Some i → depth_over 0 (take (i + 1) ts) ≡ 0
item-end i ts h =
    let o = ends-from 0 0 i ts h in
    let e : suc o.0 ≡ i + 1 = omega (arith, o.1) in subst (λ n. depth_over 0 (take n ts) ≡ 0) e o.2
