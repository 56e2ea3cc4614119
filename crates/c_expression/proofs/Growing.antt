-- A run of tokens that takes the next one in, and single tokens by their index.
use Rattle.std.proofs.Common.{◌≡◌, ℕ, zero, suc, ◌+◌, ◌-◌, ◌<◌, ◌≤◌, List, [], ◌∷◌, ◌++◌, take, drop, get_or, length, refl, sym, ap, ◌∙◌, arith, add-one, drop-cons}
use Rattle.std.proofs.Math.Seq.{take-add}
use Rattle.std.proofs.lemmas.List.{drop-drop, length-drop, map-append}
use Rattle.c_text.specs.declared.token.Token.{Token}
use Rattle.c_tree.specs.TypeName.{kinds_of}
use Rattle.c_expression.specs.At.{IsAt}

pub take-next : {A : Type 0} (n : ℕ) (xs : List A) (x : A) (rest : List A) → drop n xs ≡ x ∷ rest → take (suc n) xs ≡ take n xs ++ x ∷ []
take-next zero xs x rest e = rw e refl
take-next (suc n) [] x rest e = absurd (omega (arith, ap length e))
take-next (suc n) (y ∷ ys) x rest e = ap (λ zs. y ∷ zs) (take-next n ys x rest e)

pub kinds-next : (ts : List Token) (from i : ℕ) (t : Token) → from ≤ i → drop i ts ≡ t ∷ drop (i + 1) ts
    → kinds_of (take (i + 1 - from) (drop from ts)) ≡ kinds_of (take (i - from) (drop from ts)) ++ t.kind ∷ []
kinds-next ts from i t le e =
    let at : drop (i - from) (drop from ts) ≡ t ∷ drop (i + 1) ts = drop-drop (i - from) from ts ∙ ap (λ n. drop n ts) (omega (arith, le)) ∙ e in
    let count : i + 1 - from ≡ suc (i - from) = omega (arith, le) in
    ap (λ n. kinds_of (take n (drop from ts))) count
    ∙ ap kinds_of (take-next (i - from) (drop from ts) t (drop (i + 1) ts) at)
    ∙ map-append (λ x. x.kind) (take (i - from) (drop from ts)) (t ∷ [])

-- ---- single tokens

pub token-at : (n : ℕ) (ts : List Token) (t : Token) → n < length ts → t ≡ get_or ts n t → IsAt n ts t
token-at n ts t h is = record { is = drop-cons ts n t h ∙ ap (λ x. x ∷ drop (suc n) ts) (sym is) ∙ ap (λ m. t ∷ drop m ts) (sym (add-one n)) }

pub front-is : (ts : List Token) (t : Token) → 1 ≤ length ts → t ≡ get_or ts 0 t → ts ≡ t ∷ drop 1 ts
front-is [] t h is = absurd (omega arith)
front-is (x ∷ ts) t h is = ap (λ y. y ∷ ts) (sym is)

-- with the token that stands behind
taken-next : (n : ℕ) (ts : List Token) (t : Token) → IsAt n ts t → take (suc n) ts ≡ take n ts ++ t ∷ []
taken-next n ts t at = take-next n ts t (drop (n + 1) ts) at.is

-- with that and more
pub taken-more : (n m : ℕ) (ts : List Token) (t : Token) → IsAt n ts t → take (n + suc m) ts ≡ take n ts ++ t ∷ take m (drop (n + 1) ts)
taken-more n m ts t at = take-add n (suc m) ts ∙ ap (λ xs. take n ts ++ take (suc m) xs) at.is

pub at-within : (n : ℕ) (ts : List Token) (t : Token) → IsAt n ts t → n + 1 ≤ length ts
at-within n ts t at = omega (arith, length-drop n ts, ap length at.is)
