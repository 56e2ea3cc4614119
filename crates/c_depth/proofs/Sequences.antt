-- Parts that are read one behind the other tell how deep all their tokens are.
use Rattle.std.proofs.Common.{ℕ, zero, suc, List, [], ◌∷◌, drop, refl, Bool}
use Rattle.std.specs.Prelude.{Ok}
use Rattle.c_text.specs.declared.token.Token.{Token}
use Rattle.c_tree.specs.Sequence.{Reading, all_read}
use Rattle.c_depth.specs.Shallow.{is_shallow}
use Rattle.c_depth.proofs.Keeps.{Keeps, all, keeps-bind}

-- what stands behind the tokens that follow the first
abbrev pub behind : {A : Type 0} → ℕ → List Token → A × ℕ → Bool
behind room ts x = is_shallow room 0 (drop x.1 ts)

-- the law of a reading
pub record ObeysReading {A : Type 0} (room : ℕ) (read : Reading A) : Type 0 where
  pub at : (t : Token) (ts : List Token) → Keeps (is_shallow room 0 (t ∷ ts)) (behind room ts) (read t ts)

pub all-read : {A : Type 0} (room : ℕ) (read : Reading A) → ObeysReading room read → (skip : ℕ) (ts : List Token) → Keeps (is_shallow room 0 (drop skip ts)) all (all_read read skip ts)
all-read room read h zero [] = refl
all-read room read h (suc n) [] = refl
all-read room read h (suc n) (t ∷ ts) = all-read room read h n ts
all-read room read h zero (t ∷ ts) =
    keeps-bind (is_shallow room 0 (t ∷ ts)) (behind room ts) all (read t ts) _ (h.at t ts)
    (λ x. keeps-bind (behind room ts x) all all (all_read read x.1 ts) (λ xs. Ok (x.0 ∷ xs)) (all-read room read h x.1 ts) (λ xs. refl))
