-- The places of a signal, and a table of taken ones.
use Rattle.std.proofs.Common.{◌≡◌, ◌≢◌, ◌⊎◌, inl, inr, ◌↔◌, ℕ, ◌+◌, ◌-◌, ◌<◌, ◌≤◌, Bool, true, false, List, length, get_or, set, sym, ap, subst, ◌∙◌, arith, get_or-set_same, get_or-set_other}
use Rattle.std.specs.Prelude.{MatchBool, IsTrue}
use native.Mathlib.Decide.{ℕ_discrete, dec_lt}
use Rattle.std.proofs.lemmas.Grind.{common_steps}
use Rattle.can_model.specs.Place.{rank, IsAt, HasPlace}
use Rattle.can_model.specs.RawValue.{has_bits}
use Rattle.can_model.specs.declared.database.Signal.{Signal}
use Rattle.db_check.specs.OfSignal.{ReachesTo}

pub some_bits : (len : ℕ) → has_bits len ≡ true → 1 ≤ len
some_bits len h = grind (arith, common_steps)

at_start : (motorola : Bool) (r start len : ℕ) → 1 ≤ len → (k : ℕ) × (k < len) × MatchBool motorola (r + (k + 1) ≡ r + len) (start ≡ start + k)
at_start true r start len h = (len - 1, omega arith, omega arith)
at_start false r start len h = (0, omega arith, omega arith)

-- a signal's start is one of its places
pub starts : (s : Signal) → has_bits s.length ≡ true → HasPlace s s.start
starts s bits = (bits, at_start s.motorola (rank s.start) s.start s.length (some_bits s.length bits))

-- the place is taken in the table, or it is that of an earlier bit
abbrev pub TakenBy : Signal → List Bool → ℕ → ℕ → Type 0
TakenBy s old n p = (get_or old p false ≡ true) ⊎ ((j : ℕ) × (j < n) × IsAt s j p)

-- one bit more
module _ (s : Signal) (old taken : List Bool) (n q : ℕ) (within : q < length taken) (at : IsAt s n q) (only : (p : ℕ) → IsAt s n p → p ≡ q) where
  later : (p : ℕ) → TakenBy s old n p → TakenBy s old (n + 1) p
  later p (inl t) = inl t
  later p (inr (j, lt, a)) = inr (j, omega arith, a)

  sooner : (p : ℕ) → p ≢ q → TakenBy s old (n + 1) p → TakenBy s old n p
  sooner p ne (inl t) = inl t
  sooner p ne (inr (j, lt, a)) = by (ℕ_discrete j n) where
    by : Dec (j ≡ n) → TakenBy s old n p
    by (yes e) = absurd (ne (only p (subst (λ i. IsAt s i p) e a)))
    by (no e) = inr (j, omega arith, a)

  pub take_more : ((p : ℕ) → (get_or taken p false ≡ true) ↔ TakenBy s old n p) → (p : ℕ) → (get_or (set taken q true) p false ≡ true) ↔ TakenBy s old (n + 1) p
  take_more before p = by (ℕ_discrete p q) where
    by : Dec (p ≡ q) → (get_or (set taken q true) p false ≡ true) ↔ TakenBy s old (n + 1) p
    by (yes e) = (λ _. inr (n, omega arith, subst (λ r. IsAt s n r) (sym e) at), λ _. ap (λ r. get_or (set taken q true) r false) e ∙ get_or-set_same taken q true false within)
    by (no ne) = rw (get_or-set_other taken q p true false ne) (λ t. later p ((before p).0 t), λ t. (before p).1 (sooner p ne t))

-- no bit is outside
module _ (s : Signal) (size : ℕ) (r : Bool) (test : IsTrue r ↔ ReachesTo size s) (e : r ≡ false) where
  not_outside : ¬ ReachesTo size s
  not_outside reaches = let t : r ≡ true = test.1 reaches in cc

  pub inside : (p : ℕ) → HasPlace s p → p < size
  inside p at = by (dec_lt p size) where
    by : Dec (p < size) → p < size
    by (yes lt) = lt
    by (no nl) = absurd (not_outside (p, at, omega arith))

  pub start_below : has_bits s.length ≡ true → s.start < size
  start_below bits = inside s.start (starts s bits)
