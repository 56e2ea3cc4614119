-- The first place that passes a test, where a list grows at its end.
use Rattle.std.proofs.Common.{◌≡◌, ℕ, suc, ◌+◌, ◌<◌, Bool, true, false, cond, not, nat_lt, List, [], ◌∷◌, ◌++◌, length, take, get_or, Option, Some, None, refl, sym, ap, ◌∙◌, arith}
use Rattle.std.proofs.lemmas.Bool.Decides.{nat_tests}
use Rattle.std.proofs.lemmas.List.{take_more, length-take-le}
use Rattle.std.specs.List.{position_or_len}
use Rattle.std.specs.Option.{option_map}
use Rattle.std.specs.Prelude.{position}
use Rattle.cg_out.specs.Words.{or_else}

module _ {A : Type 0} (p : A → Bool) where
  past : (n k : ℕ) → nat_lt (1 + n) (suc k) ≡ nat_lt n k
  past n k = grind (arith, nat_tests)

  shifted : (b : Bool) (n : ℕ) → ◌≡◌ {A = Option ℕ} (cond b (Some (1 + n)) None) (option_map suc (cond b (Some n) None))
  shifted true n = ap Some (omega arith)
  shifted false n = refl

  position-cons : (x : A) (xs : List A) → position p (x ∷ xs) ≡ cond (p x) (Some 0) (option_map suc (position p xs))
  position-cons x xs = by (p x) where
    by : (b : Bool) → ◌≡◌ {A = Option ℕ} (cond (nat_lt (cond (not b) (1 + position_or_len p xs) 0) (suc (length xs))) (Some (cond (not b) (1 + position_or_len p xs) 0)) None) (cond b (Some 0) (option_map suc (position p xs)))
    by true = let first : nat_lt 0 (suc (length xs)) ≡ true = grind (arith, nat_tests) in ap (λ c. cond c (Some 0) None) first
    by false =
        ap (λ c. cond c (Some (1 + position_or_len p xs)) None) (past (position_or_len p xs) (length xs))
        ∙ shifted (nat_lt (position_or_len p xs) (length xs)) (position_or_len p xs)

  later : (b c : Bool) (o : Option ℕ) (n : ℕ)
      → cond b (Some 0) (option_map suc (or_else o (cond c (Some n) None))) ≡ or_else (cond b (Some 0) (option_map suc o)) (cond c (Some (suc n)) None)
  later true c o n = refl
  later false true None n = refl
  later false false None n = refl
  later false c (Some k) n = refl

  position-last : (xs : List A) (x : A) → position p (xs ++ x ∷ []) ≡ or_else (position p xs) (cond (p x) (Some (length xs)) None)
  position-last [] x = position-cons x []
  position-last (y ∷ ys) x =
      position-cons y (ys ++ x ∷ [])
      ∙ ap (λ o. cond (p y) (Some 0) (option_map suc o)) (position-last ys x)
      ∙ later (p y) (p x) (position p ys) (length ys)
      ∙ ap (λ o. or_else o (cond (p x) (Some (suc (length ys))) None)) (sym (position-cons y ys))

  -- the first so many, and the next
  pub position-more : (xs : List A) (i : ℕ) (x : A) → i < length xs → x ≡ get_or xs i x → position p (take (i + 1) xs) ≡ or_else (position p (take i xs)) (cond (p x) (Some i) None)
  position-more xs i x lt is =
      ap (position p) (take_more xs i x lt ∙ ap (λ y. take i xs ++ y ∷ []) (sym is))
      ∙ position-last (take i xs) x
      ∙ ap (λ n. or_else (position p (take i xs)) (cond (p x) (Some n) None)) (length-take-le i xs (omega arith))
