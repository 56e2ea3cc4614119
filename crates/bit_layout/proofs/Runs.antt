-- Tests and choices that hold on a run of numbers, and nowhere else in a range.
use Rattle.std.proofs.Common.{◌≡◌, ℕ, zero, suc, ◌+◌, ◌<◌, ◌≤◌, Bool, true, false, [], ◌∷◌, map, Option, Some, None, inl, inr, refl, ap, arith}
use Rattle.std.specs.Prelude.{◌⊎◌}
use Rattle.std.specs.List.{range_with_len, filter, filter_map}
use Rattle.std.proofs.lemmas.Bool.Decides.{leb_tells, eqb_tells}

-- a test that holds on the run of count numbers from low on, and fails at the other n numbers from a on
pub record IsRun (p : ℕ → Bool) (a n low count : ℕ) : Type 0 where
  pub holds : (k : ℕ) → low ≤ k → k < low + count → p k ≡ true
  pub fails : (k : ℕ) → a ≤ k → k < a + n → (k < low) ⊎ (low + count ≤ k) → p k ≡ false

pub filter_none : (p : ℕ → Bool) (a n : ℕ) → ((k : ℕ) → a ≤ k → k < a + n → p k ≡ false) → filter p (range_with_len a n) ≡ []
filter_none p a zero h = refl
filter_none p a (suc n) h = rw (h a (omega arith) (omega arith)) (filter_none p (a + 1) n (λ k b c. h k (omega arith) (omega arith)))

pub filter_run : (p : ℕ → Bool) (a n low count : ℕ) → a ≤ low → low + count ≤ a + n → IsRun p a n low count → filter p (range_with_len a n) ≡ range_with_len low count
filter_run p a n low zero h g r = filter_none p a n (λ k b c. elim (leb_tells low k) [ inl x ↦ r.fails k b c (inr (omega (arith, x.1))) | inr x ↦ r.fails k b c (inl (omega (arith, x.1))) ])
filter_run p a zero low (suc count) h g r = absurd (omega arith)
filter_run p a (suc n) low (suc count) h g r = elim (eqb_tells a low) [
  | inl e ↦ (let first : p a ≡ true = r.holds a (omega (arith, e.1)) (omega (arith, e.1)) in
      let more = filter_run p (a + 1) n (low + 1) count (omega (arith, e.1)) (omega arith) (record {
        holds = λ k b c. r.holds k (omega arith) (omega arith);
        fails = λ k b c d. r.fails k (omega arith) (omega arith) (elim d [ inl x ↦ inl (omega (arith, e.1)) | inr x ↦ inr (omega arith) ]);
      }) in
      rw (first, more) (ap (λ x. x ∷ range_with_len (low + 1) count) e.1))
  | inr e ↦ (let first : p a ≡ false = r.fails a (omega arith) (omega arith) (inl (omega (arith, e.1))) in
      rw first (filter_run p (a + 1) n low (suc count) (omega (arith, e.1)) (omega arith) (record { holds = r.holds; fails = λ k b c d. r.fails k (omega arith) (omega arith) d })))
]

-- a choice that gives an item on the run, and none at the other numbers
pub record GivesRun {A : Type 0} (G : ℕ → Option A) (F : ℕ → A) (a n low count : ℕ) : Type 0 where
  pub one : (k : ℕ) → low ≤ k → k < low + count → G k ≡ Some (F k)
  pub none : (k : ℕ) → a ≤ k → k < a + n → (k < low) ⊎ (low + count ≤ k) → G k ≡ None

gives_none : {A : Type 0} (G : ℕ → Option A) (a n : ℕ) → ((k : ℕ) → a ≤ k → k < a + n → G k ≡ None) → filter_map G (range_with_len a n) ≡ []
gives_none G a zero h = refl
gives_none G a (suc n) h = rw (h a (omega arith) (omega arith)) (gives_none G (a + 1) n (λ k b c. h k (omega arith) (omega arith)))

pub gives_run : {A : Type 0} (G : ℕ → Option A) (F : ℕ → A) (a n low count : ℕ) → a ≤ low → low + count ≤ a + n → GivesRun G F a n low count → filter_map G (range_with_len a n) ≡ map F (range_with_len low count)
gives_run G F a n low zero h g r = gives_none G a n (λ k b c. elim (leb_tells low k) [ inl x ↦ r.none k b c (inr (omega (arith, x.1))) | inr x ↦ r.none k b c (inl (omega (arith, x.1))) ])
gives_run G F a zero low (suc count) h g r = absurd (omega arith)
gives_run G F a (suc n) low (suc count) h g r = elim (eqb_tells a low) [
  | inl e ↦ (let first : G a ≡ Some (F a) = r.one a (omega (arith, e.1)) (omega (arith, e.1)) in
      let more = gives_run G F (a + 1) n (low + 1) count (omega (arith, e.1)) (omega arith) (record {
        one = λ k b c. r.one k (omega arith) (omega arith);
        none = λ k b c d. r.none k (omega arith) (omega arith) (elim d [ inl x ↦ inl (omega (arith, e.1)) | inr x ↦ inr (omega arith) ]);
      }) in
      rw (first, more) (ap (λ x. F x ∷ map F (range_with_len (low + 1) count)) e.1))
  | inr e ↦ (let first : G a ≡ None = r.none a (omega arith) (omega arith) (inl (omega (arith, e.1))) in
      rw first (gives_run G F (a + 1) n low (suc count) (omega (arith, e.1)) (omega arith) (record { one = r.one; none = λ k b c d. r.none k (omega arith) (omega arith) d })))
]
