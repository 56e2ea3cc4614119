-- The chain of a signal and its selectors: it ends in one place after one number of steps, or it does not end, and one that ends has fewer steps than the message has signals.
use Rattle.std.proofs.Common.{◌≡◌, ℕ, zero, suc, ◌+◌, ◌<◌, ◌≤◌, Bool, true, false, eqb, List, [], ◌∷◌, length, ℤ, Option, Some, None, refl, sym, ap, subst, ◌∙◌, arith}
use Rattle.std.proofs.lemmas.Map.Steps.{length-le_from_distinct_below}
use Rattle.std.proofs.lemmas.Option.{slice_get_within}
use Rattle.std.specs.Prelude.{◌||◌, slice_get, IsSomeAnd, MatchOption}
use Rattle.std.specs.List.{list_any, IsDistinct, AllByRecursion}
use Rattle.std.proofs.lemmas.Bool.Decides.{nat_tests}
use Rattle.can_model.specs.declared.database.Signal.{Signal}
use Rattle.can_model.specs.declared.database.Parent.{Parent}
use Rattle.can_model.specs.Active.{lies_in, value_at, EndsActive}
use Rattle.can_model.proofs.Elements.{some_and, and_some}

-- the signal of this index has no parent
abbrev pub IsTop : List Signal → ℕ → Type 0
IsTop ss i = (s : Signal) × (slice_get ss i ≡ Some s) × (s.parent ≡ None)

-- signal j is the selector of signal i and asks for it
pub record Asks (ss : List Signal) (vs : List (Option ℤ)) (i j : ℕ) : Type 0 where
  pub signal : Signal
  pub parent : Parent
  pub at : slice_get ss i ≡ Some signal
  pub below : signal.parent ≡ Some parent
  pub selector : parent.selector ≡ Some j
  pub value : IsSomeAnd (value_at vs j) (λ v. lies_in parent.ranges v ≡ true)

-- the chain from signal i ends after so many steps
abbrev pub EndsAfter : ℕ → List Signal → List (Option ℤ) → ℕ → Type 0
EndsAfter zero ss vs i = IsTop ss i
EndsAfter (suc n) ss vs i = (j : ℕ) × Asks ss vs i j × EndsAfter n ss vs j

-- ---- one chain

pub one_selector : (ss : List Signal) (vs : List (Option ℤ)) (i j k : ℕ) → Asks ss vs i j → Asks ss vs i k → j ≡ k
one_selector ss vs i j k a b =
    let same : a.signal ≡ b.signal = cc (sym a.at ∙ b.at) in
    let parents : a.parent ≡ b.parent = cc (sym a.below ∙ ap (λ s. s.parent) same ∙ b.below) in
    cc (sym a.selector ∙ ap (λ p. p.selector) parents ∙ b.selector)

pub no_selector : (ss : List Signal) (vs : List (Option ℤ)) (i j : ℕ) → IsTop ss i → Asks ss vs i j → ⊥
no_selector ss vs i j t a =
    let same : t.0 ≡ a.signal = cc (sym t.1 ∙ a.at) in
    let parents : None ≡ Some a.parent = sym t.2 ∙ ap (λ s. s.parent) same ∙ a.below in
    absurd (cc)

one_length : (m n : ℕ) (ss : List Signal) (vs : List (Option ℤ)) (i : ℕ) → EndsAfter m ss vs i → EndsAfter n ss vs i → m ≡ n
one_length zero zero ss vs i a b = refl
one_length zero (suc n) ss vs i a b = absurd (no_selector ss vs i b.0 a b.1)
one_length (suc m) zero ss vs i a b = absurd (no_selector ss vs i a.0 b a.1)
one_length (suc m) (suc n) ss vs i a b =
    let same : b.0 ≡ a.0 = one_selector ss vs i b.0 a.0 b.1 a.1 in
    ap suc (one_length m n ss vs a.0 a.2 (subst (EndsAfter n ss vs) same b.2))

pub signal_there : (n : ℕ) (ss : List Signal) (vs : List (Option ℤ)) (i : ℕ) → EndsAfter n ss vs i → (s : Signal) × (slice_get ss i ≡ Some s)
signal_there zero ss vs i h = (h.0, h.1)
signal_there (suc n) ss vs i h = (h.1.signal, h.1.at)

is_within : (n : ℕ) (ss : List Signal) (vs : List (Option ℤ)) (i : ℕ) → EndsAfter n ss vs i → i < length ss
is_within n ss vs i h = slice_get_within ss i (signal_there n ss vs i h).0 (signal_there n ss vs i h).1

-- ---- a chain that ends has no signal twice

-- the chain from signal q ends after at most so many steps
abbrev EndsSoon : ℕ → List Signal → List (Option ℤ) → ℕ → Type 0
EndsSoon n ss vs q = (m : ℕ) × (m ≤ n) × EndsAfter m ss vs q

-- the signals of a chain of so many steps
record OnChain (n : ℕ) (ss : List Signal) (vs : List (Option ℤ)) : Type 0 where
  members : List ℕ
  many : length members ≡ suc n
  distinct : IsDistinct eqb members
  soon : AllByRecursion (EndsSoon n ss vs) members

other_number : (i q : ℕ) → (i ≡ q → ⊥) → eqb i q ≡ false
other_number i q apart = elim (eqb i q) as (λ b. eqb i q ≡ b → eqb i q ≡ false) [ true ↦ λ e. absurd (apart (grind (arith, nat_tests))) | false ↦ λ e. e ] refl

none_again : (n : ℕ) (ss : List Signal) (vs : List (Option ℤ)) (i : ℕ) → EndsAfter (suc n) ss vs i → (qs : List ℕ) → AllByRecursion (EndsSoon n ss vs) qs → AllByRecursion (λ q. eqb i q ≡ false) qs
none_again n ss vs i h [] all = tt
none_again n ss vs i h (q ∷ qs) all = (other_number i q (λ e. once e all.0), none_again n ss vs i h qs all.1) where
  once : i ≡ q → EndsSoon n ss vs q → ⊥
  once e soon =
      let same : suc n ≡ soon.0 = one_length (suc n) soon.0 ss vs i h (subst (EndsAfter soon.0 ss vs) (sym e) soon.2) in
      let le : soon.0 ≤ n = soon.1 in
      omega arith

later : (n : ℕ) (ss : List Signal) (vs : List (Option ℤ)) (qs : List ℕ) → AllByRecursion (EndsSoon n ss vs) qs → AllByRecursion (EndsSoon (suc n) ss vs) qs
later n ss vs [] all = tt
later n ss vs (q ∷ qs) all = (let le : all.0.0 ≤ n = all.0.1 in (all.0.0, omega arith, all.0.2), later n ss vs qs all.1)

on_chain : (n : ℕ) (ss : List Signal) (vs : List (Option ℤ)) (i : ℕ) → EndsAfter n ss vs i → OnChain n ss vs
unfolding IsDistinct
on_chain zero ss vs i h = record {
  members = i ∷ [];
  many = refl;
  distinct = (tt, tt);
  soon = ((zero, omega arith, h), tt);
}
on_chain (suc n) ss vs i h =
    let below : OnChain n ss vs = on_chain n ss vs h.0 h.2 in
    record {
      members = i ∷ below.members;
      many = ap suc below.many;
      distinct = (none_again n ss vs i h below.members below.soon, below.distinct);
      soon = ((suc n, omega arith, h), later n ss vs below.members below.soon);
    }

in_one : (n : ℕ) (ss : List Signal) (vs : List (Option ℤ)) (q p : ℕ) (ps : List ℕ) → EndsSoon n ss vs p → (list_any (eqb q) ps ≡ true → q < length ss) → (b : Bool) → eqb q p ≡ b → (b || list_any (eqb q) ps) ≡ true → q < length ss
in_one n ss vs q p ps h more true same e = let is : p ≡ q = grind (arith, nat_tests) in subst (λ k. k < length ss) is (is_within h.0 ss vs p h.2)
in_one n ss vs q p ps h more false same e = more e

all_within : (n : ℕ) (ss : List Signal) (vs : List (Option ℤ)) (qs : List ℕ) → AllByRecursion (EndsSoon n ss vs) qs → (q : ℕ) → list_any (eqb q) qs ≡ true → q < length ss
all_within n ss vs [] all q e = absurd (cc)
all_within n ss vs (p ∷ ps) all q e = in_one n ss vs q p ps all.0 (all_within n ss vs ps all.1 q) (eqb q p) refl e

pub is_short : (n : ℕ) (ss : List Signal) (vs : List (Option ℤ)) (i : ℕ) → EndsAfter n ss vs i → n < length ss
is_short n ss vs i h =
    let all : OnChain n ss vs = on_chain n ss vs i h in
    let many : length all.members ≡ suc n = all.many in
    let le : length all.members ≤ length ss = length-le_from_distinct_below all.members (length ss) all.distinct (all_within n ss vs all.members all.soon) in
    omega arith

-- ---- active, by the number of steps

-- what stands above a signal of this parent, where at most so many signals are left
abbrev Above : ℕ → List Signal → List (Option ℤ) → Option Parent → Type 0
Above n ss vs o = MatchOption o (Unit {0}) (λ p. (j : ℕ) × (p.selector ≡ Some j) × IsSomeAnd (value_at vs j) (λ v. lies_in p.ranges v ≡ true) × EndsActive n ss vs j)

above_steps : (n : ℕ) (ss : List Signal) (vs : List (Option ℤ)) (i : ℕ) (s : Signal) → slice_get ss i ≡ Some s → ((j : ℕ) → EndsActive n ss vs j → (m : ℕ) × EndsAfter m ss vs j)
    → (o : Option Parent) → s.parent ≡ o → Above n ss vs o → (m : ℕ) × EndsAfter m ss vs i
above_steps n ss vs i s at more None e a = (zero, (s, at, e))
above_steps n ss vs i s at more (Some p) e a =
    let rest : (m : ℕ) × EndsAfter m ss vs a.0 = more a.0 a.3 in
    (suc rest.0, (a.0, record { signal = s; parent = p; at = at; below = e; selector = a.1; value = a.2 }, rest.1))

active_steps : (n : ℕ) (ss : List Signal) (vs : List (Option ℤ)) (i : ℕ) → EndsActive n ss vs i → (m : ℕ) × EndsAfter m ss vs i
active_steps zero ss vs i h = absurd h
active_steps (suc n) ss vs i h =
    let s : (x : Signal) × (slice_get ss i ≡ Some x) × Above n ss vs x.parent = some_and (λ x. Above n ss vs x.parent) (slice_get ss i) h in
    above_steps n ss vs i s.0 s.1 (active_steps n ss vs) s.0.parent refl s.2

steps_active : (n : ℕ) (ss : List Signal) (vs : List (Option ℤ)) (i : ℕ) → EndsAfter n ss vs i → EndsActive (suc n) ss vs i
steps_active zero ss vs i h =
    let above : Above zero ss vs h.0.parent = subst (Above zero ss vs) (sym h.2) tt in
    and_some (λ x. Above zero ss vs x.parent) (slice_get ss i) h.0 h.1 above
steps_active (suc n) ss vs i h =
    let a : Asks ss vs i h.0 = h.1 in
    let is : Above (suc n) ss vs (Some a.parent) = (h.0, a.selector, a.value, steps_active n ss vs h.0 h.2) in
    let above : Above (suc n) ss vs a.signal.parent = subst (Above (suc n) ss vs) (sym a.below) is in
    and_some (λ x. Above (suc n) ss vs x.parent) (slice_get ss i) a.signal a.at above

-- as `IsActive`, of the signals of a message
abbrev pub Active : List Signal → List (Option ℤ) → ℕ → Type 0
Active ss vs i = (n : ℕ) × EndsActive n ss vs i

pub active-from_steps : (n : ℕ) (ss : List Signal) (vs : List (Option ℤ)) (i : ℕ) → EndsAfter n ss vs i → Active ss vs i
active-from_steps n ss vs i h = (suc n, steps_active n ss vs i h)

pub steps-from_active : (ss : List Signal) (vs : List (Option ℤ)) (i : ℕ) → Active ss vs i → (n : ℕ) × EndsAfter n ss vs i
steps-from_active ss vs i h = active_steps h.0 ss vs i h.1

-- ---- a walk up the chain

-- so many steps lead from signal i to signal k, where each selector asked for the signal below it
pub record Climbed (ss : List Signal) (vs : List (Option ℤ)) (i count k : ℕ) : Type 0 where
  pub up : (n : ℕ) → EndsAfter n ss vs k → EndsAfter (n + count) ss vs i
  pub down : (n : ℕ) → EndsAfter n ss vs i → (m : ℕ) × (n ≡ m + count) × EndsAfter m ss vs k

pub no_steps : (ss : List Signal) (vs : List (Option ℤ)) (i : ℕ) → Climbed ss vs i 0 i
no_steps ss vs i = record {
  up = λ n h. let same : n ≡ n + 0 = omega arith in subst (λ k. EndsAfter k ss vs i) same h;
  down = λ n h. (n, omega arith, h);
}

pub one_step : (ss : List Signal) (vs : List (Option ℤ)) (i count k j : ℕ) → Climbed ss vs i count k → Asks ss vs k j → Climbed ss vs i (count + 1) j
one_step ss vs i count k j c a = record {
  up = λ n h. let same : suc n + count ≡ n + (count + 1) = omega arith in subst (λ l. EndsAfter l ss vs i) same (c.up (suc n) (j, a, h));
  down = λ n h. let d : (m : ℕ) × (n ≡ m + count) × EndsAfter m ss vs k = c.down n h in below n d.0 d.1 d.2;
} where
  below : (n m : ℕ) → n ≡ m + count → EndsAfter m ss vs k → (l : ℕ) × (n ≡ l + (count + 1)) × EndsAfter l ss vs j
  below n zero e h = absurd (no_selector ss vs k j h a)
  below n (suc m) e h = (m, omega arith, subst (EndsAfter m ss vs) (one_selector ss vs k h.0 j h.1 a) h.2)

broken : (ss : List Signal) (vs : List (Option ℤ)) (i count k : ℕ) → Climbed ss vs i count k → ¬ IsTop ss k → ((j : ℕ) → ¬ Asks ss vs k j) → ¬ Active ss vs i
broken ss vs i count k c top asks h =
    let steps : (n : ℕ) × EndsAfter n ss vs i = steps-from_active ss vs i h in
    let d : (l : ℕ) × (steps.0 ≡ l + count) × EndsAfter l ss vs k = c.down steps.0 steps.1 in
    by d.0 d.2 where
      by : (l : ℕ) → EndsAfter l ss vs k → ⊥
      by zero h = top h
      by (suc l) h = asks h.0 h.1

-- ---- how a walk ends

pub at_top : (ss : List Signal) (vs : List (Option ℤ)) (i count k : ℕ) (s : Signal) → Climbed ss vs i count k → slice_get ss k ≡ Some s → s.parent ≡ None → Active ss vs i
at_top ss vs i count k s c at top = active-from_steps (0 + count) ss vs i (c.up 0 (s, at, top))

pub at_none : (ss : List Signal) (vs : List (Option ℤ)) (i count k : ℕ) → Climbed ss vs i count k → slice_get ss k ≡ None → ¬ Active ss vs i
at_none ss vs i count k c none = broken ss vs i count k c (λ t. let at : slice_get ss k ≡ Some t.0 = t.1 in absurd (cc)) (λ j h. let at : slice_get ss k ≡ Some h.signal = h.at in absurd (cc))

pub at_child : (ss : List Signal) (vs : List (Option ℤ)) (i count k : ℕ) (s : Signal) (p : Parent) → Climbed ss vs i count k → slice_get ss k ≡ Some s → s.parent ≡ Some p
    → ((j : ℕ) → p.selector ≡ Some j → ¬ IsSomeAnd (value_at vs j) (λ v. lies_in p.ranges v ≡ true)) → ¬ Active ss vs i
at_child ss vs i count k s p c at below value = broken ss vs i count k c top asks where
  top : ¬ IsTop ss k
  top t =
      let same : t.0 ≡ s = cc (sym t.1 ∙ at) in
      let parents : None ≡ Some p = sym t.2 ∙ ap (λ x. x.parent) same ∙ below in
      absurd (cc)

  asks : (j : ℕ) → ¬ Asks ss vs k j
  asks j h =
      let same : h.signal ≡ s = cc (sym h.at ∙ at) in
      let parents : h.parent ≡ p = cc (sym h.below ∙ ap (λ x. x.parent) same ∙ below) in
      value j (ap (λ x. x.selector) (sym parents) ∙ h.selector) (subst (λ x. IsSomeAnd (value_at vs j) (λ v. lies_in x.ranges v ≡ true)) parents h.value)

pub too_far : (ss : List Signal) (vs : List (Option ℤ)) (i count k : ℕ) → Climbed ss vs i count k → length ss ≤ count → ¬ Active ss vs i
too_far ss vs i count k c le h =
    let steps : (n : ℕ) × EndsAfter n ss vs i = steps-from_active ss vs i h in
    let d : (l : ℕ) × (steps.0 ≡ l + count) × EndsAfter l ss vs k = c.down steps.0 steps.1 in
    let is : steps.0 ≡ d.0 + count = d.1 in
    let lt : steps.0 < length ss = is_short steps.0 ss vs i steps.1 in
    absurd (omega arith)
