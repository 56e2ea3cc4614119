-- Values that are read bit by bit, and which of them stay where the signals without activity lose theirs.
use Rattle.std.proofs.Common.{◌≡◌, ◌≢◌, ◌⊎◌, inl, inr, ℕ, zero, suc, ◌+◌, ◌*◌, ◌%◌, ◌^◌, ◌<◌, ◌≤◌, Bool, true, false, List, [], ◌∷◌, length, Option, Some, None, refl, sym, subst, ap, ◌∙◌, ℤ, arith}
use Rattle.std.proofs.lemmas.Option.{slice_get_within, slice_get_past}
use Rattle.std.proofs.lemmas.List.{length-set}
use Rattle.std.proofs.Math.Nat.{mod-eq_of_lt}
use Rattle.std.proofs.Math.Pow.{pow_mono}
use Rattle.std.specs.Prelude.{slice_get, IsSomeAnd, if◌then◌else◌, slice_set, option_and_then}
use Rattle.can_model.specs.declared.database.Message.{Message}
use Rattle.can_model.specs.declared.database.Signal.{Signal}
use Rattle.can_model.specs.Active.{lies_in, value_at, IsActive}
use Rattle.can_model.specs.Place.{place_of, IsPlaced}
use Rattle.can_model.specs.Frame.{sum_of_bits, value_in, AreRawValues}
use Rattle.can_model.proofs.Elements.{and_some, if_some, some_if}
use Rattle.can_model.proofs.Chains.{Asks, EndsAfter, signal_there, active-from_steps, steps-from_active}
use Rattle.frame_codec.proofs.Putting.{below_or_from}
use Rattle.frame_codec.specs.Reads.{HasRead, DropsInactive}

value_set_same : (vs : List (Option ℤ)) (n : ℕ) (o : Option ℤ) → n < length vs → value_at (slice_set vs n o) n ≡ o
value_set_same [] n o lt = absurd (omega arith)
value_set_same (v ∷ vs) zero o lt = refl
value_set_same (v ∷ vs) (suc n) o lt = let less : suc n < suc (length vs) = lt in value_set_same vs n o (omega arith)

value_set_other : (vs : List (Option ℤ)) (n i : ℕ) (o : Option ℤ) → i ≢ n → value_at (slice_set vs n o) i ≡ value_at vs i
value_set_other [] n i o apart = refl
value_set_other (v ∷ vs) zero zero o apart = absurd (apart refl)
value_set_other (v ∷ vs) zero (suc i) o apart = refl
value_set_other (v ∷ vs) (suc n) zero o apart = refl
value_set_other (v ∷ vs) (suc n) (suc i) o apart = value_set_other vs n i o (λ e. apart (ap suc e))

-- ---- a value, bit by bit

one_more : (x n : ℕ) (b : Bool) → x < 2 ^ n → x + (if b then 2 ^ n else 0) < 2 ^ suc n
one_more x n true lt = omega arith
one_more x n false lt = omega arith

-- so many bits make a number below that power of two
pub sum-lt : (bit : ℕ → Bool) (n : ℕ) → sum_of_bits bit n < 2 ^ n
sum-lt bit zero = omega arith
sum-lt bit (suc n) = one_more (sum_of_bits bit n) n (bit n) (sum-lt bit n)

-- one more bit of a number of 64 bits
pub bit_fits : (x k : ℕ) → x < 2 ^ k → k < 64 → x + 1 * 2 ^ k % 18446744073709551616 < 18446744073709551616
bit_fits x k lt below =
    let more : 2 ^ suc k ≤ 2 ^ 64 = pow_mono below in
    let less : 1 * 2 ^ k < 18446744073709551616 = omega arith in
    let is : 1 * 2 ^ k % 18446744073709551616 ≡ 1 * 2 ^ k = mod-eq_of_lt less in
    omega arith

pub more_bytes : (s : Signal) (a b : ℕ) → IsPlaced s a → a ≤ b → IsPlaced s b
more_bytes s a b h le = record { bits = h.bits; start = h.start; inside = λ k lt. let within : place_of s k < 8 * a = h.inside k lt in omega arith }

pub one_read : (m : Message) (bytes : List ℕ) (n : ℕ) (s : Signal) (now : List (Option ℤ)) → HasRead m bytes n now → slice_get m.signals n ≡ Some s → HasRead m bytes (n + 1) (slice_set now n (Some (value_in bytes s)))
one_read m bytes n s now h at = record {
  size = length-set now n (Some (value_in bytes s)) ∙ h.size;
  values_are = λ i lt. some_if (λ t. value_at (slice_set now n (Some (value_in bytes s))) i ≡ Some (value_in bytes t)) (slice_get m.signals i) (λ t there. elim (below_or_from i n) [
    | inl less ↦ value_set_other now n i (Some (value_in bytes s)) (omega arith) ∙ if_some (λ u. value_at now i ≡ Some (value_in bytes u)) (slice_get m.signals i) t there (h.values_are i less)
    | inr le ↦
        let same : n ≡ i = omega arith in
        let signal : s ≡ t = cc (sym at ∙ ap (slice_get m.signals) same ∙ there) in
        let within : n < length now = subst (λ k. n < k) (sym h.size) (slice_get_within m.signals n s at) in
        ap (value_at (slice_set now n (Some (value_in bytes s)))) (sym same) ∙ value_set_same now n (Some (value_in bytes s)) within ∙ ap (λ u. Some (value_in bytes u)) signal
  ]);
}

-- ---- activity where inactive signals have no value

-- each signal has its value as before, or it is not active and has none
abbrev pub AreThinned : Message → List (Option ℤ) → List (Option ℤ) → Type 0
AreThinned m old now = (i : ℕ) → (value_at now i ≡ value_at old i) ⊎ ((value_at now i ≡ None) × (¬ IsActive m old i))

thinned_down : (n : ℕ) (m : Message) (old now : List (Option ℤ)) (i : ℕ) → AreThinned m old now → EndsAfter n m.signals now i → EndsAfter n m.signals old i
thinned_down zero m old now i t h = h
thinned_down (suc n) m old now i t h = (h.0, asks, thinned_down n m old now h.0 t h.2) where
  a : Asks m.signals now i h.0
  a = h.1

  asks : Asks m.signals old i h.0
  asks = elim (t h.0) [
    | inl same ↦ record { signal = a.signal; parent = a.parent; at = a.at; below = a.below; selector = a.selector; value = subst (λ o. IsSomeAnd o (λ v. lies_in a.parent.ranges v ≡ true)) same a.value }
    | inr none ↦ absurd (subst (λ o. IsSomeAnd o (λ v. lies_in a.parent.ranges v ≡ true)) none.0 a.value)
  ]

thinned_up : (n : ℕ) (m : Message) (old now : List (Option ℤ)) (i : ℕ) → AreThinned m old now → EndsAfter n m.signals old i → EndsAfter n m.signals now i
thinned_up zero m old now i t h = h
thinned_up (suc n) m old now i t h = (h.0, asks, thinned_up n m old now h.0 t h.2) where
  a : Asks m.signals old i h.0
  a = h.1

  asks : Asks m.signals now i h.0
  asks = elim (t h.0) [
    | inl same ↦ record { signal = a.signal; parent = a.parent; at = a.at; below = a.below; selector = a.selector; value = subst (λ o. IsSomeAnd o (λ v. lies_in a.parent.ranges v ≡ true)) (sym same) a.value }
    | inr none ↦ absurd (none.1 (active-from_steps n m.signals old h.0 h.2))
  ]

pub active_before : (m : Message) (old now : List (Option ℤ)) (i : ℕ) → AreThinned m old now → IsActive m now i → IsActive m old i
active_before m old now i t h =
    let steps : (n : ℕ) × EndsAfter n m.signals now i = steps-from_active m.signals now i h in
    active-from_steps steps.0 m.signals old i (thinned_down steps.0 m old now i t steps.1)

pub active_after : (m : Message) (old now : List (Option ℤ)) (i : ℕ) → AreThinned m old now → IsActive m old i → IsActive m now i
active_after m old now i t h =
    let steps : (n : ℕ) × EndsAfter n m.signals old i = steps-from_active m.signals old i h in
    active-from_steps steps.0 m.signals now i (thinned_up steps.0 m old now i t steps.1)

-- ---- one signal after the other

thinned : (m : Message) (old now : List (Option ℤ)) (n : ℕ) → DropsInactive m old n now → AreThinned m old now
thinned m old now n d i = elim (below_or_from i n) [
  | inl lt ↦ elim (d.done i lt) [ inl a ↦ inl a.1 | inr a ↦ inr (a.1, a.0) ]
  | inr le ↦ inl (d.later i le)
]

pub none_done : (m : Message) (old : List (Option ℤ)) → DropsInactive m old 0 old
none_done m old = record {
  size = refl;
  done = λ i lt. absurd (omega arith);
  later = λ i le. refl;
}

pub active_done : (m : Message) (old now : List (Option ℤ)) (n : ℕ) → DropsInactive m old n now → IsActive m now n → DropsInactive m old (n + 1) now
active_done m old now n d active = record {
  size = d.size;
  done = λ i lt. elim (below_or_from i n) [
    | inl less ↦ d.done i less
    | inr le ↦ let same : n ≡ i = omega arith in inl (active_before m old now i (thinned m old now n d) (subst (IsActive m now) same active), d.later i le)
  ];
  later = λ i le. let less : n + 1 ≤ i = le in d.later i (omega arith);
}

pub inactive_done : (m : Message) (old now : List (Option ℤ)) (n : ℕ) → DropsInactive m old n now → n < length now → ¬ IsActive m now n → DropsInactive m old (n + 1) (slice_set now n None)
inactive_done m old now n d within none = record {
  size = length-set now n None ∙ d.size;
  done = λ i lt. elim (below_or_from i n) [
    | inl less ↦ elim (d.done i less) [ inl a ↦ inl (a.0, value_set_other now n i None (omega arith) ∙ a.1) | inr a ↦ inr (a.0, value_set_other now n i None (omega arith) ∙ a.1) ]
    | inr le ↦ let same : n ≡ i = omega arith in inr (λ a. none (active_after m old now n (thinned m old now n d) (subst (IsActive m old) (sym same) a)), ap (value_at (slice_set now n None)) (sym same) ∙ value_set_same now n None within)
  ];
  later = λ i le. let less : n + 1 ≤ i = le in value_set_other now n i None (omega arith) ∙ d.later i (omega arith);
}

past_none : (vs : List (Option ℤ)) (i : ℕ) → length vs ≤ i → value_at vs i ≡ None
past_none vs i le = ap (option_and_then (λ v. v)) (slice_get_past vs i le)

pub raw_values : (m : Message) (bytes : List ℕ) (old new : List (Option ℤ)) → HasRead m bytes (length m.signals) old → DropsInactive m old (length old) new → AreRawValues m bytes new
raw_values m bytes old new h d = record { size = d.size ∙ h.size; active = active; inactive = inactive } where
  t : AreThinned m old new
  t = thinned m old new (length old) d

  sizes : length old ≡ length m.signals
  sizes = h.size

  same_size : length new ≡ length old
  same_size = d.size

  active : (i : ℕ) → IsActive m new i → IsSomeAnd (slice_get m.signals i) (λ s. value_at new i ≡ Some (value_in bytes s))
  active i a =
      let before : IsActive m old i = active_before m old new i t a in
      let steps : (n : ℕ) × EndsAfter n m.signals old i = steps-from_active m.signals old i before in
      let there : (s : Signal) × (slice_get m.signals i ≡ Some s) = signal_there steps.0 m.signals old i steps.1 in
      let lt : i < length m.signals = slice_get_within m.signals i there.0 there.1 in
      let read : value_at old i ≡ Some (value_in bytes there.0) = if_some (λ s. value_at old i ≡ Some (value_in bytes s)) (slice_get m.signals i) there.0 there.1 (h.values_are i lt) in
      let kept : value_at new i ≡ value_at old i = elim (d.done i (omega arith)) [ inl k ↦ k.1 | inr k ↦ absurd (k.0 before) ] in
      and_some (λ s. value_at new i ≡ Some (value_in bytes s)) (slice_get m.signals i) there.0 there.1 (kept ∙ read)

  inactive : (i : ℕ) → ¬ IsActive m new i → value_at new i ≡ None
  inactive i none = elim (below_or_from i (length old)) [
    | inl lt ↦ elim (d.done i lt) [ inl k ↦ absurd (none (active_after m old new i t k.0)) | inr k ↦ k.1 ]
    | inr le ↦ past_none new i (omega arith)
  ]
