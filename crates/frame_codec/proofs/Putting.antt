-- A value that is put into a frame bit by bit, and the values of a message one by one.
use Rattle.std.proofs.Common.{◌≡◌, ◌⊎◌, inl, inr, ℕ, zero, suc, ◌+◌, ◌/◌, ◌%◌, ◌<◌, ◌≤◌, Bool, true, false, nat_lt, List, [], ◌∷◌, length, get_or, replicate, map, ap, Option, Some, refl, sym, subst, ◌∙◌, ℤ, arith}
use Rattle.std.proofs.lemmas.Bool.Decides.{nat_tests}
use Rattle.std.proofs.lemmas.List.{length-replicate, get_or-replicate, get_or_past}
use Rattle.std.proofs.lemmas.Nat.Bits.{bit_at-zero}
use Rattle.std.proofs.lemmas.Option.{slice_get_within}
use Rattle.std.specs.Int.{bit_at}
use Rattle.std.specs.List.{AllByRecursion}
use Rattle.std.specs.Prelude.{◌||◌, ◌==◌, slice_get, IsSomeAnd}
use Rattle.can_model.specs.declared.database.Message.{Message}
use Rattle.can_model.specs.declared.database.Signal.{Signal}
use Rattle.can_model.specs.Place.{IsAt}
use Rattle.can_model.specs.Active.{value_at, IsActive}
use Rattle.can_model.specs.Frame.{is_one, has_bit, has_bit_in, IsSet, IsFrame}
use Rattle.can_model.proofs.Elements.{some_and, and_some}
use Rattle.frame_codec.specs.Ones.{AreBytes, AddsOnes, IsBitBelow, IsSetBelow}

pub below_or_from : (k n : ℕ) → (k < n) ⊎ (n ≤ k)
below_or_from k n = by (nat_lt k n) refl where
  by : (b : Bool) → nat_lt k n ≡ b → (k < n) ⊎ (n ≤ k)
  by true e = inl (grind (arith, nat_tests))
  by false e = inr (grind (arith, nat_tests))

below_or_last : (k n : ℕ) → k < n + 1 → (k < n) ⊎ (k ≡ n)
below_or_last k n lt = by (nat_lt k n) refl where
  by : (b : Bool) → nat_lt k n ≡ b → (k < n) ⊎ (k ≡ n)
  by true e = inl (grind (arith, nat_tests))
  by false e = inr (grind (arith, nat_tests))

-- ---- bit by bit

pub no_bit : (s : Signal) (v : ℤ) (bytes : List ℕ) → AddsOnes bytes bytes (IsBitBelow s v 0)
no_bit s v bytes = record {
  size = refl;
  bytes = λ h. h;
  bits = λ p. (λ h. inl h, λ h. elim h [ inl a ↦ a | inr b ↦ let lt : b.0 < 0 = b.1 in absurd (omega arith) ]);
}

pub bit_is_0 : (s : Signal) (v : ℤ) (n : ℕ) (old now : List ℕ) → AddsOnes old now (IsBitBelow s v n) → has_bit_in v n ≡ false → AddsOnes old now (IsBitBelow s v (n + 1))
bit_is_0 s v n old now a none = record {
  size = a.size;
  bytes = a.bytes;
  bits = λ p. (
    λ h. elim ((a.bits p).0 h) [ inl b ↦ inl b | inr b ↦ let lt : b.0 < n = b.1 in inr (b.0, omega arith, b.2, b.3) ],
    λ h. (a.bits p).1 (elim h [ inl b ↦ inl b | inr b ↦ inr (fewer p b) ]),
  );
} where
  fewer : (p : ℕ) → IsBitBelow s v (n + 1) p → IsBitBelow s v n p
  fewer p b = elim (below_or_last b.0 n b.1) [ inl lt ↦ (b.0, lt, b.2, b.3) | inr e ↦ let bit : has_bit_in v b.0 ≡ true = b.3 in absurd (cc) ]

or_left : (a b : Bool) → a ≡ true → (a || b) ≡ true
or_left a b e = cc

either : (a : Bool) (p q : ℕ) → (a || p == q) ≡ true → (a ≡ true) ⊎ (p ≡ q)
either true p q h = inl refl
either false p q h = inr (grind (arith, nat_tests))

or_right : (a : Bool) (p q : ℕ) → p ≡ q → (a || p == q) ≡ true
or_right true p q e = refl
or_right false p q e = grind (arith, nat_tests)

pub bit_is_1 : (s : Signal) (v : ℤ) (n at : ℕ) (old now new : List ℕ) → AddsOnes old now (IsBitBelow s v n) → length new ≡ length now → (AreBytes now → AreBytes new) → ((p : ℕ) → is_one new p ≡ (is_one now p || p == at))
    → IsAt s n at → ((p : ℕ) → IsAt s n p → p ≡ at) → has_bit_in v n ≡ true → AddsOnes old new (IsBitBelow s v (n + 1))
bit_is_1 s v n at old now new a size bytes put is only bit = record {
  size = size ∙ a.size;
  bytes = λ h. bytes (a.bytes h);
  bits = λ p. (
    λ h. elim (either (is_one now p) p at (sym (put p) ∙ h)) [ inl b ↦ more p ((a.bits p).0 b) | inr e ↦ inr (n, omega arith, subst (IsAt s n) (sym e) is, bit) ],
    λ h. put p ∙ elim h [ inl b ↦ or_left (is_one now p) (p == at) ((a.bits p).1 (inl b)) | inr b ↦ last p b ],
  );
} where
  more : (p : ℕ) → (is_one old p ≡ true) ⊎ IsBitBelow s v n p → (is_one old p ≡ true) ⊎ IsBitBelow s v (n + 1) p
  more p (inl b) = inl b
  more p (inr b) = let lt : b.0 < n = b.1 in inr (b.0, omega arith, b.2, b.3)

  last : (p : ℕ) → IsBitBelow s v (n + 1) p → (is_one now p || p == at) ≡ true
  last p b = elim (below_or_last b.0 n b.1) [
    | inl lt ↦ or_left (is_one now p) (p == at) ((a.bits p).1 (inr (b.0, lt, b.2, b.3)))
    | inr e ↦ or_right (is_one now p) p at (only p (subst (λ k. IsAt s k p) e b.2))
  ]

-- ---- signal by signal

pub no_signal : (m : Message) (values : List (Option ℤ)) (bytes : List ℕ) → AddsOnes bytes bytes (IsSetBelow m values 0)
no_signal m values bytes = record {
  size = refl;
  bytes = λ h. h;
  bits = λ p. (λ h. inl h, λ h. elim h [ inl a ↦ a | inr b ↦ let lt : b.0 < 0 = b.1 in absurd (omega arith) ]);
}

pub inactive_signal : (m : Message) (values : List (Option ℤ)) (n : ℕ) (old now : List ℕ) → AddsOnes old now (IsSetBelow m values n) → ¬ IsActive m values n → AddsOnes old now (IsSetBelow m values (n + 1))
inactive_signal m values n old now a none = record {
  size = a.size;
  bytes = a.bytes;
  bits = λ p. (
    λ h. elim ((a.bits p).0 h) [ inl b ↦ inl b | inr b ↦ let lt : b.0 < n = b.1 in inr (b.0, omega arith, b.2, b.3) ],
    λ h. (a.bits p).1 (elim h [ inl b ↦ inl b | inr b ↦ inr (fewer p b) ]),
  );
} where
  fewer : (p : ℕ) → IsSetBelow m values (n + 1) p → IsSetBelow m values n p
  fewer p b = elim (below_or_last b.0 n b.1) [ inl lt ↦ (b.0, lt, b.2, b.3) | inr e ↦ absurd (none (subst (IsActive m values) e b.2)) ]

pub active_signal : (m : Message) (values : List (Option ℤ)) (n : ℕ) (s : Signal) (v : ℤ) (old now new : List ℕ) → AddsOnes old now (IsSetBelow m values n) → AddsOnes now new (IsBitBelow s v s.length)
    → IsActive m values n → slice_get m.signals n ≡ Some s → value_at values n ≡ Some v → AddsOnes old new (IsSetBelow m values (n + 1))
active_signal m values n s v old now new a b active at value = record {
  size = b.size ∙ a.size;
  bytes = λ h. b.bytes (a.bytes h);
  bits = λ p. (
    λ h. elim ((b.bits p).0 h) [ inl c ↦ more p ((a.bits p).0 c) | inr c ↦ inr (n, omega arith, active, and_some (Has p n) (slice_get m.signals n) s at (and_some (λ w. IsBitBelow s w s.length p) (value_at values n) v value c)) ],
    λ h. (b.bits p).1 (elim h [ inl c ↦ inl ((a.bits p).1 (inl c)) | inr c ↦ last p c ]),
  );
} where
  Has : ℕ → ℕ → Signal → Type 0
  Has p i t = IsSomeAnd (value_at values i) (λ w. IsBitBelow t w t.length p)

  more : (p : ℕ) → (is_one old p ≡ true) ⊎ IsSetBelow m values n p → (is_one old p ≡ true) ⊎ IsSetBelow m values (n + 1) p
  more p (inl c) = inl c
  more p (inr c) = let lt : c.0 < n = c.1 in inr (c.0, omega arith, c.2, c.3)

  here : (p : ℕ) → IsSomeAnd (slice_get m.signals n) (Has p n) → IsBitBelow s v s.length p
  here p h =
      let signal : (t : Signal) × (slice_get m.signals n ≡ Some t) × Has p n t = some_and (Has p n) (slice_get m.signals n) h in
      let value_of : (w : ℤ) × (value_at values n ≡ Some w) × IsBitBelow signal.0 w signal.0.length p = some_and (λ w. IsBitBelow signal.0 w signal.0.length p) (value_at values n) signal.2 in
      let same : signal.0 ≡ s = cc (sym signal.1 ∙ at) in
      let equal : value_of.0 ≡ v = cc (sym value_of.1 ∙ value) in
      subst (λ t. IsBitBelow t v t.length p) same (subst (λ w. IsBitBelow signal.0 w signal.0.length p) equal value_of.2)

  last : (p : ℕ) → IsSetBelow m values (n + 1) p → (is_one now p ≡ true) ⊎ IsBitBelow s v s.length p
  last p c = elim (below_or_last c.0 n c.1) [
    | inl lt ↦ inl ((a.bits p).1 (inr (c.0, lt, c.2, c.3)))
    | inr e ↦ inr (here p (subst (λ i. IsSomeAnd (slice_get m.signals i) (Has p i)) e c.3))
  ]

-- each value of a list that has them all
pub value_of : (vs : List ℤ) (i : ℕ) (d : ℤ) → i < length vs → value_at (map Some vs) i ≡ Some (get_or vs i d)
value_of [] i d lt = absurd (omega arith)
value_of (v ∷ vs) zero d lt = refl
value_of (v ∷ vs) (suc i) d lt = let less : suc i < suc (length vs) = lt in value_of vs i d (omega arith)

-- ---- a frame

all_bytes : (xs : List ℕ) → AreBytes xs → AllByRecursion (λ b. b < 256) xs
all_bytes [] h = tt
all_bytes (x ∷ xs) h = (h 0, all_bytes xs (λ i. h (suc i)))

pub zero_at : (n i : ℕ) → get_or {A = ℕ} (replicate n 0) i 0 ≡ 0
zero_at n i = elim (below_or_from i n) [ inl lt ↦ get_or-replicate n i 0 0 lt | inr le ↦ get_or_past (replicate n 0) i 0 (subst (λ k. k ≤ i) (sym (length-replicate n 0)) le) ]

none_of_zeros : (n p : ℕ) → is_one (replicate n 0) p ≡ true → ⊥
none_of_zeros n p h =
    let is : is_one (replicate n 0) p ≡ has_bit 0 (p % 8) = ap (λ b. has_bit b (p % 8)) (zero_at n (p / 8)) in
    let zero_bit : bit_at 0 (p % 8) ≡ 0 = bit_at-zero (p % 8) in
    let no_bit : has_bit 0 (p % 8) ≡ false = ap (λ b. b == 1) zero_bit in
    absurd (cc (sym h ∙ is ∙ no_bit))

set_below : (m : Message) (values : List (Option ℤ)) (p : ℕ) → IsSet m values p → IsSetBelow m values (length m.signals) p
set_below m values p h =
    let place : (s : Signal) × (slice_get m.signals h.0 ≡ Some s) × ((h.1 < s.length) × IsAt s h.1 p) = some_and (λ s. (h.1 < s.length) × IsAt s h.1 p) (slice_get m.signals h.0) h.3 in
    let value : (v : ℤ) × (value_at values h.0 ≡ Some v) × (has_bit_in v h.1 ≡ true) = some_and (λ v. has_bit_in v h.1 ≡ true) (value_at values h.0) h.4 in
    let s : Signal = place.0 in (
      h.0,
      slice_get_within m.signals h.0 s place.1,
      h.2,
      and_some (λ t. IsSomeAnd (value_at values h.0) (λ v. IsBitBelow t v t.length p)) (slice_get m.signals h.0) s place.1
          (and_some (λ v. IsBitBelow s v s.length p) (value_at values h.0) value.0 value.1 (h.1, place.2.0, place.2.1, value.2)),
    )

below_set : (m : Message) (values : List (Option ℤ)) (n p : ℕ) → IsSetBelow m values n p → IsSet m values p
below_set m values n p h =
    let place : (s : Signal) × (slice_get m.signals h.0 ≡ Some s) × IsSomeAnd (value_at values h.0) (λ v. IsBitBelow s v s.length p) = some_and (λ s. IsSomeAnd (value_at values h.0) (λ v. IsBitBelow s v s.length p)) (slice_get m.signals h.0) h.3 in
    let s : Signal = place.0 in
    let value : (v : ℤ) × (value_at values h.0 ≡ Some v) × IsBitBelow s v s.length p = some_and (λ v. IsBitBelow s v s.length p) (value_at values h.0) place.2 in
    let bit : IsBitBelow s value.0 s.length p = value.2 in
    (h.0, bit.0, h.2, and_some (λ t. (bit.0 < t.length) × IsAt t bit.0 p) (slice_get m.signals h.0) s place.1 (bit.1, bit.2), and_some (λ v. has_bit_in v bit.0 ≡ true) (value_at values h.0) value.0 value.1 bit.3)

pub framed : (m : Message) (values : List (Option ℤ)) (n : ℕ) (bytes : List ℕ) → n ≡ m.length → AddsOnes (replicate n 0) bytes (IsSetBelow m values (length m.signals)) → IsFrame m values bytes
framed m values n bytes e a = record {
  size = a.size ∙ length-replicate n 0 ∙ e;
  are_bytes = all_bytes bytes (a.bytes (λ i. subst (λ b. b < 256) (sym (zero_at n i)) (omega arith)));
  bits = λ p lt. (λ h. elim ((a.bits p).0 h) [ inl z ↦ absurd (none_of_zeros n p z) | inr s ↦ below_set m values (length m.signals) p s ], λ h. (a.bits p).1 (inr (set_below m values p h)));
}
