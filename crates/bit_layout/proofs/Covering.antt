-- The segments by numbers tell the place of each bit, once.
use Rattle.std.proofs.Common.{◌≡◌, ℕ, zero, suc, ◌+◌, ◌-◌, ◌/◌, ◌<◌, ◌≤◌, ◌∷◌, length, map, refl, sym, ap, subst, arith}
use Rattle.std.specs.Prelude.{slice_get, IsSomeAnd, get_or}
use Rattle.std.specs.List.{range_with_len, AllByRecursion}
use Rattle.std.specs.List.Sorted.{IsStrictlyIncreasing}
use Rattle.std.proofs.lemmas.List.FromFn.{length-range_with_len, get_or-range_with_len}
use Rattle.can_model.specs.declared.database.Signal.{Signal}
use Rattle.can_model.specs.Place.{place_of}
use Rattle.bit_layout.specs.Covers.{HasBit, IsInOne, Covers, IsWithin, TellsPlaces}
use Rattle.bit_layout.specs.Segments.{segments_of}
use Rattle.bit_layout.specs.Numbers.{segments_by_numbers}
use Rattle.bit_layout.proofs.Places.{IsTouched, within, place, among, only, touched}
use Rattle.bit_layout.proofs.Grouping.{from_of, end_of, numbers, segments-by_numbers}

-- ---- lists over a range

all_of_range : {B : Type 0} (P : B → Type 0) (f : ℕ → B) (a n : ℕ) → ((k : ℕ) → a ≤ k → k < a + n → P (f k)) → AllByRecursion P (map f (range_with_len a n))
all_of_range P f a zero h = tt
all_of_range P f a (suc n) h = (h a (omega arith) (omega arith), all_of_range P f (a + 1) n (λ k hk lk. h k (omega arith) (omega arith)))

some_of_range : {B : Type 0} (P : B → Type 0) (f : ℕ → B) (a n i : ℕ) → i < n → P (f (a + i)) → IsSomeAnd (slice_get (map f (range_with_len a n)) i) P
some_of_range P f a zero i lt h = absurd (omega arith)
some_of_range P f a (suc n) zero lt h = let e : a + 0 ≡ a = omega arith in subst (λ k. P (f k)) e h
some_of_range P f a (suc n) (suc i) lt h = let e : a + suc i ≡ a + 1 + i = omega arith in some_of_range P f (a + 1) n i (omega arith) (subst (λ k. P (f k)) e h)

of_range_some : {B : Type 0} (P : B → Type 0) (f : ℕ → B) (a n i : ℕ) → IsSomeAnd (slice_get (map f (range_with_len a n)) i) P → (i < n) × P (f (a + i))
of_range_some P f a zero i h = absurd h
of_range_some P f a (suc n) zero h = let e : a ≡ a + 0 = omega arith in (omega arith, subst (λ k. P (f k)) e h)
of_range_some P f a (suc n) (suc i) h = let e : a + 1 + i ≡ a + suc i = omega arith in let w = of_range_some P f (a + 1) n i h in (omega (arith, w.0), subst (λ k. P (f k)) e w.1)

-- ---- segments

bytes_are : (s : Signal) (a n : ℕ) → map (λ g. g.byte) (map (numbers s) (range_with_len a n)) ≡ range_with_len a n
bytes_are s a zero = refl
bytes_are s a (suc n) = ap (λ l. a ∷ l) (bytes_are s (a + 1) n)

range_rises : (a n : ℕ) → IsStrictlyIncreasing (range_with_len a n)
range_rises a n k lt =
    let l : length (range_with_len a n) ≡ n = length-range_with_len a n in
    let x : get_or (range_with_len a n) k 0 ≡ a + k = get_or-range_with_len a n k 0 (omega arith) in
    let y : get_or (range_with_len a n) (k + 1) 0 ≡ a + (k + 1) = get_or-range_with_len a n (k + 1) 0 (omega arith) in
    omega arith

in_one : (s : Signal) (k : ℕ) → k < s.length → IsInOne (segments_by_numbers s) k
in_one s k lt =
    let first : ℕ = from_of s / 8 in
    let count : ℕ = end_of s - first in
    let byte : ℕ = place_of s k / 8 in
    let t : IsTouched (from_of s) s.length byte = touched s.motorola s.start s.length k lt in
    let low : first ≤ byte = t.low in
    let high : byte < end_of s = t.high in
    let at : byte ≡ first + (byte - first) = omega arith in (
      byte - first,
      some_of_range (HasBit k) (numbers s) first count (byte - first) (omega arith) (subst (λ b. HasBit k (numbers s b)) at (among s.motorola s.start s.length k lt)),
      λ j h. (let w = of_range_some (HasBit k) (numbers s) first count j h in
          let e : byte ≡ first + j = only s.motorola s.start s.length k (first + j) w.1 in
          omega arith),
    )

covers : (s : Signal) → Covers s (segments_by_numbers s)
covers s =
    let first : ℕ = from_of s / 8 in
    let count : ℕ = end_of s - first in
    record {
      within = all_of_range (IsWithin s.length) (numbers s) first count (λ byte low high. within s.motorola (from_of s) s.length byte (record { low = low; high = omega arith }));
      places = all_of_range (TellsPlaces s) (numbers s) first count (λ byte low high k h. place s.motorola s.start s.length byte k h);
      once = in_one s;
      rising = subst IsStrictlyIncreasing (sym (bytes_are s first count)) (range_rises first count);
    }

pub segments-cover : (s : Signal) → Covers s (segments_of s)
segments-cover s = subst (Covers s) (sym (segments-by_numbers s)) (covers s)
