-- The parts of a signal's segments, joined, are the sum of its bits.
use Rattle.std.proofs.Common.{◌≡◌, ℕ, zero, suc, ◌+◌, ◌-◌, ◌*◌, ◌/◌, ◌%◌, ◌^◌, ◌<◌, ◌≤◌, Bool, true, false, List, [], ◌∷◌, get_or, inl, inr, refl, sym, ap, ◌∙◌, arith}
use Rattle.std.specs.Prelude.{bit_or, ◌==◌, if◌then◌else◌, slice_get, IsSomeAnd}
use Rattle.std.specs.Int.{bit_at}
use Rattle.std.specs.List.{AllByRecursion}
use Rattle.std.proofs.lemmas.Nat.{or_lt}
use Rattle.std.proofs.lemmas.Nat.Bits.{bit_at_or, bit_at-lt, bit_at-zero, bit_at_cat_low, bit_at_cat_high, same_from_bits_below}
use Rattle.std.proofs.lemmas.Bool.Decides.{leb_tells}
use Rattle.std.proofs.Math.Pow.{pow_pos}
use Rattle.can_model.specs.declared.database.Signal.{Signal}
use Rattle.can_model.specs.Place.{place_of}
use Rattle.can_model.specs.Frame.{sum_of_bits, signal_bit}
use Rattle.frame_codec.proofs.Getting.{sum-lt}
use Rattle.bit_layout.specs.declared.walk.Segment.{Segment}
use Rattle.bit_layout.specs.Covers.{IsWithin, HasBit, TellsPlaces, Covers}
use Rattle.gen_unpack.proofs.SegmentParts.{part, part-small, part-inside, part-below, part-above}

abbrev pub number_of : Bool → ℕ
number_of b = if b then 1 else 0

number-back : (n : ℕ) → n < 2 → number_of (n == 1) ≡ n
number-back zero h = refl
number-back (suc zero) h = refl
number-back (suc (suc n)) h = absurd (omega arith)

-- ---- a sum of powers of two by its bits

one-digit : (b : Bool) (p r : ℕ) → r + (if b then p else 0) ≡ number_of b * p + r
one-digit true p r = omega arith
one-digit false p r = omega arith

lowest-digit : (b : Bool) → bit_at (number_of b) 0 ≡ number_of b
lowest-digit true = refl
lowest-digit false = refl

pub sum-bit : (f : ℕ → Bool) (n i : ℕ) → i < n → bit_at (sum_of_bits f n) i ≡ number_of (f i)
sum-bit f zero i h = absurd (omega arith)
sum-bit f (suc n) i h = ap (λ x. bit_at x i) (one-digit (f n) (2 ^ n) (sum_of_bits f n)) ∙ elim (leb_tells (suc i) n) [
  | inl a ↦ bit_at_cat_low (number_of (f n)) n (sum_of_bits f n) i (omega (arith, a.1)) ∙ sum-bit f n i (omega (arith, a.1))
  | inr a ↦
      let e : i ≡ n = omega (arith, a.1) in
      let z : n - n ≡ 0 = omega arith in
      rw e (bit_at_cat_high (number_of (f n)) n (sum_of_bits f n) n (sum-lt f n) (omega arith) ∙ rw z (lowest-digit (f n)))
]

-- ---- the parts of a signal

module _ (bytes : List ℕ) where
  abbrev pub part_of : Segment → ℕ
  part_of g = part g (get_or bytes g.byte 0)

  -- a number, and the parts of segments
  abbrev pub with_parts : ℕ → List Segment → ℕ
  with_parts x [] = x
  with_parts x (g ∷ gs) = with_parts (bit_or x (part_of g)) gs

  module _ (s : Signal) where
    -- the bit of the bytes that is bit k of the signal
    abbrev bit_of : ℕ → ℕ
    bit_of k = bit_at (get_or bytes (place_of s k / 8) 0) (place_of s k % 8)

    part-is : (g : Segment) (k : ℕ) → IsWithin s.length g → TellsPlaces s g → HasBit k g → bit_at (part_of g) k ≡ bit_of k
    part-is g k within told has =
        let place : place_of s k ≡ 8 * g.byte + g.byte_low + (k - g.signal_low) = told k has in
        let byte : place_of s k / 8 ≡ g.byte = omega (arith, within.in_byte, has.low, has.high) in
        let rest : place_of s k % 8 ≡ g.byte_low + (k - g.signal_low) = omega (arith, within.in_byte, has.low, has.high) in
        part-inside g (get_or bytes g.byte 0) k has ∙ rw (byte, rest) refl

    part-le : (g : Segment) (k : ℕ) → IsWithin s.length g → TellsPlaces s g → bit_at (part_of g) k ≤ bit_of k
    part-le g k within told = elim (leb_tells g.signal_low k) [
      | inr a ↦ (let e = part-below g (get_or bytes g.byte 0) k (omega (arith, a.1)) in omega arith)
      | inl a ↦ elim (leb_tells (suc k) (g.signal_low + g.count)) [
        | inl b ↦ (let e = part-is g k within told (record { low = a.1; high = b.1 }) in omega arith)
        | inr b ↦ (let e = part-above g (get_or bytes g.byte 0) k (omega (arith, b.1)) in omega arith)
      ]
    ]

    with-le : (k x : ℕ) (gs : List Segment) → AllByRecursion (IsWithin s.length) gs → AllByRecursion (TellsPlaces s) gs → bit_at x k ≤ bit_of k → bit_at (with_parts x gs) k ≤ bit_of k
    with-le k x [] within told le = le
    with-le k x (g ∷ gs) within told le =
        with-le k (bit_or x (part_of g)) gs within.1 told.1 (let e = bit_at_or x (part_of g) k in let p = part-le g k within.0 told.0 in omega arith)

    with-keeps : (k x b : ℕ) (gs : List Segment) → b ≤ bit_at x k → b ≤ bit_at (with_parts x gs) k
    with-keeps k x b [] le = le
    with-keeps k x b (g ∷ gs) le = with-keeps k (bit_or x (part_of g)) b gs (let e = bit_at_or x (part_of g) k in omega arith)

    with-has : (k x i : ℕ) (gs : List Segment) → AllByRecursion (IsWithin s.length) gs → AllByRecursion (TellsPlaces s) gs → IsSomeAnd (slice_get gs i) (HasBit k) → bit_of k ≤ bit_at (with_parts x gs) k
    with-has k x i [] within told has = absurd has
    with-has k x zero (g ∷ gs) within told has =
        with-keeps k (bit_or x (part_of g)) (bit_of k) gs (let e = bit_at_or x (part_of g) k in let p = part-is g k within.0 told.0 has in omega arith)
    with-has k x (suc i) (g ∷ gs) within told has = with-has k (bit_or x (part_of g)) i gs within.1 told.1 has

    pub with-small : (x : ℕ) (gs : List Segment) → AllByRecursion (IsWithin s.length) gs → x < 2 ^ s.length → with_parts x gs < 2 ^ s.length
    with-small x [] within small = small
    with-small x (g ∷ gs) within small =
        with-small (bit_or x (part_of g)) gs within.1 (or_lt s.length x (part_of g) small (part-small g (get_or bytes g.byte 0) s.length within.0.in_signal))

    abbrev pub bit_sum : ℕ
    bit_sum = sum_of_bits (signal_bit bytes s) s.length

    pub parts-sum : (gs : List Segment) → Covers s gs → with_parts 0 gs ≡ bit_sum
    parts-sum gs c = same_from_bits_below s.length _ _ (with-small 0 gs c.within (pow_pos s.length)) (sum-lt (signal_bit bytes s) s.length) (λ k lt.
        let z = bit_at-zero k in
        let one = c.once k lt in
        let le = with-le k 0 gs c.within c.places (omega arith) in
        let ge = with-has k 0 one.0 gs c.within c.places one.1 in
        let e : bit_at (with_parts 0 gs) k ≡ bit_of k = omega arith in
        e ∙ sym (sum-bit (signal_bit bytes s) s.length k lt ∙ number-back (bit_of k) (bit_at-lt _ _)))
