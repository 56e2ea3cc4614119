-- The bits that a helper moves: of a value's pattern, those of a segment, put into their byte.
use Rattle.std.proofs.Common.{◌≡◌, ℕ, zero, suc, ◌+◌, ◌-◌, ◌*◌, ◌/◌, ◌%◌, ◌^◌, ◌<◌, ◌≤◌, max, min, Bool, true, false, List, length, set, get_or, inl, inr, refl, sym, ap, subst, ◌∙◌, arith, pos, negsuc, ℤ}
use Rattle.std.specs.Prelude.{◌⊎◌, ◌↔◌, ◌==◌, ◌||◌, not, if◌then◌else◌, MatchBool, bit_and, bit_or, unsigned_abs}
use Rattle.std.specs.Int.{bit_at, Width}
use mir.Syntax.{w8, w16, w32, w64}
use mir.Val.{bits}
use Rattle.std.proofs.lemmas.Nat.{or_lt, and_le_l}
use Rattle.std.proofs.lemmas.Nat.Bits.{bit_at_and, bit_at_or, bit_at-lt, bit_at_not, bit_at_mask_inside, bit_at_mask_below, bit_at_mask_above, bit_at_cat_low, bit_at_cat_high}
use Rattle.std.proofs.lemmas.List.{length-set, get_or-set_same, get_or-set_other}
use Rattle.std.proofs.lemmas.Bool.Decides.{leb_tells, eqb_tells}
use Rattle.std.proofs.Math.Nat.{mod-lt}
use Rattle.std.proofs.Math.Pow.{shr-shr, pow_pos, split}
use Rattle.can_model.specs.declared.database.Signal.{Signal}
use Rattle.can_model.specs.Place.{rank, place_of, IsAt}
use Rattle.can_model.proofs.Placed.{at_place}
use Rattle.can_model.specs.Frame.{has_bit, has_bit_in, is_one}
use Rattle.frame_codec.specs.Ones.{AddsOnes}
use Rattle.frame_codec.proofs.SingleBits.{bytes_set}
use Rattle.c_widths.specs.Conversion.{wrap}
use Rattle.bit_layout.specs.declared.walk.Segment.{Segment}
use Rattle.bit_layout.specs.Covers.{IsWithin, HasBit, TellsPlaces}
use Rattle.shift_helpers.specs.HelperResult.{IsWidth, result}
use Rattle.gen_pack.specs.SegmentMove.{pack_kind, pack_shift, mask_of}

-- ---- shifted and masked bytes

bit-mod : (n w k : ℕ) → k < w → bit_at (n % 2 ^ w) k ≡ bit_at n k
bit-mod n w k h = sym (bit_at_cat_low (n / 2 ^ w) w (n % 2 ^ w) k h) ∙ ap (λ x. bit_at x k) (split n w)

min-one : (b : ℕ) → b < 2 → min b 1 ≡ b
min-one b h = omega arith

-- (uint8_t)(x << s) & mask, at a bit of the mask 2 ^ hi - 2 ^ lo
left-inside : (x s lo hi j : ℕ) → lo ≤ j → j < hi → hi ≤ 8 → s ≤ j → bit_at (bit_and (x * 2 ^ s % 2 ^ 8) (2 ^ hi - 2 ^ lo)) j ≡ bit_at x (j - s)
left-inside x s lo hi j a b c d =
    bit_at_and (x * 2 ^ s % 2 ^ 8) (2 ^ hi - 2 ^ lo) j
    ∙ rw (bit_at_mask_inside lo hi j a b, min-one (bit_at (x * 2 ^ s % 2 ^ 8) j) (bit_at-lt _ j)) (bit-mod (x * 2 ^ s) 8 j (omega arith)
    ∙ (let e : x * 2 ^ s ≡ x * 2 ^ s + 0 = omega arith in ap (λ n. bit_at n j) e) ∙ bit_at_cat_high x s 0 j (pow_pos s) d)

right-inside : (x s lo hi j : ℕ) → lo ≤ j → j < hi → hi ≤ 8 → bit_at (bit_and (x / 2 ^ s % 2 ^ 8) (2 ^ hi - 2 ^ lo)) j ≡ bit_at x (s + j)
right-inside x s lo hi j a b c =
    bit_at_and (x / 2 ^ s % 2 ^ 8) (2 ^ hi - 2 ^ lo) j
    ∙ rw (bit_at_mask_inside lo hi j a b, min-one (bit_at (x / 2 ^ s % 2 ^ 8) j) (bit_at-lt _ j)) (bit-mod (x / 2 ^ s) 8 j (omega arith)
    ∙ ap (λ n. n % 2) (shr-shr x s j))

outside-below : (y lo hi j : ℕ) → j < lo → bit_at (bit_and y (2 ^ hi - 2 ^ lo)) j ≡ 0
outside-below y lo hi j h = bit_at_and y (2 ^ hi - 2 ^ lo) j ∙ rw (bit_at_mask_below lo hi j h) (omega arith)

outside-above : (y lo hi j : ℕ) → hi ≤ j → bit_at (bit_and y (2 ^ hi - 2 ^ lo)) j ≡ 0
outside-above y lo hi j h = bit_at_and y (2 ^ hi - 2 ^ lo) j ∙ rw (bit_at_mask_above lo hi j h) (omega arith)

-- ---- the byte that a segment's helper gives

unfoldable pub byte_given : ℕ → ℕ → Segment → ℕ
byte_given w x g = result (pack_kind g) w x (pack_shift g) (mask_of g)

inside : (w x : ℕ) (g : Segment) (j : ℕ) → g.byte_low + g.count ≤ 8 → g.byte_low ≤ j → j < g.byte_low + g.count → bit_at (byte_given w x g) j ≡ bit_at x (j - g.byte_low + g.signal_low)
unfolding byte_given result
inside w x g j top low high = elim (leb_tells g.signal_low g.byte_low) [
  | inl a ↦ rw a.0 (left-inside x (g.byte_low - g.signal_low) g.byte_low (g.byte_low + g.count) j low high top (omega (arith, a.1)) ∙ ap (bit_at x) (omega (arith, a.1)))
  | inr a ↦ rw a.0 (right-inside x (g.signal_low - g.byte_low) g.byte_low (g.byte_low + g.count) j low high top ∙ ap (bit_at x) (omega (arith, a.1)))
]

outside : (w x : ℕ) (g : Segment) (j : ℕ) → (j < g.byte_low) ⊎ (g.byte_low + g.count ≤ j) → bit_at (byte_given w x g) j ≡ 0
unfolding byte_given result
outside w x g j (inl h) = elim (leb_tells g.signal_low g.byte_low) [
  | inl a ↦ rw a.0 (outside-below _ g.byte_low (g.byte_low + g.count) j h)
  | inr a ↦ rw a.0 (outside-below _ g.byte_low (g.byte_low + g.count) j h)
]
outside w x g j (inr h) = elim (leb_tells g.signal_low g.byte_low) [
  | inl a ↦ rw a.0 (outside-above _ g.byte_low (g.byte_low + g.count) j h)
  | inr a ↦ rw a.0 (outside-above _ g.byte_low (g.byte_low + g.count) j h)
]

and-below : (y z w : ℕ) → y < 2 ^ w → bit_and y z < 2 ^ w
and-below y z w h = omega (arith, and_le_l y z)

pub byte-small : (w x : ℕ) (g : Segment) → byte_given w x g < 2 ^ 8
unfolding byte_given result
byte-small w x g = elim (leb_tells g.signal_low g.byte_low) [
  | inl a ↦ rw a.0 (and-below _ (mask_of g) 8 (mod-lt (x * 2 ^ (g.byte_low - g.signal_low)) (pow_pos 8)))
  | inr a ↦ rw a.0 (and-below _ (mask_of g) 8 (mod-lt (x / 2 ^ (g.signal_low - g.byte_low)) (pow_pos 8)))
]

-- ---- the two's complement of a width

abbrev pub low_of : ℕ → ℤ → ℕ
low_of w z = unsigned_abs (wrap false w z)

pub record Pattern (w : ℕ) (z : ℤ) : Type 0 where
  pub is : wrap false w z ≡ pos (low_of w z)
  pub below : low_of w z < 2 ^ w
  pub bits_are : (k : ℕ) → k < w → has_bit (low_of w z) k ≡ has_bit_in z k

flipped : (b : ℕ) → b < 2 → (1 - b == 1) ≡ not (b == 1)
flipped zero h = refl
flipped (suc zero) h = refl
flipped (suc (suc b)) h = absurd (omega arith)

of-width : (v : Width) (z : ℤ) → Pattern (bits v) z
unfolding wrap
of-width v (pos n) = record { is = refl; below = mod-lt n (pow_pos (bits v)); bits_are = λ k h. ap (λ b. b == 1) (bit-mod n (bits v) k h) }
of-width v (negsuc n) = record {
  is = refl;
  below = (let h : 0 < 2 ^ bits v = pow_pos (bits v) in omega arith);
  bits_are = λ k h.
      ap (λ b. b == 1) (bit_at_not v (n % 2 ^ bits v) k (mod-lt n (pow_pos (bits v))) h ∙ ap (λ b. 1 - b) (bit-mod n (bits v) k h))
      ∙ flipped (bit_at n k) (bit_at-lt n k);
}

pub pattern : (w : ℕ) → IsWidth w → (z : ℤ) → Pattern w z
pattern w (inl e) z = subst (λ w. Pattern w z) (sym e) (of-width w8 z)
pattern w (inr (inl e)) z = subst (λ w. Pattern w z) (sym e) (of-width w16 z)
pattern w (inr (inr (inl e))) z = subst (λ w. Pattern w z) (sym e) (of-width w32 z)
pattern w (inr (inr (inr e))) z = subst (λ w. Pattern w z) (sym e) (of-width w64 z)

-- ---- ones that are added

pub adds-same : (old new : List ℕ) (At Bt : ℕ → Type 0) → AddsOnes old new At → ((p : ℕ) → At p ↔ Bt p) → AddsOnes old new Bt
adds-same old new At Bt a same = record {
  size = a.size;
  bytes = a.bytes;
  bits = λ p. (
    λ h. elim ((a.bits p).0 h) [ inl b ↦ inl b | inr b ↦ inr ((same p).0 b) ],
    λ h. (a.bits p).1 (elim h [ inl b ↦ inl b | inr b ↦ inr ((same p).1 b) ]),
  );
}

pub adds-none : (bytes : List ℕ) → AddsOnes bytes bytes (λ p. ⊥)
adds-none bytes = record { size = refl; bytes = λ h. h; bits = λ p. (λ h. inl h, λ h. elim h [ inl a ↦ a | inr b ↦ absurd b ]) }

pub adds-both : (a b c : List ℕ) (At Bt : ℕ → Type 0) → AddsOnes a b At → AddsOnes b c Bt → AddsOnes a c (λ p. At p ⊎ Bt p)
adds-both a b c At Bt x y = record {
  size = y.size ∙ x.size;
  bytes = λ h. y.bytes (x.bytes h);
  bits = λ p. (
    λ h. elim ((y.bits p).0 h) [ inl was ↦ elim ((x.bits p).0 was) [ inl first ↦ inl first | inr at ↦ inr (inl at) ] | inr bt ↦ inr (inr bt) ],
    λ h. (y.bits p).1 (elim h [
      | inl first ↦ inl ((x.bits p).1 (inl first))
      | inr either ↦ elim either [ inl at ↦ inl ((x.bits p).1 (inr at)) | inr bt ↦ inr bt ]
    ]),
  );
}

-- ---- a byte that is joined to one of the buffer

unfoldable pub with_byte : List ℕ → ℕ → ℕ → List ℕ
with_byte bytes i b = set bytes i (bit_or (get_or bytes i 0) b)

one-of-two : (a b : ℕ) → a < 2 → b < 2 → (max a b == 1) ≡ (a == 1 || b == 1)
one-of-two zero zero ha hb = refl
one-of-two zero (suc zero) ha hb = refl
one-of-two (suc zero) zero ha hb = refl
one-of-two (suc zero) (suc zero) ha hb = refl
one-of-two (suc (suc a)) b ha hb = absurd (omega arith)
one-of-two zero (suc (suc b)) ha hb = absurd (omega arith)
one-of-two (suc zero) (suc (suc b)) ha hb = absurd (omega arith)

bits-joined : (a b j : ℕ) → has_bit (bit_or a b) j ≡ (has_bit a j || has_bit b j)
bits-joined a b j = ap (λ n. n == 1) (bit_at_or a b j) ∙ one-of-two (bit_at a j) (bit_at b j) (bit_at-lt a j) (bit_at-lt b j)

-- one of the byte's bits is 1 and stands at this place
abbrev pub IsOfByte : ℕ → ℕ → ℕ → Type 0
IsOfByte i b p = (p / 8 ≡ i) × (has_bit b (p % 8) ≡ true)

or-tells : (a b : Bool) → (a || b) ≡ true → (a ≡ true) ⊎ (b ≡ true)
or-tells true b h = inl refl
or-tells false b h = inr h

or-left : (a b : Bool) → a ≡ true → (a || b) ≡ true
or-left a b h = cc

or-right : (a b : Bool) → b ≡ true → (a || b) ≡ true
or-right true b h = refl
or-right false b h = h

adds-byte : (bytes : List ℕ) (i b : ℕ) → i < length bytes → b < 2 ^ 8 → AddsOnes bytes (with_byte bytes i b) (IsOfByte i b)
unfolding with_byte
adds-byte bytes i b within small = record {
  size = length-set bytes i (bit_or (get_or bytes i 0) b);
  bytes = λ h. bytes_set bytes i (bit_or (get_or bytes i 0) b) h (or_lt 8 (get_or bytes i 0) b (h i) small);
  bits = λ p. by p (eqb_tells (p / 8) i);
} where
  new : List ℕ
  new = set bytes i (bit_or (get_or bytes i 0) b)

  here : (p : ℕ) → p / 8 ≡ i → is_one new p ≡ (is_one bytes p || has_bit b (p % 8))
  here p e =
      let is : get_or new (p / 8) 0 ≡ bit_or (get_or bytes (p / 8) 0) b = ap (λ k. get_or new k 0) e ∙ get_or-set_same bytes i (bit_or (get_or bytes i 0) b) 0 within ∙ ap (λ k. bit_or (get_or bytes k 0) b) (sym e) in
      ap (λ n. has_bit n (p % 8)) is ∙ bits-joined (get_or bytes (p / 8) 0) b (p % 8)

  there : (p : ℕ) → ¬ (p / 8 ≡ i) → is_one new p ≡ is_one bytes p
  there p ne = ap (λ n. has_bit n (p % 8)) (get_or-set_other bytes i (p / 8) (bit_or (get_or bytes i 0) b) 0 ne)

  by : (p : ℕ) → ((p / 8 == i) ≡ true × (p / 8 ≡ i)) ⊎ ((p / 8 == i) ≡ false × ¬ (p / 8 ≡ i)) → (is_one new p ≡ true) ↔ ((is_one bytes p ≡ true) ⊎ IsOfByte i b p)
  by p (inl same) = (
    λ h. elim (or-tells (is_one bytes p) (has_bit b (p % 8)) (sym (here p same.1) ∙ h)) [ inl was ↦ inl was | inr put ↦ inr (same.1, put) ],
    λ h. here p same.1 ∙ elim h [ inl was ↦ or-left (is_one bytes p) (has_bit b (p % 8)) was | inr put ↦ or-right (is_one bytes p) (has_bit b (p % 8)) put.1 ],
  )
  by p (inr other) = (
    λ h. inl (sym (there p other.1) ∙ h),
    λ h. there p other.1 ∙ elim h [ inl was ↦ was | inr put ↦ absurd (other.1 put.0) ],
  )

-- ---- a segment

-- a place has only the one bit that is told of it
pub only-place : (s : Signal) (k p : ℕ) → k < s.length → IsAt s k p → p ≡ place_of s k
only-place s k p lt h = by s.motorola h where
  by : (b : Bool) → MatchBool b (rank p + (k + 1) ≡ rank s.start + s.length) (p ≡ s.start + k) → p ≡ (if b then rank (rank s.start + (s.length - (k + 1))) else s.start + k)
  by true e = omega arith
  by false e = e

-- one of the segment's bits is 1, and the signal has it at this place
abbrev pub IsOfSegment : Signal → ℤ → Segment → ℕ → Type 0
IsOfSegment s v g p = (k : ℕ) × HasBit k g × IsAt s k p × (has_bit_in v k ≡ true)

module _ (s : Signal) (v : ℤ) (w : ℕ) (g : Segment) (enough : s.length ≤ w) (some : Pattern w v) (within : IsWithin s.length g) (told : TellsPlaces s g) where
  given : ℕ
  given = byte_given w (low_of w v) g

  place-decided : (j : ℕ) → ((j < g.byte_low) ⊎ (g.byte_low + g.count ≤ j)) ⊎ ((g.byte_low ≤ j) × (j < g.byte_low + g.count))
  place-decided j = elim (leb_tells g.byte_low j) [
    | inl low ↦ elim (leb_tells (g.byte_low + g.count) j) [ inl high ↦ inl (inr high.1) | inr top ↦ inr (low.1, omega (arith, top.1)) ]
    | inr low ↦ inl (inl (omega (arith, low.1)))
  ]

  of-byte : (p : ℕ) → IsOfByte g.byte given p → IsOfSegment s v g p
  unfolding given
  of-byte p h = elim (place-decided (p % 8)) [
    | inl out ↦ absurd (let zero_bit : has_bit given (p % 8) ≡ false = ap (λ b. b == 1) (outside w (low_of w v) g (p % 8) out) in cc)
    | inr within_byte ↦
        let k : ℕ = p % 8 - g.byte_low + g.signal_low in
        let has : HasBit k g = record { low = omega (arith, within_byte.0); high = omega (arith, within_byte.0, within_byte.1) } in
        let lt : k < s.length = omega (arith, has.high, within.in_signal) in
        let at : place_of s k ≡ p = told k has ∙ omega (arith, h.0, within_byte.0) in
        let bit : has_bit given (p % 8) ≡ has_bit (low_of w v) k = ap (λ b. b == 1) (inside w (low_of w v) g (p % 8) within.in_byte within_byte.0 within_byte.1) in
        (k, has, subst (IsAt s k) at (at_place s k lt), sym (some.bits_are k (omega (arith, lt))) ∙ sym bit ∙ h.1)
  ]

  to-byte : (p : ℕ) → IsOfSegment s v g p → IsOfByte g.byte given p
  unfolding given
  to-byte p h =
      let k : ℕ = h.0 in
      let has : HasBit k g = h.1 in
      let low : g.signal_low ≤ k = has.low in
      let high : k < g.signal_low + g.count = has.high in
      let lt : k < s.length = omega (arith, within.in_signal) in
      let at : p ≡ 8 * g.byte + g.byte_low + (k - g.signal_low) = only-place s k p lt h.2 ∙ told k has in
      let byte : p / 8 ≡ g.byte = omega (arith, within.in_byte) in
      let rest : p % 8 ≡ g.byte_low + (k - g.signal_low) = omega (arith, within.in_byte) in
      let back : p % 8 - g.byte_low + g.signal_low ≡ k = omega arith in
      let bit : has_bit given (p % 8) ≡ has_bit (low_of w v) k =
      ap (λ b. b == 1) (inside w (low_of w v) g (p % 8) within.in_byte (omega arith) (omega arith) ∙ ap (bit_at (low_of w v)) back) in
      (byte, bit ∙ some.bits_are k (omega arith) ∙ h.3)

  pub adds-segment : (bytes : List ℕ) → g.byte < length bytes → AddsOnes bytes (with_byte bytes g.byte (byte_given w (low_of w v) g)) (IsOfSegment s v g)
  unfolding given
  adds-segment bytes lt = adds-same bytes (with_byte bytes g.byte given) (IsOfByte g.byte given) (IsOfSegment s v g)
      (adds-byte bytes g.byte given lt (byte-small w (low_of w v) g)) (λ p. (of-byte p, to-byte p))
