-- The bits of a byte that a segment has, as the number that a helper makes of them: moved to where they stand in the value.
use Rattle.std.proofs.Common.{◌≡◌, ℕ, ◌+◌, ◌-◌, ◌*◌, ◌/◌, ◌%◌, ◌^◌, ◌<◌, ◌≤◌, inl, inr, sym, ap, ◌∙◌, arith}
use Rattle.std.specs.Prelude.{bit_and}
use Rattle.std.specs.Int.{bit_at}
use Rattle.std.proofs.lemmas.Nat.{pow-add, shl-shr}
use Rattle.std.proofs.lemmas.Nat.Bits.{bit_at-zero, bit_at_cat_low, bit_at_cat_high, and_high}
use Rattle.std.proofs.lemmas.Bool.Decides.{leb_tells}
use Rattle.std.proofs.Math.Nat.{mod-eq_of_lt, mod-lt}
use Rattle.std.proofs.Math.Pow.{shl_lt, shr-shr, pow_mono, pow_pos, split}
use Rattle.bit_layout.specs.declared.walk.Segment.{Segment}
use Rattle.bit_layout.specs.Covers.{HasBit}
use Rattle.shift_helpers.specs.HelperResult.{result}
use Rattle.gen_pack.specs.SegmentMove.{mask_of}
use Rattle.gen_unpack.specs.SegmentRead.{unpack_kind, unpack_shift}

bit-mod : (n w k : ℕ) → k < w → bit_at (n % 2 ^ w) k ≡ bit_at n k
bit-mod n w k h = sym (bit_at_cat_low (n / 2 ^ w) w (n % 2 ^ w) k h) ∙ ap (λ x. bit_at x k) (split n w)

-- a number has no bits above it
pub bit-above : (n w k : ℕ) → n < 2 ^ w → w ≤ k → bit_at n k ≡ 0
bit-above n w k h le =
    let e : n ≡ 0 * 2 ^ w + n = omega arith in
    ap (λ x. bit_at x k) e ∙ bit_at_cat_high 0 w n k h le ∙ bit_at-zero (k - w)

-- ---- the number

abbrev pub part : Segment → ℕ → ℕ
part g b = b / 2 ^ g.byte_low % 2 ^ g.count * 2 ^ g.signal_low

masked : (g : Segment) (b : ℕ) → bit_and b (mask_of g) ≡ b / 2 ^ g.byte_low % 2 ^ g.count * 2 ^ g.byte_low
masked g b = let e : g.byte_low + g.count ≡ g.count + g.byte_low = omega arith in rw e (and_high b g.count g.byte_low)

pub part-small : (g : Segment) (b n : ℕ) → g.signal_low + g.count ≤ n → part g b < 2 ^ n
part-small g b n h =
    let q = b / 2 ^ g.byte_low % 2 ^ g.count in
    let a : q < 2 ^ g.count = mod-lt (b / 2 ^ g.byte_low) (pow_pos g.count) in
    let c : q * 2 ^ g.signal_low < 2 ^ (g.count + g.signal_low) = shl_lt g.count g.signal_low a in
    let d : 2 ^ (g.count + g.signal_low) ≤ 2 ^ n = pow_mono (omega arith) in
    omega arith

shift-up : (q a d : ℕ) → q * 2 ^ a * 2 ^ d ≡ q * 2 ^ (a + d)
shift-up q a d = let e = pow-add 2 a d in rw e (grind arith)

part-left : (g : Segment) (b w : ℕ) → g.byte_low ≤ g.signal_low → g.signal_low + g.count ≤ w → bit_and b (mask_of g) * 2 ^ (g.signal_low - g.byte_low) % 2 ^ w ≡ part g b
part-left g b w le h =
    let q = b / 2 ^ g.byte_low % 2 ^ g.count in
    let e : g.byte_low + (g.signal_low - g.byte_low) ≡ g.signal_low = omega arith in
    rw (masked g b, shift-up q g.byte_low (g.signal_low - g.byte_low), e) (mod-eq_of_lt (part-small g b w h))

part-right : (g : Segment) (b : ℕ) → g.signal_low ≤ g.byte_low → bit_and b (mask_of g) / 2 ^ (g.byte_low - g.signal_low) ≡ part g b
part-right g b le =
    let q = b / 2 ^ g.byte_low % 2 ^ g.count in
    let e : g.signal_low + (g.byte_low - g.signal_low) ≡ g.byte_low = omega arith in
    let f : q * 2 ^ g.byte_low ≡ q * 2 ^ g.signal_low * 2 ^ (g.byte_low - g.signal_low) = ap (λ n. q * 2 ^ n) (sym e) ∙ sym (shift-up q g.signal_low (g.byte_low - g.signal_low)) in
    rw (masked g b, f) (shl-shr (q * 2 ^ g.signal_low) (g.byte_low - g.signal_low))

-- both helpers make it
pub helper-gives : (w b : ℕ) (g : Segment) → g.signal_low + g.count ≤ w → result (unpack_kind g) w b (unpack_shift g) (mask_of g) ≡ part g b
unfolding result
helper-gives w b g h = elim (leb_tells g.byte_low g.signal_low) [
  | inl a ↦ rw a.0 (part-left g b w a.1 h)
  | inr a ↦ rw a.0 (part-right g b (omega (arith, a.1)))
]

-- ---- its bits

part-high : (g : Segment) (b k : ℕ) → g.signal_low ≤ k → bit_at (part g b) k ≡ bit_at (b / 2 ^ g.byte_low % 2 ^ g.count) (k - g.signal_low)
part-high g b k le =
    let q = b / 2 ^ g.byte_low % 2 ^ g.count in
    let e : q * 2 ^ g.signal_low ≡ q * 2 ^ g.signal_low + 0 = omega arith in
    ap (λ x. bit_at x k) e ∙ bit_at_cat_high q g.signal_low 0 k (pow_pos g.signal_low) le

-- within the segment, a bit of the byte
pub part-inside : (g : Segment) (b k : ℕ) → HasBit k g → bit_at (part g b) k ≡ bit_at b (g.byte_low + (k - g.signal_low))
part-inside g b k has =
    part-high g b k has.low ∙ bit-mod (b / 2 ^ g.byte_low) g.count (k - g.signal_low) (omega (arith, has.low, has.high)) ∙ ap (λ n. n % 2) (shr-shr b g.byte_low (k - g.signal_low))

-- and outside of it nothing
pub part-below : (g : Segment) (b k : ℕ) → k < g.signal_low → bit_at (part g b) k ≡ 0
part-below g b k lt =
    let q = b / 2 ^ g.byte_low % 2 ^ g.count in
    let e : q * 2 ^ g.signal_low ≡ q * 2 ^ g.signal_low + 0 = omega arith in
    ap (λ x. bit_at x k) e ∙ bit_at_cat_low q g.signal_low 0 k lt ∙ bit_at-zero k

pub part-above : (g : Segment) (b k : ℕ) → g.signal_low + g.count ≤ k → bit_at (part g b) k ≡ 0
part-above g b k le =
    part-high g b k (omega arith) ∙ bit-above (b / 2 ^ g.byte_low % 2 ^ g.count) g.count (k - g.signal_low) (mod-lt (b / 2 ^ g.byte_low) (pow_pos g.count)) (omega arith)
