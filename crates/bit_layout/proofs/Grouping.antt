-- The segments by numbers are the groups of places by bytes.
use Rattle.std.proofs.Common.{◌≡◌, ℕ, zero, suc, ◌+◌, ◌-◌, ◌*◌, ◌/◌, ◌<◌, ◌≤◌, length, Some, None, inl, inr, refl, ap, ◌∙◌, arith}
use Rattle.std.specs.Prelude.{◌⊎◌, ◌==◌}
use Rattle.std.specs.List.{range_with_len}
use Rattle.std.proofs.lemmas.Bool.Decides.{eqb_tells}
use Rattle.std.proofs.lemmas.List.FromFn.{length-range_with_len}
use Rattle.can_model.specs.declared.database.Signal.{Signal}
use Rattle.can_model.specs.Place.{place_of}
use Rattle.bit_layout.specs.declared.walk.Segment.{Segment}
use Rattle.bit_layout.specs.Covers.{IsWithin, HasBit}
use Rattle.bit_layout.specs.Segments.{bits_in, segment_of, segments_of}
use Rattle.bit_layout.specs.Numbers.{from_at, end_at, segment_at, segments_by_numbers}
use Rattle.bit_layout.proofs.Places.{end_behind, IsTouched, within, place, among, only, touched, near}
use Rattle.bit_layout.proofs.Runs.{IsRun, filter_none, filter_run, gives_run}

abbrev pub from_of : Signal → ℕ
from_of s = from_at s.motorola s.start

abbrev pub end_of : Signal → ℕ
end_of s = end_at (from_of s) s.length

abbrev pub numbers : Signal → ℕ → Segment
numbers s byte = segment_at s.motorola (from_of s) s.length byte

record IsSame (g h : Segment) : Type 0 where
  bytes : g.byte ≡ h.byte
  lows : g.signal_low ≡ h.signal_low
  places : g.byte_low ≡ h.byte_low
  counts : g.count ≡ h.count

same : (g h : Segment) → IsSame g h → g ≡ h
same g h p i = record { byte = p.bytes i; signal_low = p.lows i; byte_low = p.places i; count = p.counts i }

-- ---- one byte

run_of : (s : Signal) (byte : ℕ) → IsRun (λ k. place_of s k / 8 == byte) 0 s.length (numbers s byte).signal_low (numbers s byte).count
run_of s byte = record {
  holds = λ k low high. (let e : place_of s k / 8 ≡ byte = only s.motorola s.start s.length k byte (record { low = low; high = high }) in elim (eqb_tells (place_of s k / 8) byte) [ inl a ↦ a.0 | inr a ↦ absurd (a.1 e) ]);
  fails = λ k a below out. elim (eqb_tells (place_of s k / 8) byte) [
    | inl b ↦ (let w : HasBit k (numbers s (place_of s k / 8)) = among s.motorola s.start s.length k (omega arith) in
        let low : (numbers s byte).signal_low ≤ k = rw b.1 at w.low in
        let high : k < (numbers s byte).signal_low + (numbers s byte).count = rw b.1 at w.high in
        absurd (elim out [ inl x ↦ omega arith | inr x ↦ omega arith ]))
    | inr b ↦ b.0
  ];
}

one_segment : (s : Signal) (byte count : ℕ) → (numbers s byte).count ≡ suc count → (numbers s byte).byte_low + (numbers s byte).count ≤ 8 → segment_of s byte (range_with_len (numbers s byte).signal_low (suc count)) ≡ Some (numbers s byte)
one_segment s byte count e fits =
    let g = numbers s byte in
    let p : place_of s g.signal_low ≡ 8 * byte + g.byte_low + (g.signal_low - g.signal_low) = place s.motorola s.start s.length byte g.signal_low (record { low = omega arith; high = omega (arith, e) }) in
    let l : length (range_with_len (g.signal_low + 1) count) ≡ count = length-range_with_len (g.signal_low + 1) count in
    ap (λ x. Some x) (same _ g (record { bytes = refl; lows = refl; places = omega (arith, p, e, fits); counts = omega (arith, l, e) }))

grouped_at : (s : Signal) (byte count : ℕ) → (numbers s byte).count ≡ count → IsWithin s.length (numbers s byte) → segment_of s byte (bits_in s byte) ≡ Some (numbers s byte)
grouped_at s byte zero e w = let some = w.some in absurd (omega (arith, e))
grouped_at s byte (suc count) e w =
    ap (segment_of s byte) (filter_run (λ k. place_of s k / 8 == byte) 0 s.length (numbers s byte).signal_low (numbers s byte).count (omega arith) (omega (arith, w.in_signal)) (run_of s byte) ∙ ap (range_with_len (numbers s byte).signal_low) e)
    ∙ one_segment s byte count e w.in_byte

none_at : (s : Signal) (byte : ℕ) → (byte < from_of s / 8) ⊎ (end_of s ≤ byte) → segment_of s byte (bits_in s byte) ≡ None
none_at s byte out = ap (segment_of s byte) (filter_none (λ k. place_of s k / 8 == byte) 0 s.length (λ k b c. elim (eqb_tells (place_of s k / 8) byte) [
  | inl e ↦ (let t : IsTouched (from_of s) s.length (place_of s k / 8) = touched s.motorola s.start s.length k (omega arith) in
      let low : from_of s / 8 ≤ byte = rw e.1 at t.low in
      let high : byte < end_of s = rw e.1 at t.high in
      absurd (elim out [ inl x ↦ omega arith | inr x ↦ omega arith ]))
  | inr e ↦ e.0
]))

-- ---- all bytes

begins : (from length : ℕ) → from / 8 ≤ end_at from length
begins from zero = omega arith
begins from (suc n) = let e = end_behind from n in omega (arith, e)

pub segments-by_numbers : (s : Signal) → segments_of s ≡ segments_by_numbers s
unfolding segments_of
segments-by_numbers s =
    let first : from_of s / 8 ≤ end_of s = begins (from_of s) s.length in
    let last : end_of s ≤ s.start / 8 + s.length + 1 = near s.motorola s.start s.length in
    let all : from_of s / 8 + (end_of s - from_of s / 8) ≡ end_of s = omega arith in
    gives_run (λ byte. segment_of s byte (bits_in s byte)) (numbers s) 0 (s.start / 8 + s.length + 1) (from_of s / 8) (end_of s - from_of s / 8) (omega arith) (omega arith) (record {
      one = λ byte low high. grouped_at s byte (numbers s byte).count refl (within s.motorola (from_of s) s.length byte (record { low = low; high = omega arith }));
      none = λ byte a below out. none_at s byte (elim out [ inl x ↦ inl x | inr x ↦ inr (omega arith) ]);
    })
