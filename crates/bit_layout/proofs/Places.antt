-- One segment by numbers against the places of single bits.
use Rattle.std.proofs.Common.{◌≡◌, ℕ, zero, suc, ◌+◌, ◌-◌, ◌*◌, ◌/◌, ◌<◌, ◌≤◌, Bool, true, false, inl, inr, sym, ap, subst, ◌∙◌, arith}
use Rattle.std.proofs.lemmas.Bool.Decides.{eqb_tells}
use Rattle.std.specs.Prelude.{if◌then◌else◌}
use Rattle.can_model.specs.Place.{rank}
use Rattle.bit_layout.specs.Covers.{IsWithin, HasBit, place_in}
use Rattle.bit_layout.specs.Numbers.{from_at, end_at, segment_at}

-- the place of bit k, of numbers
abbrev pub place_at : Bool → ℕ → ℕ → ℕ → ℕ
place_at motorola start length k = if motorola then rank (rank start + (length - (k + 1))) else start + k

-- the byte behind the last, of a signal with bits
pub end_behind : (from n : ℕ) → end_at from (suc n) ≡ (from + n) / 8 + 1
end_behind from n = elim (eqb_tells (suc n) 0) [
  | inl a ↦ absurd (omega (arith, a.1))
  | inr a ↦ rw a.0 (let e : from + suc n - 1 ≡ from + n = omega arith in ap (λ m. m / 8 + 1) e)
]

-- a byte from the first up to the last
pub record IsTouched (from length byte : ℕ) : Type 0 where
  pub low : from / 8 ≤ byte
  pub high : byte < end_at from length

-- in each of these bytes stand some bits
pub within : (motorola : Bool) (from length byte : ℕ) → IsTouched from length byte → IsWithin length (segment_at motorola from length byte)
within motorola from zero byte t = let a = t.low in let b : byte < from / 8 = t.high in absurd (omega arith)
within true from (suc n) byte t = let a = t.low in let b : byte < (from + n) / 8 + 1 = subst (λ e. byte < e) (end_behind from n) t.high in record { some = omega arith; in_signal = omega arith; in_byte = omega arith }
within false from (suc n) byte t = let a = t.low in let b : byte < (from + n) / 8 + 1 = subst (λ e. byte < e) (end_behind from n) t.high in record { some = omega arith; in_signal = omega arith; in_byte = omega arith }

-- the bits of a segment stand in its byte one after the other
row : (motorola : Bool) (start length byte j : ℕ) → (let g = segment_at motorola (from_at motorola start) length byte in j < g.count → place_at motorola start length (g.signal_low + j) ≡ 8 * byte + (g.byte_low + j))
row true start length byte j h = let f = rank start in omega arith
row false start length byte j h = omega arith

sum : (a b c : ℕ) → a + (b + c) ≡ a + b + c
sum a b c = omega arith

pub place : (motorola : Bool) (start length byte k : ℕ) → (let g = segment_at motorola (from_at motorola start) length byte in HasBit k g → place_at motorola start length k ≡ place_in g k)
place motorola start length byte k h =
    let g = segment_at motorola (from_at motorola start) length byte in
    let a : g.signal_low ≤ k = h.low in
    let b : k < g.signal_low + g.count = h.high in
    let j : ℕ = k - g.signal_low in
    let e : g.signal_low + j ≡ k = omega arith in
    let p : place_at motorola start length (g.signal_low + j) ≡ 8 * byte + (g.byte_low + j) = row motorola start length byte j (omega arith) in
    ap (place_at motorola start length) (sym e) ∙ (p ∙ sum (8 * byte) g.byte_low j)

-- a bit is in the segment of the byte that it stands in
pub among : (motorola : Bool) (start length k : ℕ) → k < length → HasBit k (segment_at motorola (from_at motorola start) length (place_at motorola start length k / 8))
among true start length k h = record { low = omega arith; high = omega arith }
among false start length k h = record { low = omega arith; high = omega arith }

-- and in no other
pub only : (motorola : Bool) (start length k byte : ℕ) → HasBit k (segment_at motorola (from_at motorola start) length byte) → place_at motorola start length k / 8 ≡ byte
only true start length k byte h = let a = h.low in let b = h.high in omega arith
only false start length k byte h = let a = h.low in let b = h.high in omega arith

-- a bit stands in one of these bytes
pub touched : (motorola : Bool) (start length k : ℕ) → k < length → IsTouched (from_at motorola start) length (place_at motorola start length k / 8)
touched motorola start zero k h = absurd (omega arith)
touched true start (suc n) k h = let e = end_behind (rank start) n in record { low = omega arith; high = omega (arith, e) }
touched false start (suc n) k h = let e = end_behind start n in record { low = omega arith; high = omega (arith, e) }

-- the bytes that the definition looks through are enough
pub near : (motorola : Bool) (start length : ℕ) → end_at (from_at motorola start) length ≤ start / 8 + length + 1
near true start zero = omega arith
near false start zero = omega arith
near true start (suc n) = let e = end_behind (rank start) n in omega (arith, e)
near false start (suc n) = let e = end_behind start n in omega (arith, e)
