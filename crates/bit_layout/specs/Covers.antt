-- What the segments of a signal are for: they tell the place of each bit of it, once.
use Rattle.std.specs.Prelude.{◌≡◌, ℕ, ◌+◌, ◌-◌, ◌*◌, ◌<◌, ◌≤◌, List, map, slice_get, IsSomeAnd}
use Rattle.std.specs.List.{AllByRecursion}
use Rattle.std.specs.List.Sorted.{IsStrictlyIncreasing}
use Rattle.can_model.specs.declared.database.Signal.{Signal}
use Rattle.can_model.specs.Place.{place_of}
use Rattle.bit_layout.specs.declared.walk.Segment.{Segment}

-- some bits of a signal of this length, all in one byte
pub record IsWithin (length : ℕ) (g : Segment) : Type 0 where
  pub some : 1 ≤ g.count
  pub in_signal : g.signal_low + g.count ≤ length
  pub in_byte : g.byte_low + g.count ≤ 8

-- bit k of the signal is one of the segment's
pub record HasBit (k : ℕ) (g : Segment) : Type 0 where
  pub low : g.signal_low ≤ k
  pub high : k < g.signal_low + g.count

-- the place of a bit of the segment
abbrev pub place_in : Segment → ℕ → ℕ
place_in g k = 8 * g.byte + g.byte_low + (k - g.signal_low)

abbrev pub TellsPlaces : Signal → Segment → Type 0
TellsPlaces s g = (k : ℕ) → HasBit k g → place_of s k ≡ place_in g k

-- exactly one of the segments has bit k
abbrev pub IsInOne : List Segment → ℕ → Type 0
IsInOne gs k = (i : ℕ) × IsSomeAnd (slice_get gs i) (HasBit k) × ((j : ℕ) → IsSomeAnd (slice_get gs j) (HasBit k) → j ≡ i)

pub record Covers (s : Signal) (gs : List Segment) : Type 0 where
  pub within : AllByRecursion (IsWithin s.length) gs
  pub places : AllByRecursion (TellsPlaces s) gs
  pub once : (k : ℕ) → k < s.length → IsInOne gs k
  pub rising : IsStrictlyIncreasing (map (λ g. g.byte) gs)
