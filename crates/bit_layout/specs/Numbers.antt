-- Segments by arithmetic, as the code computes them.
use Rattle.std.specs.Prelude.{ℕ, ◌+◌, ◌-◌, ◌*◌, ◌/◌, Bool, ◌==◌, if◌then◌else◌, List, map, min, max}
use Rattle.std.specs.List.{range_with_len}
use Rattle.can_model.specs.declared.database.Signal.{Signal}
use Rattle.can_model.specs.Place.{rank}
use Rattle.bit_layout.specs.declared.walk.Segment.{Segment}

-- where the first bit stands in the signal's own order of places, which for Motorola is by rank
abbrev pub from_at : Bool → ℕ → ℕ
from_at motorola start = if motorola then rank start else start

-- the byte behind the last
abbrev pub end_at : ℕ → ℕ → ℕ
end_at from length = if length == 0 then from / 8 else (from + length - 1) / 8 + 1

abbrev pub segment_at : Bool → ℕ → ℕ → ℕ → Segment
segment_at motorola from length byte = record {
  byte = byte;
  signal_low = if motorola then from + length - min (from + length) (8 * byte + 8) else max from (8 * byte) - from;
  byte_low = if motorola then 8 * byte + 8 - min (from + length) (8 * byte + 8) else max from (8 * byte) - 8 * byte;
  count = min (from + length) (8 * byte + 8) - max from (8 * byte);
}

-- the segments from a byte on, up to another
abbrev pub segments_from : Bool → ℕ → ℕ → ℕ → ℕ → List Segment
segments_from motorola from length byte end = map (segment_at motorola from length) (range_with_len byte (end - byte))

-- all of them
abbrev pub segments_at : Bool → ℕ → ℕ → List Segment
segments_at motorola from length = segments_from motorola from length (from / 8) (end_at from length)

abbrev pub segments_by_numbers : Signal → List Segment
segments_by_numbers s = segments_at s.motorola (from_at s.motorola s.start) s.length
