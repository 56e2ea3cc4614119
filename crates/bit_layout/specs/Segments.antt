-- The segments of a signal: its bits, grouped by the bytes that they stand in.
use Rattle.std.specs.Prelude.{ℕ, ◌+◌, ◌/◌, ◌%◌, ◌==◌, List, [], ◌∷◌, length, Option, Some, None}
use Rattle.std.specs.List.{range_with_len, filter, filter_map}
use Rattle.can_model.specs.declared.database.Signal.{Signal}
use Rattle.can_model.specs.Place.{place_of}
use Rattle.bit_layout.specs.declared.walk.Segment.{Segment}

-- the bits that stand in a byte, from the least significant on
abbrev pub bits_in : Signal → ℕ → List ℕ
bits_in s byte = filter (λ k. place_of s k / 8 == byte) (range_with_len 0 s.length)

-- the segment of these bits of a byte; where there are none, there is no segment
abbrev pub segment_of : Signal → ℕ → List ℕ → Option Segment
segment_of s byte [] = None
segment_of s byte (k ∷ ks) = Some (record { byte = byte; signal_low = k; byte_low = place_of s k % 8; count = length (k ∷ ks) })

-- the segments in the first so many bytes, by rising byte
abbrev pub segments_in : Signal → ℕ → List Segment
segments_in s bytes = filter_map (λ byte. segment_of s byte (bits_in s byte)) (range_with_len 0 bytes)

-- all segments: behind the byte of its start a signal goes on for at most one byte a bit
unfoldable pub segments_of : Signal → List Segment
segments_of s = segments_in s (s.start / 8 + s.length + 1)
