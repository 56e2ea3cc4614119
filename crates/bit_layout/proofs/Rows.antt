-- Worked values of the segments, by computation.
use Rattle.std.proofs.Common.{◌≡◌, ℕ, Bool, true, false, [], ◌∷◌, refl}
use Rattle.std.specs.Prelude.{None}
use Rattle.limit_fraction.specs.Decimal.{zero_decimal}
use Rattle.can_model.specs.declared.database.Signal.{Signal}
use Rattle.bit_layout.specs.declared.walk.Segment.{Segment}
use Rattle.bit_layout.specs.Segments.{segments_of}

-- a signal of this place, length and byte order
abbrev signal : ℕ → ℕ → Bool → Signal
signal start len motorola = record {
  name = [];
  start = start;
  length = len;
  motorola = motorola;
  signed = false;
  is_float = false;
  factor = zero_decimal;
  offset = zero_decimal;
  min = None;
  max = None;
  initial = None;
  choices = [];
  unit = [];
  comment = [];
  parent = None;
  line = 1;
}

abbrev segment : ℕ → ℕ → ℕ → ℕ → Segment
segment byte signal_low byte_low count = record { byte = byte; signal_low = signal_low; byte_low = byte_low; count = count }

-- twelve bits from place 0 on, the most significant first: the lowest bit of byte 0, all of byte 1, and the three highest of byte 2
motorola_row : segments_of (signal 0 12 true) ≡ segment 0 11 0 1 ∷ segment 1 3 0 8 ∷ segment 2 0 5 3 ∷ []
unfolding segments_of
motorola_row = refl

-- ten bits from place 6 up
intel_row : segments_of (signal 6 10 false) ≡ segment 0 0 6 2 ∷ segment 1 2 0 8 ∷ []
unfolding segments_of
intel_row = refl

-- within one byte
small_row : segments_of (signal 6 6 true) ≡ segment 0 0 1 6 ∷ []
unfolding segments_of
small_row = refl

no_bits : segments_of (signal 6 0 false) ≡ []
unfolding segments_of
no_bits = refl
