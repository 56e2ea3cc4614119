-- How the bits of a segment are moved: from where they stand in the value to where they stand in the byte.
use Rattle.std.specs.Prelude.{ℕ, ◌+◌, ◌-◌, ◌^◌, ◌≤◌, nat_le, if◌then◌else◌}
use Rattle.can_model.specs.declared.database.Signal.{Signal}
use Rattle.bit_layout.specs.declared.walk.Segment.{Segment}
use Rattle.shift_helpers.specs.declared.helper.HelperKind.{HelperKind}
use Rattle.shift_helpers.specs.declared.helper.HelperKind.TheVariants.{PackLeft, PackRight}
use Rattle.can_model.specs.RawValue.{field_bits}

-- the width of the field that holds the signal
abbrev pub width_of : Signal → ℕ
width_of s = field_bits s.length

-- up to a higher bit they are moved left, else right
abbrev pub pack_kind : Segment → HelperKind
pack_kind g = if nat_le g.signal_low g.byte_low then PackLeft else PackRight

-- by so many bits
abbrev pub pack_shift : Segment → ℕ
pack_shift g = if nat_le g.signal_low g.byte_low then g.byte_low - g.signal_low else g.signal_low - g.byte_low

-- the bits of the byte that are the segment's
abbrev pub mask_of : Segment → ℕ
mask_of g = 2 ^ (g.byte_low + g.count) - 2 ^ g.byte_low

-- a signal whose segments can be told: of at most 64 bits, and in the first 65536 places
pub record HasSegments (s : Signal) : Type 0 where
  pub length : s.length ≤ 64
  pub start : s.start ≤ 65535
