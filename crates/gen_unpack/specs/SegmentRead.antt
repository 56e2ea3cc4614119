-- How the bits of a segment are moved: from where they stand in the byte to where they stand in the value.
use Rattle.std.specs.Prelude.{ℕ, ◌-◌, nat_le, if◌then◌else◌}
use Rattle.bit_layout.specs.declared.walk.Segment.{Segment}
use Rattle.shift_helpers.specs.declared.helper.HelperKind.{HelperKind}
use Rattle.shift_helpers.specs.declared.helper.HelperKind.TheVariants.{UnpackLeft, UnpackRight}

-- up to a higher bit they are moved left, else right
abbrev pub unpack_kind : Segment → HelperKind
unpack_kind g = if nat_le g.byte_low g.signal_low then UnpackLeft else UnpackRight

-- by so many bits
abbrev pub unpack_shift : Segment → ℕ
unpack_shift g = if nat_le g.byte_low g.signal_low then g.signal_low - g.byte_low else g.byte_low - g.signal_low
