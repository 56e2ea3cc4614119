-- those that are to come have the answer
use Rattle.std.proofs.Common.{◌≡◌, length}
use Rattle.std.specs.List.{list_any}
use Rattle.bit_layout.specs.Segments.{segments_of}
use Rattle.gen_pack.specs.SegmentMove.{pack_kind}
use Rattle.gen_items.specs.CalledHelpers.{same_kind}
use Rattle.gen_unit.proofs.helpers.has_move.Given as goal

abbrev pub invariant-loop-segment : goal.invariant-loop-segment
invariant-loop-segment l = list_any (λ g. same_kind (pack_kind g) l.kind) l.walk ≡ list_any (λ g. same_kind (pack_kind g) l.kind) (segments_of l.signal)

abbrev pub decreases-loop-segment : goal.decreases-loop-segment
decreases-loop-segment l = length l.walk
