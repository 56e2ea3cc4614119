-- What is still to come stands behind what is put.
use Rattle.std.proofs.Common.{◌≡◌, ◌++◌, map, length}
use Rattle.bit_layout.specs.Segments.{segments_of}
use Rattle.c_tree.specs.BareStatement.{bare_statement}
use Rattle.c_tree.specs.declared.statement.AssignOp.TheVariants.{Set}
use Rattle.gen_pack.specs.Parts.{part}
use Rattle.gen_pack.specs.SegmentMove.{width_of}
use Rattle.gen_unpack.specs.UnpackTree.{joined, joined_in}
use Rattle.gen_unpack.proofs.reads.put_joined.Given as goal

abbrev pub invariant-loop-segment : goal.invariant-loop-segment
invariant-loop-segment l =
    map bare_statement l.out ++ joined l.op (joined_in (part 0 l.signal l.names)) (width_of l.signal) l.walk
    ≡ map bare_statement l.fn.out ++ joined Set (joined_in (part 0 l.signal l.names)) (width_of l.signal) (segments_of l.signal)

abbrev pub decreases-loop-segment : goal.decreases-loop-segment
decreases-loop-segment l = length l.walk
