-- What is still to come stands behind what is put.
use Rattle.std.proofs.Common.{◌≡◌, ◌++◌, map, length}
use Rattle.bit_layout.specs.Segments.{segments_of}
use Rattle.c_tree.specs.BareStatement.{bare_statement}
use Rattle.gen_pack.specs.Parts.{part}
use Rattle.gen_pack.specs.PackTree.{segment_put}
use Rattle.gen_pack.proofs.puts.put_segments.Given as goal

abbrev pub invariant-loop-segment : goal.invariant-loop-segment
invariant-loop-segment l =
    map bare_statement l.out ++ map (segment_put (part 0 l.signal l.names)) l.walk ≡ map bare_statement l.fn.out ++ map (segment_put (part 0 l.signal l.names)) (segments_of l.signal)

abbrev pub decreases-loop-segment : goal.decreases-loop-segment
decreases-loop-segment l = length l.walk
