-- The signals below the index are put.
use Rattle.std.proofs.Common.{map, replicate, length}
use Rattle.std.specs.Prelude.{Some}
use Rattle.frame_codec.specs.Ones.{AddsOnes, IsSetBelow}
use Rattle.frame_codec.proofs.encoding.encode.Given as goal

abbrev pub invariant-loop-index : goal.invariant-loop-index
invariant-loop-index l = AddsOnes (replicate (length l.fn.frame) 0) l.frame (IsSetBelow l.message (map Some l.values) l.index)
