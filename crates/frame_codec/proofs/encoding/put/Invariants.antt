-- The bits below k are put.
use Rattle.frame_codec.specs.Ones.{AddsOnes, IsBitBelow}
use Rattle.frame_codec.proofs.encoding.put.Given as goal

abbrev pub invariant-loop-k : goal.invariant-loop-k
invariant-loop-k l = AddsOnes l.fn.frame l.frame (IsBitBelow l.signal l.value l.k)
