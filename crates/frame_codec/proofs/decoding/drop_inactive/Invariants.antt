-- The signals below the index are done.
use Rattle.frame_codec.specs.Reads.{DropsInactive}
use Rattle.frame_codec.proofs.decoding.drop_inactive.Given as goal

abbrev pub invariant-loop-index : goal.invariant-loop-index
invariant-loop-index l = DropsInactive l.message l.fn.values l.index l.values
