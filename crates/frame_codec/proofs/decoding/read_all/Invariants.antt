-- The signals below the index have their values.
use Rattle.frame_codec.specs.Reads.{HasRead}
use Rattle.frame_codec.proofs.decoding.read_all.Given as goal

abbrev pub invariant-loop-index : goal.invariant-loop-index
invariant-loop-index l = HasRead l.message l.frame l.index l.values
