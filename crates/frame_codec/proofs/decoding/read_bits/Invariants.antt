-- The bits below k are summed.
use Rattle.std.proofs.Common.{◌≡◌}
use Rattle.can_model.specs.Frame.{sum_of_bits, signal_bit}
use Rattle.frame_codec.proofs.decoding.read_bits.Given as goal

abbrev pub invariant-loop-k : goal.invariant-loop-k
invariant-loop-k l = l.sum ≡ sum_of_bits (signal_bit l.frame l.signal) l.k
