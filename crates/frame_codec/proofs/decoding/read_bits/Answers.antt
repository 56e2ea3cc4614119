use Rattle.std.proofs.Common.{◌^◌, ◌<◌, ◌≤◌, subst, sym, arith}
use Rattle.std.proofs.Math.Facts.{Fits-of_lt}
use Rattle.std.proofs.lemmas.Bool.Decides.{nat_tests}
use Rattle.can_model.specs.Frame.{signal_bit}
use Rattle.frame_codec.proofs.Getting.{sum-lt, bit_fits}
use Rattle.frame_codec.proofs.decoding.read_bits.Goals as goal

pub overflow_add-sum : goal.overflow_add-sum
overflow_add-sum c =
    let below : c.loop-k.k < c.args.signal.now.length = c.loop-k-test.true in
    let within : c.args.signal.now.length ≤ 64 = grind (arith, nat_tests, c.requires.bits) in
    Fits-of_lt (bit_fits c.loop-k.sum c.loop-k.k (subst (λ n. n < 2 ^ c.loop-k.k) (sym c.loop-k.invariant) (sum-lt (signal_bit c.args.frame.now c.args.signal.now) c.loop-k.k)) (omega arith))
