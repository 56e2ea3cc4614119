use Rattle.std.proofs.Common.{◌+◌, sym, ◌∙◌, subst, to_z, of_z}
use Rattle.std.specs.Int.{w128}
use Rattle.frame_codec.specs.Ones.{AddsOnes, IsBitBelow}
use Rattle.frame_codec.proofs.Putting.{bit_is_0, bit_is_1}
use Rattle.frame_codec.proofs.encoding.put.Goals as goal
use Rattle.frame_codec.proofs.encoding.put.Goals.{then-has_bit, else-has_bit}

pub loop-k-preserved : goal.loop-k-preserved
loop-k-preserved c = elim c.if-has_bit.branch [
  | then-has_bit w ↦ subst (λ frame. AddsOnes c.args.frame.now frame (IsBitBelow c.args.signal.now (to_z w128 (of_z w128 c.args.value)) (c.loop-k.k + 1))) (sym w.frame-is) (bit_is_1 c.args.signal.now (to_z w128 (of_z w128 c.args.value)) c.loop-k.k w.place.result c.args.frame.now c.loop-k.frame w.set_one.new.bytes c.loop-k.invariant w.set_one.ensures.size w.set_one.ensures.bytes w.set_one.ensures.bits w.place.ensures.is_at w.place.ensures.only (sym c.has_bit.ensures ∙ w.if-has_bit.true))
  | else-has_bit w ↦ subst (λ frame. AddsOnes c.args.frame.now frame (IsBitBelow c.args.signal.now (to_z w128 (of_z w128 c.args.value)) (c.loop-k.k + 1))) (sym w.frame-is) (bit_is_0 c.args.signal.now (to_z w128 (of_z w128 c.args.value)) c.loop-k.k c.args.frame.now c.loop-k.frame c.loop-k.invariant (sym c.has_bit.ensures ∙ w.if-has_bit.false))
]
