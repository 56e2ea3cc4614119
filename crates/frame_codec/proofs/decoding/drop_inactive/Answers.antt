use Rattle.std.proofs.Common.{◌+◌, ◌<◌, sym, subst}
use Rattle.frame_codec.specs.Reads.{DropsInactive}
use Rattle.frame_codec.proofs.Getting.{active_done, inactive_done}
use Rattle.frame_codec.proofs.decoding.drop_inactive.Goals as goal
use Rattle.frame_codec.proofs.decoding.drop_inactive.Goals.{then-not-active_in, else-not-active_in}

pub loop-index-preserved : goal.loop-index-preserved
loop-index-preserved c = elim c.if-not-active_in.branch [
  | then-not-active_in w ↦ subst (DropsInactive c.args.message.now c.args.values.now (c.loop-index.index + 1)) (sym w.values-is) (inactive_done c.args.message.now c.args.values.now c.loop-index.values c.loop-index.index c.loop-index.invariant (subst (λ n. c.loop-index.index < n) (sym c.loop-index.auto.values) c.loop-index-test.true) (λ a. absurd (cc (c.active_in.ensures.1 a))))
  | else-not-active_in w ↦ subst (DropsInactive c.args.message.now c.args.values.now (c.loop-index.index + 1)) (sym w.values-is) (active_done c.args.message.now c.args.values.now c.loop-index.values c.loop-index.index c.loop-index.invariant (c.active_in.ensures.0 w.if-not-active_in.false))
]
