use Rattle.std.proofs.Common.{rules, ◌≡◌, ◌+◌, ℤ, Some, length, slice_set, sym, ◌∙◌, subst, to_z, of_z}
use Rattle.std.proofs.lemmas.Int.{to_z-of_z}
use Rattle.std.specs.Int.{w128}
use Rattle.std.specs.Prelude.{slice_get}
use Rattle.can_model.specs.Frame.{value_in}
use Rattle.can_model.proofs.Elements.{element_at}
use Rattle.can_model.proofs.Placed.{placed}
use Rattle.frame_codec.specs.Reads.{HasRead}
use Rattle.frame_codec.proofs.Getting.{more_bytes, one_read}
use Rattle.frame_codec.proofs.decoding.read_all.Goals as goal

pub read-requires : goal.read-requires
read-requires c =
    let at : slice_get c.args.message.now.signals c.loop-index.index ≡ Some c.index-signals-index.result = element_at c.args.message.now.signals c.items-signals.result.now c.loop-index.index c.index-signals-index.result c.items-signals.ensures c.loop-index-test.true c.index-signals-index.is in
    more_bytes c.index-signals-index.result c.args.message.now.length (length c.args.frame.now) (placed c.args.message.now c.loop-index.index c.index-signals-index.result c.requires.valid at) c.requires.frame

pub loop-index-preserved : goal.loop-index-preserved
loop-index-preserved c =
    let at : slice_get c.args.message.now.signals c.loop-index.index ≡ Some c.index-signals-index.result = element_at c.args.message.now.signals c.items-signals.result.now c.loop-index.index c.index-signals-index.result c.items-signals.ensures c.loop-index-test.true c.index-signals-index.is in
    let read : to_z w128 (of_z w128 c.read.result) ≡ value_in c.args.frame.now c.index-signals-index.result = to_z-of_z w128 c.read.result (search rules) ∙ c.read.ensures in
    subst (λ (v : ℤ). HasRead c.args.message.now c.args.frame.now (c.loop-index.index + 1) (slice_set c.loop-index.values c.loop-index.index (Some v))) (sym read)
    (one_read c.args.message.now c.args.frame.now c.loop-index.index c.index-signals-index.result c.loop-index.values c.loop-index.invariant at)
