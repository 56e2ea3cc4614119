use Rattle.std.proofs.Common.{◌≡◌, ◌+◌, ℕ, List, Some, length, map, replicate, slice_index_or, sym, ap, ◌∙◌, subst}
use Rattle.std.proofs.lemmas.List.{length-replicate}
use Rattle.std.proofs.Common.{rules, pos, ◌<◌, ◌≤◌, arith}
use Rattle.std.proofs.lemmas.Int.{to_z-of_z}
use Rattle.std.specs.Int.{w128}
use Rattle.std.specs.Prelude.{slice_get}
use Rattle.can_model.specs.Place.{IsPlaced}
use Rattle.can_model.proofs.Elements.{element_at}
use Rattle.can_model.proofs.Placed.{placed}
use Rattle.frame_codec.specs.Ones.{AddsOnes, IsBitBelow, IsSetBelow}
use Rattle.frame_codec.proofs.Putting.{active_signal, inactive_signal, framed, value_of}
use Rattle.frame_codec.proofs.encoding.encode.Goals as goal
use Rattle.frame_codec.proofs.encoding.encode.Goals.{then-active, else-active}

pub put-requires : goal.put-requires
put-requires c =
    let at : slice_get c.args.message.now.signals c.loop-index.index ≡ Some c.index-signals-index.result = element_at c.args.message.now.signals c.items-signals.result.now c.loop-index.index c.index-signals-index.result c.items-signals.ensures c.loop-index-test.true c.index-signals-index.is in
    subst (IsPlaced c.index-signals-index.result) (sym (c.loop-index.invariant.size ∙ length-replicate (length c.args.frame.now) 0 ∙ c.requires.frame)) (placed c.args.message.now c.loop-index.index c.index-signals-index.result c.requires.valid at)

pub loop-index-preserved : goal.loop-index-preserved
loop-index-preserved c = elim c.if-active.branch [
  | then-active w ↦
      let at : slice_get c.args.message.now.signals c.loop-index.index ≡ Some w.index-signals-index.result = element_at c.args.message.now.signals c.items-signals.result.now c.loop-index.index w.index-signals-index.result c.items-signals.ensures c.loop-index-test.true w.index-signals-index.is in
      let within : c.loop-index.index < length c.args.values.now = subst (λ n. c.loop-index.index < n) (ap length c.items-signals.ensures ∙ sym c.requires.values) c.loop-index-test.true in
      subst (λ (frame : List ℕ). AddsOnes (replicate (length c.args.frame.now) 0) frame (IsSetBelow c.args.message.now (map Some c.args.values.now) (c.loop-index.index + 1))) (sym w.frame-is)
      (active_signal c.args.message.now (map Some c.args.values.now) c.loop-index.index w.index-signals-index.result (slice_index_or c.args.values.now c.loop-index.index (pos 0)) (replicate (length c.args.frame.now) 0) c.loop-index.frame w.put.new.frame c.loop-index.invariant (subst (λ v. AddsOnes c.loop-index.frame w.put.new.frame (IsBitBelow w.index-signals-index.result v w.index-signals-index.result.length)) (to_z-of_z w128 (slice_index_or c.args.values.now c.loop-index.index (pos 0)) (search rules)) w.put.ensures) (c.active.ensures.0 w.if-active.true) at (value_of c.args.values.now c.loop-index.index (pos 0) within))
  | else-active w ↦ subst (λ (frame : List ℕ). AddsOnes (replicate (length c.args.frame.now) 0) frame (IsSetBelow c.args.message.now (map Some c.args.values.now) (c.loop-index.index + 1))) (sym w.frame-is)
      (inactive_signal c.args.message.now (map Some c.args.values.now) c.loop-index.index (replicate (length c.args.frame.now) 0) c.loop-index.frame c.loop-index.invariant (λ a. absurd (cc (sym w.if-active.false ∙ c.active.ensures.1 a))))
]

pub returns : goal.returns
returns c = framed c.args.message.now (map Some c.args.values.now) (length c.args.frame.now) c.loop-index.frame c.requires.frame (subst (λ n. AddsOnes (replicate (length c.args.frame.now) 0) c.loop-index.frame (IsSetBelow c.args.message.now (map Some c.args.values.now) n)) (let same : c.items-signals.result.now ≡ c.args.message.now.signals = c.items-signals.ensures in let most : c.loop-index.index ≤ length c.items-signals.result.now = c.loop-index.auto.index-end in let least : length c.items-signals.result.now ≤ c.loop-index.index = c.loop-index-test.false in let is : c.loop-index.index ≡ length c.items-signals.result.now = omega arith in is ∙ ap length same) c.loop-index.invariant)
