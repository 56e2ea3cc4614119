use Rattle.std.proofs.Common.{sym, ◌∙◌, arith}
use Rattle.c_expression.specs.Before.{before_of}
use Rattle.c_expression.proofs.Growing.{token-at}
use Rattle.c_expression.proofs.Growth.{depth-next, before-next, tight-more, first-joint}
use Rattle.c_expression.proofs.joints.first_joint.Goals as goal

pub returns-then-is_joint-clause-some : goal.returns-then-is_joint-clause-some
returns-then-is_joint-clause-some c =
    let ts = c.args.tokens.now in
    let i = c.loop-i.i in
    let t = c.index-tokens-i.result in
    first-joint ts i t (token-at i ts t c.loop-i-test.true c.index-tokens-i.is) c.loop-i.depth (before_of ts i c.loop-i.before) c.loop-i.invariant.flat c.loop-i.invariant.state c.loop-i.invariant.none
    (sym (c.is_joint.ensures ts i) ∙ c.if-is_joint.true)

pub loop-i-preserved : goal.loop-i-preserved
loop-i-preserved c =
    let ts = c.args.tokens.now in
    let i = c.loop-i.i in
    let t = c.index-tokens-i.result in
    let at = token-at i ts t c.loop-i-test.true c.index-tokens-i.is in
    let before = before_of ts i c.loop-i.before in
    let inv = c.loop-i.invariant in
    record {
      shallow = omega (arith, c.depth_after-depth.ensures.small, inv.shallow);
      from = c.behind-before.ensures.from;
      flat = c.depth_after-depth.ensures.value ∙ depth-next ts i t at c.loop-i.depth inv.flat;
      state = c.behind-before.ensures.value ∙ before-next ts i t at before inv.state;
      none = tight-more ts i t at c.loop-i.depth before inv.flat inv.state inv.none (sym (c.is_joint.ensures ts i) ∙ c.if-is_joint.false);
    }
