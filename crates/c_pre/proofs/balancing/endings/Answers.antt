use Rattle.std.proofs.Common.{◌∷◌, ◌-◌, ap, sym, ◌∙◌, nat_lt, map, drop, arith}
use Rattle.c_pre.specs.declared.line.Line.TheVariants.{Conditional}
use Rattle.c_pre.specs.Shown.{shown}
use Rattle.c_pre.specs.Balance.{open_ends, endings}
use Rattle.c_pre.proofs.Whole.{is_ended-open, shown-last}
use Rattle.c_pre.proofs.balancing.endings.Goals as goal

pub loop-at-preserved-in-Conditional : goal.loop-at-preserved-in-Conditional
loop-at-preserved-in-Conditional c =
    let before = map shown (drop c.loop-at.at c.args.lines.now) in
    let l = Conditional c.in-Conditional.hash c.in-Conditional.wanted c.in-Conditional.name in
    let e = shown-last c.args.lines.now c.loop-at.at _ l c.in-Conditional.is (omega arith) (omega arith) in
    record {
      told =
          c.in_ok-push-in-Conditional.ensures
          ∙ (λ i. (ap (nat_lt 0) c.loop-at.invariant.open_is ∙ sym (is_ended-open 0 before)) i ∷ c.loop-at.invariant.told i)
          ∙ sym (ap endings e);
      open_is = c.saturating_sub-open.ensures ∙ ap (λ n. n - 1) c.loop-at.invariant.open_is ∙ sym (ap open_ends e);
      within = omega arith;
    }
