use Rattle.std.proofs.Common.{[], ◌++◌, map, drop, ap, sym, ◌∙◌, ◌+◌}
use Rattle.c_text.specs.Conditional as mean
use Rattle.c_pre.specs.Shown.{shown}
use Rattle.c_pre.specs.Balance.{endings, endings_behind}
use Rattle.c_pre.proofs.Whole.{line-on, endings-step, shown-next}
use Rattle.c_pre.proofs.balancing.balanced.Goals as goal

pub loop-line-preserved : goal.loop-line-preserved
loop-line-preserved c =
    let l = c.line-item.result in
    let rest = map shown (drop (c.loop-line.line-index + 1) c.args.lines.now) in
    let e = shown-next c.args.lines.now c.loop-line.line-index l c.line-item.is c.loop-line-test.true in
    let made = c.in_ok-balanced_line.ensures in
    let ended = c.loop-line.invariant.ended_is ∙ ap endings e in
    let all = mean.balanced [] (map shown c.args.lines.now) in
    record {
      told =
          ap (λ ls. map shown ls ++ mean.balanced c.balanced_line.new.elses rest) c.in_ok-push.ensures.items
          ∙ line-on c.loop-line.list.items l c.in_ok-balanced_line.field-0 c.loop-line.elses c.loop-line.ended c.balanced_line.new.elses rest all ended made.line made.elses
          (sym (ap (λ ls. map shown c.loop-line.list.items ++ mean.balanced c.loop-line.elses ls) e) ∙ c.loop-line.invariant.told);
      ended_is = made.ended ∙ ap (λ f. endings_behind f (shown l)) ended ∙ endings-step (shown l) rest;
    }
