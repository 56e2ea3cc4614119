use Rattle.std.proofs.Common.{[], ◌∷◌, length, ap, length-append, arith}
use Rattle.c_pre.proofs.Skipping.{line-kept}
use Rattle.c_pre.proofs.parts.file_lines.Goals as goal

pub loop-at-preserved : goal.loop-at-preserved
loop-at-preserved c =
    let es = c.loop-at.list.items in
    let long = c.loop-at.list.ok.0 in
    let kept = line-kept c.args.lines.now c.loop-at.at c.len.result c.in_ok-end.end c.loop-at.ends c.end_of_part.new.ends c.index-lines-at.result es c.push.new.self.items
    (omega arith) (omega arith) c.index-lines-at.is (omega (arith, long)) c.in_ok-end.ensures.end c.in_ok-end.ensures.ends c.in_ok-push.ensures.items
    c.loop-at.invariant.lines_are c.loop-at.invariant.open_known c.loop-at.invariant.ends_known in
    record {
      lines_are = kept.0;
      long = omega (arith, ap length c.in_ok-push.ensures.items, length-append es (record { line = c.index-lines-at.result; end = c.in_ok-end.end } ∷ []));
      open_known = kept.1;
      ends_known = kept.2;
    }
