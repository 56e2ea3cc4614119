use Rattle.std.proofs.Common.{◌++◌, map, ap, ◌∙◌}
use Rattle.std.specs.Option.{option_copied}
use Rattle.c_pre.specs.Shown.{shown, told, cut}
use Rattle.c_pre.specs.Merging.{merged}
use Rattle.c_pre.proofs.Cut.{line-on}
use Rattle.c_pre.proofs.cutting.lines_of.Goals as goal

pub loop-left-preserved : goal.loop-left-preserved
loop-left-preserved c =
    let beside = option_copied c.args.beside in
    let next = line-on beside c.loop-left.lines.items c.line_of.result c.loop-left.left.now c.line_length.result c.split_at.result.0.now c.split_at.result.1.now (map (told beside) (merged (cut c.args.tokens.now)))
    c.line_length.ensures.first c.split_at.ensures.front c.split_at.ensures.back c.line_of.ensures c.loop-left.invariant in
    ap (λ ls. map shown ls ++ map (told beside) (merged (cut c.split_at.result.1.now))) c.in_ok-push.ensures.items ∙ next
