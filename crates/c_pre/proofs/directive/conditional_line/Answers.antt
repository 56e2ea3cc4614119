use Rattle.std.proofs.Common.{◌∙◌, sym}
use Rattle.c_pre.proofs.Seen.{conditional-more}
use Rattle.c_pre.proofs.directive.conditional_line.Goals as goal

pub returns-in-len2-up : goal.returns-in-len2-up
returns-in-len2-up c = λ end. c.bad_directive-in-len2-up.ensures ∙ sym (conditional-more c.args.hash c.args.wanted end c.args.tokens.now c.in-len2-up.len_at_least)
