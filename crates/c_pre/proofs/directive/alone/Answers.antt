use Rattle.std.proofs.Common.{◌∙◌, sym}
use Rattle.c_pre.specs.Shown.{shown}
use Rattle.c_pre.proofs.Seen.{none_follow-more}
use Rattle.c_pre.proofs.directive.alone.Goals as goal

pub returns-in-len1-up : goal.returns-in-len1-up
returns-in-len1-up c = λ end. c.bad_directive.ensures ∙ sym (none_follow-more c.args.hash (shown c.args.line) end c.args.tokens.now c.in-len1-up.len_at_least)
