use Rattle.std.proofs.Common.{sym, ◌∙◌}
use Rattle.std.specs.Option.{option_copied}
use Rattle.c_pre.proofs.Cut.{text-told}
use Rattle.c_pre.proofs.directive.line_of.Goals as goal

pub returns-else-begins_directive : goal.returns-else-begins_directive
returns-else-begins_directive c =
    text-told (option_copied c.args.beside) c.args.tokens.now c.first-item.result c.in-len1-up.len_at_least c.first-item.is
    (sym c.begins_directive.ensures ∙ c.if-begins_directive.false)
