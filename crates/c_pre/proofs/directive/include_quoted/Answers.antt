use Rattle.std.proofs.Common.{◌∙◌, sym}
use Rattle.std.specs.Option.{option_copied}
use Rattle.c_pre.proofs.Seen.{quoted-more}
use Rattle.c_pre.proofs.directive.include_quoted.Goals as goal

pub returns-in-len1-up : goal.returns-in-len1-up
returns-in-len1-up c = λ end. c.bad_directive.ensures ∙ sym (quoted-more (option_copied c.args.beside) c.args.hash c.args.name.now end c.args.rest.now c.in-len1-up.len_at_least)
