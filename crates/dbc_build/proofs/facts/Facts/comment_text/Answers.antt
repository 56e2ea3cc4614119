use Rattle.std.proofs.Common.{ap, ◌∙◌}
use Rattle.std.specs.Option.{option_copied}
use Rattle.dbc_build.specs.Facts.{comment_of}
use Rattle.dbc_build.specs.Tables.{is_about}
use Rattle.dbc_build.proofs.facts.Facts.comment_text.Goals as goal

pub returns : goal.returns
returns c =
    ap option_copied (c.copied.ensures ∙ c.get.ensures.value)
    ∙ c.self.invariant.comment c.args.subject
    ∙ ap (comment_of (is_about c.args.subject)) c.self.view_is
