use Rattle.std.proofs.Common.{ap, ◌∙◌}
use Rattle.std.specs.Option.{option_copied}
use Rattle.cg_out.specs.Words.{or_else}
use Rattle.dbc_build.specs.Facts.{attribute_of}
use Rattle.dbc_build.specs.Tables.{is_about}
use Rattle.dbc_build.proofs.Noting.{copied-or}
use Rattle.dbc_build.proofs.facts.Facts.attribute.Goals as goal

pub returns : goal.returns
returns c =
    let given = ap option_copied (c.copied-given.ensures ∙ c.get.ensures.value) ∙ c.self.invariant.attribute c.args.name c.args.subject in
    let default = ap option_copied (c.copied.ensures ∙ c.get-2.ensures.value) ∙ c.self.invariant.default c.args.name in
    ap option_copied c.or.ensures
    ∙ copied-or c.copied-given.result c.copied.result
    ∙ ap (λ o. or_else o (option_copied c.copied.result)) given
    ∙ ap (or_else _) default
    ∙ ap (attribute_of c.args.name.now (is_about c.args.subject)) c.self.view_is
