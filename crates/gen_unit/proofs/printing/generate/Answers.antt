-- The bytes are the texts of the definitions, and the pair of these is faithful.
use Rattle.std.proofs.Common.{ℕ, List, sym, ap, subst, ◌∙◌}
use Rattle.gen_unit.specs.Faithful.{Faithful}
use Rattle.gen_unit.specs.Header.{header_text}
use Rattle.gen_unit.specs.Source.{source_text}
use Rattle.gen_unit.proofs.PairMeaning.{pair-is-faithful}
use Rattle.gen_unit.proofs.printing.generate.Goals as goal

pub returns-clause-texts : goal.returns-clause-texts
returns-clause-texts c =
    let names = c.args.names.now in (
      c.in_ok-header.ensures ∙ ap (λ ms. header_text ms names) c.items-messages.ensures,
      c.in_ok-source.ensures ∙ ap (λ ms. source_text c.args.name.now ms names) c.items-messages.ensures,
    )

pub returns-clause-faithful : goal.returns-clause-faithful
returns-clause-faithful c = λ d.
    let name = c.args.name.now in
    let ms = c.args.db.now.messages in
    let names = c.args.names.now in
    let header = c.in_ok-header.field-0.items in
    let faithful = pair-is-faithful name c.args.db.now names d c.requires.valid c.requires.flat in
    subst (λ (s : List ℕ). Faithful name ms names header s) (sym (c.in_ok-source.ensures ∙ ap (λ ms. source_text name ms names) c.items-messages.ensures))
    (subst (λ (h : List ℕ). Faithful name ms names h (source_text name ms names)) (sym (c.in_ok-header.ensures ∙ ap (λ ms. header_text ms names) c.items-messages.ensures)) faithful)
