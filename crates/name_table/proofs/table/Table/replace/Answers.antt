use Rattle.std.proofs.Common.{map, ap, sym, ◌∙◌}
use Rattle.std.specs.Option.{option_copied_mut}
use Rattle.std.specs.Prelude.{is_some}
use Rattle.cg_out.specs.Words.{look_up}
use Rattle.name_table.specs.Entries.{named}
use Rattle.name_table.specs.WithValue.{with_value}
use Rattle.name_table.proofs.Tables.{look-lookup, set-with_value, with_value-absent}
use Rattle.name_table.proofs.table.Table.replace.Goals.{in-Some, in_default}
use Rattle.name_table.proofs.table.Table.replace.Goals as goal

pub returns-clause-there : goal.returns-clause-there
returns-clause-there g c =
    let name = c.args.name.now in
    let found = ap (look_up name) (sym c.self.view_is) ∙ look-lookup name c.self.inside.entries.entries ∙ sym c.get_mut.ensures.value in
    elim c.match-get_mut.branch [
      | in-Some w ↦ w.result-is ∙ sym (ap is_some (found ∙ ap option_copied_mut w.in-Some.is))
      | in_default w ↦ w.result-is ∙ sym (ap is_some (found ∙ ap option_copied_mut w.in_default.is))
    ]

pub returns-clause-value : goal.returns-clause-value
returns-clause-value g c =
    let name = c.args.name.now in
    let value = c.args.value in
    let entries = c.self.inside.entries.entries in
    let found = ap (look_up name) (sym c.self.view_is) ∙ look-lookup name entries ∙ sym c.get_mut.ensures.value in
    elim c.match-get_mut.branch [
      | in-Some w ↦ rw (w.self-inside-is) (ap (map named) (c.get_mut.follows.holds value).0 ∙ set-with_value name value entries ∙ ap (with_value name value) c.self.view_is)
      | in_default w ↦ rw (w.self-inside-is) (ap (λ m. map named m.entries) c.get_mut.follows.holds-at-none ∙ c.self.view_is
          ∙ sym (with_value-absent name value c.args.self.now (found ∙ ap option_copied_mut w.in_default.is)))
    ]
