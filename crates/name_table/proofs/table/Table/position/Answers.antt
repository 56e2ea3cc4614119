use Rattle.std.proofs.Common.{ℕ, List, bytes_eq, ap, ◌∙◌}
use Rattle.std.specs.Prelude.{position}
use Rattle.name_table.proofs.Tables.{position-named}
use Rattle.name_table.proofs.table.Table.position.Goals as goal

pub returns-clause-position : goal.returns-clause-position
returns-clause-position g c =
    c.get_index_of.ensures.index
    ∙ position-named c.args.name.now c.self.inside.entries.entries
    ∙ ap (position (λ (e : List ℕ × g.row.V.Denot). bytes_eq c.args.name.now e.0)) c.self.view_is
