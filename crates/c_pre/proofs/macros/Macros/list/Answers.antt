use Rattle.std.proofs.Common.{◌≡◌, map, ap, ◌∙◌, rules}
use Rattle.std.specs.Map.Iter.{deref_pair}
use Rattle.std.proofs.lemmas.Map.Iter.{iter_end}
use Rattle.c_text.specs.Preprocessing.{macro_of}
use Rattle.c_pre.proofs.Tables.{entry_macro, entries-macros}
use Rattle.c_pre.proofs.macros.Macros.list.Goals as goal

pub returns : goal.returns
returns c =
    let e : map deref_pair c.loop-name.yielded ≡ c.self.inside.table.entries = search (rules, iter_end) in
    c.loop-name.invariant ∙ ap (map entry_macro) e ∙ entries-macros c.self.inside.table.entries ∙ ap (map macro_of) c.self.view_is
