use Rattle.std.proofs.Common.{◌≡◌, map}
use Rattle.std.specs.Map.Iter.{deref_pair}
use Rattle.c_pre.proofs.Tables.{entry_macro}
use Rattle.c_pre.proofs.macros.Macros.list.Given as goal

abbrev pub invariant-loop-name : goal.invariant-loop-name
invariant-loop-name l = l.list ≡ map entry_macro (map deref_pair l.yielded)
