use Rattle.std.proofs.Common.{◌≡◌, map, drop}
use Rattle.std.specs.Ordering.{nat_cmp}
use Rattle.std.specs.Cmp.Lexicographic.{slice_cmp}
use Rattle.std.specs.FinMap as map
use Rattle.cg_out.specs.Slots.{pair_of}
use Rattle.cg_out.proofs.shelf.Shelf.find.Given as goal

abbrev pub invariant-loop-s : goal.invariant-loop-s
invariant-loop-s l = map.find (slice_cmp nat_cmp) l.name (map (pair_of l.self-inside.arena.items) (drop l.s-index l.self-inside.slots.items)) ≡ map.get l.self.0 l.name
