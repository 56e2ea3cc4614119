use Rattle.std.proofs.Common.{length, ◌-◌}
use Rattle.c_parser.specs.Signs.{AreSigns}
use Rattle.c_parser.proofs.case_value.signs.Given as goal

abbrev pub invariant-loop-op : goal.invariant-loop-op
invariant-loop-op l = AreSigns l.tokens l.count l.signs.items

abbrev pub decreases-loop-op : goal.decreases-loop-op
decreases-loop-op l = length l.tokens - l.count
