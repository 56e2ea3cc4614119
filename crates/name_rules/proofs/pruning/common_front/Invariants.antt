use Rattle.std.proofs.Common.{◌≡◌, ◌+◌, ◌-◌, length, drop}
use Rattle.name_rules.specs.Fronts.{front_len}
use Rattle.name_rules.proofs.pruning.common_front.Given as goal

abbrev pub invariant-loop-n : goal.invariant-loop-n
invariant-loop-n l = l.n + front_len (drop l.n l.a) (drop l.n l.b) ≡ front_len l.a l.b

abbrev pub decreases-loop-n : goal.decreases-loop-n
decreases-loop-n l = length l.a - l.n
