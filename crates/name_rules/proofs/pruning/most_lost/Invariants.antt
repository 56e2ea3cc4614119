use Rattle.std.proofs.Common.{◌≡◌, ◌<◌, ◌≤◌, ℕ, length, false}
use Rattle.std.specs.List.{list_all}
use Rattle.name_rules.specs.Pruning.{can_lose}
use Rattle.name_rules.proofs.pruning.most_lost.Given as goal

abbrev pub invariant-loop-n : goal.invariant-loop-n
invariant-loop-n l = record {
  within : l.n ≤ l.initial.n;
  more : (k : ℕ) → l.n < k → k ≤ length l.first → list_all (can_lose l.first k) l.names ≡ false;
}

abbrev pub decreases-loop-n : goal.decreases-loop-n
decreases-loop-n l = l.n
