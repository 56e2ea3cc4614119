use Rattle.std.proofs.Common.{◌≡◌, ◌≤◌, ℕ, length, take, bytes_eq}
use Rattle.std.specs.Prelude.{nat_le}
use Rattle.std.specs.List.{list_all}
use Rattle.name_rules.proofs.pruning.shared_front.Given as goal

abbrev pub invariant-loop-name : goal.invariant-loop-name
invariant-loop-name l = record {
  within : l.shared ≤ length l.first;
  shared : (n : ℕ) → n ≤ length l.first → list_all (λ x. bytes_eq (take n x) (take n l.first)) (take l.name-index l.names) ≡ nat_le n l.shared;
}
