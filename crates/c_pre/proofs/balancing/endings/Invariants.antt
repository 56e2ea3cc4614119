use Rattle.std.proofs.Common.{◌≡◌, ◌+◌, ◌≤◌, length, drop, map}
use Rattle.c_pre.specs.Shown.{shown}
use Rattle.c_pre.specs.Balance.{open_ends, endings}
use Rattle.c_pre.proofs.balancing.endings.Given as goal

abbrev pub invariant-loop-at : goal.invariant-loop-at
invariant-loop-at l = record {
  told : l.ended ≡ endings (map shown (drop l.at l.lines));
  open_is : l.open ≡ open_ends (map shown (drop l.at l.lines));
  within : l.open + l.at ≤ length l.lines;
}
