use Rattle.std.proofs.Common.{◌≡◌, ◌≤◌, ◌-◌, length, Bool}
use Rattle.c_parser.specs.Pending.{around, read_from, resumed}
use Rattle.c_parser.proofs.pending.descend.Given as goal

abbrev pub invariant-loop-place : goal.invariant-loop-place
invariant-loop-place l = record {
  behind : l.initial.at ≤ l.at;
  within : l.at ≤ length l.tokens;
  same : (may : Bool) → resumed (around may l.room l.tokens l.after) l.pending.items (read_from (around may l.room l.tokens l.after) l.at)
      ≡ resumed (around may l.room l.tokens l.after) l.initial.pending.items (read_from (around may l.room l.tokens l.after) l.initial.at);
}

abbrev pub decreases-loop-place : goal.decreases-loop-place
decreases-loop-place l = length l.tokens - l.at
