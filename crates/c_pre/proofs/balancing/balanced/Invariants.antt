use Rattle.std.proofs.Common.{◌≡◌, [], ◌++◌, drop, map}
use Rattle.c_text.specs.Conditional as mean
use Rattle.c_pre.specs.Shown.{shown}
use Rattle.c_pre.specs.Balance.{endings}
use Rattle.c_pre.proofs.balancing.balanced.Given as goal

abbrev pub invariant-loop-line : goal.invariant-loop-line
invariant-loop-line l = record {
  told : map shown l.list.items ++ mean.balanced l.elses (map shown (drop l.line-index l.lines)) ≡ mean.balanced [] (map shown l.lines);
  ended_is : l.ended ≡ endings (map shown (drop l.line-index l.lines));
}
