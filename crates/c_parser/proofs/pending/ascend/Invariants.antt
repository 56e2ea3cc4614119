use Rattle.std.proofs.Common.{◌≡◌, ℕ, ◌+◌, length, drop, Ok}
use Rattle.c_parser.specs.Pending.{Around, resumed}
use Rattle.c_parser.proofs.pending.ascend.Given as goal

abbrev pub invariant-loop-last : goal.invariant-loop-last
invariant-loop-last l = (a : Around) (end : ℕ) → l.rest ≡ drop (end + 1) a.tokens → resumed a l.initial.pending.items (Ok (l.initial.made, end)) ≡ resumed a l.pending.items (Ok (l.made, end))

abbrev pub decreases-loop-last : goal.decreases-loop-last
decreases-loop-last l = length l.pending.items
