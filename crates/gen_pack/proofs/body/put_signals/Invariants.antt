use Rattle.std.proofs.Common.{◌≡◌, ◌++◌, map, length}
use Rattle.c_tree.specs.BareStatement.{bare_statement}
use Rattle.gen_pack.specs.PackTree.{part_put}
use Rattle.gen_pack.proofs.InPairs.{put_by, of_pair}
use Rattle.gen_pack.proofs.body.put_signals.Given as goal

abbrev pub invariant-loop-signal : goal.invariant-loop-signal
invariant-loop-signal l = map bare_statement l.out ≡ map bare_statement l.fn.out ++ put_by (of_pair part_put) l.signals l.names (length l.yielded)
