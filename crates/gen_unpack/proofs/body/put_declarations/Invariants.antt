use Rattle.std.proofs.Common.{◌≡◌, ◌++◌, map, length}
use Rattle.c_tree.specs.BareStatement.{bare_statement}
use Rattle.gen_pack.specs.PackTree.{declared}
use Rattle.gen_pack.proofs.InPairs.{put_by, of_pair}
use Rattle.gen_unpack.proofs.body.put_declarations.Given as goal

abbrev pub invariant-loop-signal : goal.invariant-loop-signal
invariant-loop-signal l = map bare_statement l.out ≡ map bare_statement l.fn.out ++ put_by (of_pair declared) l.signals l.names (length l.yielded)
