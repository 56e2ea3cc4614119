use Rattle.std.proofs.Common.{◌≡◌, ◌++◌, length}
use Rattle.gen_pack.proofs.InPairs.{put_by}
use Rattle.gen_unit.proofs.CalledParts.{text_of_message}
use Rattle.gen_unit.proofs.source_unit.print_functions.Given as goal

abbrev pub invariant-loop-m : goal.invariant-loop-m
invariant-loop-m l = l.out.items ≡ l.fn.out.items ++ put_by text_of_message l.messages l.names (length l.yielded)
