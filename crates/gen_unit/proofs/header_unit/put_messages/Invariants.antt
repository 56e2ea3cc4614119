use Rattle.std.proofs.Common.{◌≡◌, ◌++◌, length}
use Rattle.c_printer.specs.BarePart.{bare_parts}
use Rattle.gen_pack.proofs.InPairs.{put_by}
use Rattle.gen_unit.specs.Header.{message_parts}
use Rattle.gen_unit.proofs.header_unit.put_messages.Given as goal

abbrev pub invariant-loop-m : goal.invariant-loop-m
invariant-loop-m l = bare_parts l.parts ≡ bare_parts l.fn.parts ++ put_by (λ p. message_parts p.0 p.1) l.messages l.names (length l.yielded)
