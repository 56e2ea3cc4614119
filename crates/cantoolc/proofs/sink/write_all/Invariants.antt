-- What is gone from the bytes that are left was appended.
use Rattle.std.proofs.Common.{◌≡◌, ℕ, List, ◌++◌}
use Rattle.std.specs.Io.KnownBytes.{Appends}
use Rattle.cantoolc.proofs.sink.write_all.Given as goal

abbrev pub invariant-loop : goal.invariant-loop
invariant-loop g l = (done : List ℕ) × (l.bytes ≡ done ++ l.left) × Appends (g.W.Write.contents l.fn.to) (g.W.Write.contents l.to) done
