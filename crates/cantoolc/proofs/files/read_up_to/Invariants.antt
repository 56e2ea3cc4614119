-- What was appended is what was consumed.
use Rattle.std.proofs.Common.{◌≡◌, ◌+◌, ℕ, List, ◌++◌, length}
use Rattle.std.specs.Io.KnownBytes.{Consumes}
use Rattle.cantoolc.proofs.files.read_up_to.Given as goal

abbrev pub invariant-loop : goal.invariant-loop
invariant-loop g l = record {
  got : List ℕ;
  appended : l.into.items ≡ l.fn.into.items ++ got;
  consumed : Consumes (g.R.Read.remaining l.fn.from) (g.R.Read.remaining l.from) got;
  counted : length got + l.left ≡ l.count;
}
