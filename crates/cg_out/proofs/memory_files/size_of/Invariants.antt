use Rattle.std.proofs.Common.{◌≡◌, ◌+◌, length, take}
use Rattle.std.specs.Prelude.{sum_by}
use Rattle.cg_out.proofs.memory_files.size_of.Given as goal

abbrev pub invariant-loop-e : goal.invariant-loop-e
invariant-loop-e l = l.size ≡ sum_by (λ e. length e.name + length e.bytes) (take l.e-index l.entries)
