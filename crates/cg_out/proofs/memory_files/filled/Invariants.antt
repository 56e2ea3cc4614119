use Rattle.std.proofs.Common.{◌≡◌, ◌+◌, length, drop}
use Rattle.std.specs.Prelude.{sum_by}
use Rattle.std.specs.FinMap as map
use Rattle.cg_out.specs.MemoryFolder.{folder_after}
use Rattle.cg_out.proofs.memory_files.filled.Given as goal

abbrev pub invariant-loop-e : goal.invariant-loop-e
invariant-loop-e l = record {
  files : folder_after l.shelf.0 (drop l.e-index l.entries) ≡ folder_after map.empty l.entries;
  room : l.shelf.1.0 ≡ l.room + sum_by (λ e. length e.name + length e.bytes) (drop l.e-index l.entries);
  places : l.shelf.1.1 ≡ 64 + length (drop l.e-index l.entries);
}
