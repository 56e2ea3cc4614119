-- Files kept one after another in one run of bytes.
use Rattle.std.specs.Prelude.{ℕ, ◌≤◌, List, map, length, slice_range}
use Rattle.std.specs.List.{AllByRecursion}
use Rattle.std.specs.FinMap.{from_entries}
use Rattle.cg_out.specs.Outside.{Folder}
use Rattle.cg_out.specs.declared.shelf.Slot.{Slot}

-- the name and the bytes of a slot
abbrev pub pair_of : List ℕ → Slot → List ℕ × List ℕ
pair_of arena s = (slice_range arena s.start s.middle, slice_range arena s.middle s.end)

-- the files of the slots, of which the first counts
abbrev pub folder_of : List ℕ → List Slot → Folder
folder_of arena slots = from_entries (map (pair_of arena) slots)

pub record IsWithin (arena : List ℕ) (s : Slot) : Type 0 where
  pub name : s.start ≤ s.middle
  pub bytes : s.middle ≤ s.end
  pub inside : s.end ≤ length arena

abbrev pub AreWithin : List ℕ → List Slot → Type 0
AreWithin arena slots = AllByRecursion (IsWithin arena) slots
