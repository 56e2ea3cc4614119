-- Cells that hold a value each, or none yet (ISO/IEC 9899:1999, 6.2.4 and 6.7.8p10).
use Rattle.std.specs.Prelude.{ℕ, Bool, false, nat_lt, List, ◌++◌, length, drop, replicate, slice_get, slice_set, Option, Some, None, Result, Ok, Err, ℤ, pos, negsuc}
use Rattle.c_mem.specs.declared.undefined.Undefined.{Undefined}
use Rattle.c_mem.specs.declared.undefined.Undefined.TheVariants.{OutOfBounds, Indeterminate}

abbrev pub CellsOf : Type 0 → Type 0
CellsOf A = List (Option A)

-- the cell of a number, counted from 0, where there is one
abbrev pub cell : {A : Type 0} → CellsOf A → ℤ → Option (Option A)
cell cells (pos n) = slice_get cells n
cell cells (negsuc n) = None

abbrev pub has : {A : Type 0} → CellsOf A → ℤ → Bool
has cells (pos n) = nat_lt n (length cells)
has cells (negsuc n) = false

abbrev pub held : {A : Type 0} → Option (Option A) → Result A Undefined
held None = Err OutOfBounds
held (Some None) = Err Indeterminate
held (Some (Some value)) = Ok value

abbrev pub load : {A : Type 0} → CellsOf A → ℤ → Result A Undefined
load cells number = held (cell cells number)

abbrev pub with_value : {A : Type 0} → CellsOf A → ℤ → A → CellsOf A
with_value cells (pos n) value = slice_set cells n (Some value)
with_value cells (negsuc n) value = cells

-- the first cells with one value
abbrev pub filled : {A : Type 0} → CellsOf A → A → ℕ → CellsOf A
filled cells value count = replicate count (Some value) ++ drop count cells
