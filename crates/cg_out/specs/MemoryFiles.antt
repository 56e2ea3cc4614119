-- What files in memory hold, and what their calls leave.
use Rattle.std.specs.Prelude.{ℕ, ◌+◌, if◌then◌else◌, List, length}
use Rattle.std.specs.declared.option.Option.TheVariants.{Some}
use Rattle.std.specs.FinMap.{insert}
use Rattle.cg_out.specs.Outside.{Folder, FilesSeen}
use Rattle.cg_out.specs.InMemory.{Space, History, history_of, fits, next_keep, front_of, told_below}
use Rattle.cg_out.specs.declared.memory_files.MemoryFiles.{MemoryFiles}

abbrev pub files_content : MemoryFiles → Folder
files_content m = m.shelf.0

abbrev pub files_space : MemoryFiles → Space
files_space m = record { bytes = m.shelf.1.0; writes = m.shelf.1.1 }

abbrev pub files_history : MemoryFiles → History
files_history m = history_of m.log

-- what they hold is told, and how many calls there were up to the last value of a counter
abbrev pub files_seen : MemoryFiles → FilesSeen
files_seen m = record { content = Some (files_content m); faults = m.log.faults; calls = told_below m.log.calls }

-- a write takes the bytes of its name and its own
abbrev pub taken_by : List ℕ → List ℕ → ℕ
taken_by name bytes = length name + length bytes

-- the files after a write, which changes nothing where it does not fit
abbrev pub content_after : Folder → Space → History → List ℕ → List ℕ → Folder
content_after content space history name bytes =
    if fits space (taken_by name bytes) then insert content name (front_of (next_keep history) bytes) else content
