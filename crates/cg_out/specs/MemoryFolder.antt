-- The files that entries make.
use Rattle.std.specs.Prelude.{List, [], ◌∷◌}
use Rattle.std.specs.FinMap.{insert}
use Rattle.cg_out.specs.Outside.{Folder}
use Rattle.cg_out.specs.declared.memory_files.Entry.{Entry}

-- the files after each entry was set in order, so the last of equal names counts
abbrev pub folder_after : Folder → List Entry → Folder
folder_after files [] = files
folder_after files (e ∷ es) = folder_after (insert files e.name e.bytes) es
