-- What the name of a file says: the name of its database, and the kind of its text.
use Rattle.std.specs.Prelude.{ℕ, ◌-◌, Bool, ◌==◌, nat_lt, if◌then◌else◌, List, ◌++◌, map, drop, length, codes}
use Rattle.std.specs.List.{after_last, before_last}
use Rattle.std.specs.Str.{bytes_eq}
use Rattle.std.specs.Char.{to_ascii_lowercase}
use Rattle.command_words.specs.CutWord.{up_to_last}
use Rattle.name_rules.specs.Identifier.{identifier_of}

-- the bytes after the last `/`, or all
abbrev pub base_name : List ℕ → List ℕ
base_name path = after_last (λ b. b == 47) path

-- the bytes before the last `.`, or all where there is none or it is the first byte
abbrev pub stem_of : List ℕ → List ℕ
stem_of base = if nat_lt 1 (up_to_last 46 base) then before_last (λ b. b == 46) base else base

-- the name of the database in a file
unfoldable pub database_name : List ℕ → List ℕ
database_name path = identifier_of (stem_of (base_name path))

-- the file that the header is written to
unfoldable pub header_path : List ℕ → List ℕ
header_path path = database_name path ++ codes ".h"

-- the file that the source is written to
unfoldable pub source_path : List ℕ → List ℕ
source_path path = database_name path ++ codes ".c"

-- the path ends in `.sym`, in any case of letters
unfoldable pub is_sym : List ℕ → Bool
is_sym path = bytes_eq (map to_ascii_lowercase (drop (length path - 4) path)) (codes ".sym")
