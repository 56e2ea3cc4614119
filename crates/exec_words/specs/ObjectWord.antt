-- What a word of the command line makes: `bytes:HEX`, `raw:N` and `struct:f=v,g=w`.
use Rattle.std.specs.Prelude.{ℕ, nat_le, if◌then◌else◌, List, map, replicate, codes, Option, Some, None, Result, Ok, Err, ℤ, pos, negsuc}
use Rattle.std.specs.Option.{option_map, option_and_then}
use Rattle.hex.specs.Hex.{decode_of}
use Rattle.c_tree.specs.declared.item.Field.{Field}
use Rattle.c_tree.specs.declared.item.Target.{Target}
use Rattle.c_tree.specs.declared.item.Target.TheVariants.{Byte, Struct}
use Rattle.c_mem.specs.declared.objects.Object.{Object}
use Rattle.c_mem.specs.declared.objects.Object.TheVariants.{Bytes, Fields}
use Rattle.c_widths.specs.DataModel.{DataModel}
use Rattle.cg_out.specs.Words.{or_else, look_up}
use Rattle.command_words.specs.CutWord.{behind}
use Rattle.command_words.specs.NumberWord.{number_in}
use Rattle.exec_words.specs.StructWord.{cells_in}

-- ---- objects of bytes

-- the most bytes that `raw:` makes
abbrev pub most_raw : ℕ
most_raw = 65536

abbrev pub bytes_read : {E : Type 0} → Result (List ℕ) E → Option Object
bytes_read (Ok bytes) = Some (Bytes (map Some bytes))
bytes_read (Err e) = None

-- pairs of hexadecimal digits, a byte each
abbrev pub bytes_in : List ℕ → Option Object
bytes_in word = bytes_read (decode_of word)

-- so many bytes without a value
abbrev pub raw_of : ℤ → Option Object
raw_of (pos n) = if nat_le n most_raw then Some (Bytes (replicate n None)) else None
raw_of (negsuc n) = None

abbrev pub raw_in : List ℕ → Option Object
raw_in word = option_and_then raw_of (number_in word)

-- ---- objects of fields

abbrev pub fields_in : DataModel → List ℕ → List Field → List ℕ → Option Object
fields_in m tag fields word = option_map (λ cells. Fields tag cells) (cells_in m fields word)

abbrev pub struct_in : DataModel → List ℕ → Option (List Field) → List ℕ → Option Object
struct_in m tag None word = None
struct_in m tag (Some fields) word = fields_in m tag fields word

-- ---- both

-- an object that a pointer of this target is to
abbrev pub object_in : DataModel → List (List ℕ × List Field) → Target → List ℕ → Option Object
object_in m structs Byte word =
    or_else (option_and_then bytes_in (behind (codes "bytes:") word)) (option_and_then raw_in (behind (codes "raw:") word))
object_in m structs (Struct tag) word = option_and_then (struct_in m tag (look_up tag structs)) (behind (codes "struct:") word)
