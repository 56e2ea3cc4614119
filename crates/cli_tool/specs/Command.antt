-- What the words of the command line ask for.
use Rattle.std.specs.Prelude.{ℕ, ◌%◌, Bool, ◌&&◌, ◌==◌, if◌then◌else◌, List, [], ◌∷◌, length, codes}
use Rattle.std.specs.List.{list_all}
use Rattle.std.specs.Str.{bytes_eq, is_utf8}
use Rattle.std.specs.declared.option.Option.{Option}
use Rattle.std.specs.declared.option.Option.TheVariants.{None, Some}
use Rattle.std.specs.Char.{is_ascii_hexdigit}
use Rattle.command_words.specs.NumberWord.{is_number}
use Rattle.c_widths.specs.DataModel.{DataModel, ilp32, lp64}

pub data Command : Type 0 where
  -- the C header and the C source of the database in this file
  generate_c_source : (file : List ℕ) → Command
  -- whether the C texts in these files have a fault
  check : (header source : List ℕ) → Command
  -- a call of a function of the C texts in these files, under a data model, with arguments that words spell
  exec : (header source : List ℕ) (model : DataModel) (function : List ℕ) (words : List (List ℕ)) → Command
  -- the frame of a message of the database in this file, in which signals have the values that words give them
  encode : (file message : List ℕ) (words : List (List ℕ)) → Command
  -- the values of the message with this number, in the frame that these digits spell
  decode : (file number digits : List ℕ) → Command

abbrev pub model_named : List ℕ → Option DataModel
model_named word =
    if bytes_eq word (codes "ilp32") then Some ilp32
    else if bytes_eq word (codes "lp64") then Some lp64
    else None

-- ---- what stands behind the name of a command

abbrev pub generate_in : List (List ℕ) → Option Command
generate_in (file ∷ []) = Some (generate_c_source file)
generate_in words = None

abbrev pub check_in : List (List ℕ) → Option Command
check_in (header ∷ source ∷ []) = Some (check header source)
check_in words = None

abbrev pub call_of : List ℕ → List ℕ → List ℕ → List (List ℕ) → Option DataModel → Option Command
call_of header source function words None = None
call_of header source function words (Some model) = Some (exec header source model function words)

abbrev pub exec_in : List (List ℕ) → Option Command
exec_in (header ∷ source ∷ model ∷ function ∷ words) = call_of header source function words (model_named model)
exec_in words = None

abbrev pub encode_in : List (List ℕ) → Option Command
encode_in (file ∷ message ∷ words) = Some (encode file message words)
encode_in words = None

-- pairs of hexadecimal digits
abbrev pub are_pairs : List ℕ → Bool
are_pairs digits = length digits % 2 == 0 && list_all is_ascii_hexdigit digits

abbrev pub decode_in : List (List ℕ) → Option Command
decode_in (file ∷ number ∷ digits ∷ []) = if is_number number && are_pairs digits then Some (decode file number digits) else None
decode_in words = None

-- ---- all words

-- the command that texts are, if they are one
abbrev pub command_in : List (List ℕ) → Option Command
command_in [] = None
command_in (name ∷ words) =
    if bytes_eq name (codes "generate_c_source") then generate_in words
    else if bytes_eq name (codes "check") then check_in words
    else if bytes_eq name (codes "exec") then exec_in words
    else if bytes_eq name (codes "encode") then encode_in words
    else if bytes_eq name (codes "decode") then decode_in words
    else None

-- the command that the words are, if they are one; words of which one is no UTF-8 are none
abbrev pub command_of : List (List ℕ) → Option Command
command_of words = if list_all is_utf8 words then command_in words else None
