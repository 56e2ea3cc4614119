-- The fields of a struct in a word: `a=1,b=-2`, where a field that is not named has no value.
use Rattle.std.specs.Prelude.{ℕ, ◌==◌, List, [], ◌∷◌, length, replicate, Option, Some, None, ℤ, slice_get, slice_set}
use Rattle.std.specs.List.{slice_split}
use Rattle.std.specs.Option.{option_and_then}
use Rattle.c_tree.specs.declared.item.Field.{Field}
use Rattle.c_mem.specs.Cells.{CellsOf}
use Rattle.c_widths.specs.DataModel.{DataModel}
use Rattle.c_types.specs.ExpressionTypes.{integer_type}
use Rattle.c_types.specs.FieldNamed.{field_named}
use Rattle.command_words.specs.CutWord.{cut_at}
use Rattle.exec_words.specs.NumberWord.{number_of}

-- the cell has its value now, where it had none
abbrev pub given_once : CellsOf ℤ → ℕ → ℤ → Option (Option ℤ) → Option (CellsOf ℤ)
given_once cells n number (Some None) = Some (slice_set cells n (Some number))
given_once cells n number other = None

abbrev pub with_number : CellsOf ℤ → ℕ → Option ℤ → Option (CellsOf ℤ)
with_number cells n None = None
with_number cells n (Some number) = given_once cells n number (slice_get cells n)

abbrev pub with_field : DataModel → CellsOf ℤ → List ℕ → Option (ℕ × Field) → Option (CellsOf ℤ)
with_field m cells word None = None
with_field m cells word (Some (n, f)) = with_number cells n (number_of m (integer_type m f.kind) word)

-- behind one part
abbrev pub with_named : DataModel → List Field → CellsOf ℤ → Option (List ℕ × List ℕ) → Option (CellsOf ℤ)
with_named m fields cells None = None
with_named m fields cells (Some (name, word)) = with_field m cells word (field_named name fields)

-- a name and a number on both sides of the first `=`
abbrev pub with_part : DataModel → List Field → List ℕ → CellsOf ℤ → Option (CellsOf ℤ)
with_part m fields part cells = with_named m fields cells (cut_at 61 part)

-- behind several
abbrev pub with_parts : DataModel → List Field → List (List ℕ) → CellsOf ℤ → Option (CellsOf ℤ)
with_parts m fields [] cells = Some cells
with_parts m fields (part ∷ parts) cells = option_and_then (with_parts m fields parts) (with_part m fields part cells)

-- what is cut at commas; nothing at all is no part
abbrev pub parts_of : List ℕ → List (List ℕ)
parts_of [] = []
parts_of word = slice_split (λ b. b == 44) word

-- the cells that a word gives the fields
abbrev pub cells_in : DataModel → List Field → List ℕ → Option (CellsOf ℤ)
cells_in m fields word = with_parts m fields (parts_of word) (replicate (length fields) None)
