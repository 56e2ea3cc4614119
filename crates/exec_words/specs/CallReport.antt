-- What is told of a call: its value and what its objects hold, or the undefined behaviour that it met.
use Rattle.std.specs.Prelude.{ℕ, ◌+◌, Bool, true, false, List, [], ◌∷◌, ◌++◌, codes, Option, Some, None, ℤ, slice_get}
use Rattle.std.specs.Fmt.{decimal, signed_decimal}
use Rattle.hex.specs.Hex.{encode_lower}
use Rattle.c_text.specs.declared.place.Place.{Place}
use Rattle.c_tree.specs.declared.item.Field.{Field}
use Rattle.c_mem.specs.declared.objects.Object.{Object}
use Rattle.c_mem.specs.declared.objects.Object.TheVariants.{Bytes, Fields}
use Rattle.c_mem.specs.declared.objects.Pointer.TheVariants.{At}
use Rattle.c_mem.specs.declared.undefined.Undefined.{Undefined}
use Rattle.c_mem.specs.declared.undefined.Undefined.TheVariants as kind
use Rattle.c_mem.specs.Cells.{CellsOf}
use Rattle.c_effect.specs.declared.state.Arg.{Arg}
use Rattle.c_effect.specs.declared.state.Arg.TheVariants as arg
use Rattle.c_effect.specs.declared.state.Outcome.{Outcome}
use Rattle.c_effect.specs.declared.state.Outcome.TheVariants.{Returned, Undefined as undefined}
use Rattle.cg_out.specs.Words.{look_up}

-- ---- undefined behaviour

abbrev pub kind_name : Undefined → List ℕ
kind_name kind.ShiftCount = codes "ShiftCount"
kind_name kind.ShiftOverflow = codes "ShiftOverflow"
kind_name kind.NegativeRightShift = codes "NegativeRightShift"
kind_name kind.Overflow = codes "Overflow"
kind_name kind.NullUse = codes "NullUse"
kind_name kind.OutOfBounds = codes "OutOfBounds"
kind_name kind.Indeterminate = codes "Indeterminate"
kind_name kind.NoValue = codes "NoValue"

abbrev pub text_named : Bool → List ℕ
text_named true = codes " header line "
text_named false = codes " source line "

-- its kind, and the text and line that show it
unfoldable pub undefined_report : Undefined → Place → List ℕ
undefined_report kind place = codes "undefined " ++ kind_name kind ++ text_named place.header ++ decimal place.line ++ codes "\n"

-- ---- values

abbrev pub value_text : Option ℤ → List ℕ
value_text None = []
value_text (Some z) = codes " " ++ signed_decimal z

-- ---- objects

-- two hexadecimal digits, or `--` where there is no value
abbrev pub byte_text : Option ℕ → List ℕ
byte_text None = codes "--"
byte_text (Some byte) = encode_lower (byte ∷ [])

abbrev pub bytes_text : CellsOf ℕ → List ℕ
bytes_text [] = []
bytes_text (cell ∷ cells) = byte_text cell ++ bytes_text cells

abbrev pub number_text : Option ℤ → List ℕ
number_text None = codes "?"
number_text (Some z) = signed_decimal z

abbrev pub field_text : Field → Option ℤ → List ℕ
field_text f cell = f.name ++ codes "=" ++ number_text cell

-- the others behind a blank each
abbrev pub further_text : List Field → CellsOf ℤ → List ℕ
further_text (f ∷ fs) (cell ∷ cells) = codes " " ++ field_text f cell ++ further_text fs cells
further_text fs cells = []

abbrev pub fields_text : List Field → CellsOf ℤ → List ℕ
fields_text (f ∷ fs) (cell ∷ cells) = field_text f cell ++ further_text fs cells
fields_text fs cells = []

abbrev pub fields_of : Option (List Field) → List Field
fields_of None = []
fields_of (Some fields) = fields

abbrev pub object_text : List (List ℕ × List Field) → Object → List ℕ
object_text structs (Bytes cells) = bytes_text cells
object_text structs (Fields tag cells) = fields_text (fields_of (look_up tag structs)) cells

-- ---- arguments, counted from 1; one that is no object is not told

abbrev pub argument_line : List (List ℕ × List Field) → ℕ → Option Object → List ℕ
argument_line structs n None = []
argument_line structs n (Some object) = codes "arg " ++ decimal n ++ codes ": " ++ object_text structs object ++ codes "\n"

-- the object that a pointer is to
abbrev pub object_at : List Object → Arg → Option Object
object_at objects (arg.Pointer (At n)) = slice_get objects n
object_at objects other = None

abbrev pub argument_lines : List (List ℕ × List Field) → List Object → ℕ → List Arg → List ℕ
argument_lines structs objects n [] = []
argument_lines structs objects n (x ∷ xs) = argument_line structs n (object_at objects x) ++ argument_lines structs objects (n + 1) xs

-- ---- the whole report

abbrev pub report_of : List (List ℕ × List Field) → Outcome → List Arg → List Object → List ℕ
report_of structs (undefined kind place) args objects = undefined_report kind place
report_of structs (Returned value) args objects = codes "return" ++ value_text value ++ codes "\n" ++ argument_lines structs objects 1 args
