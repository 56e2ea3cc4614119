-- The header of a database, as a list of parts.
use Rattle.std.specs.Prelude.{ℕ, Bool, true, false, if◌then◌else◌, List, [], ◌∷◌, ◌++◌, codes, Some, None}
use Rattle.std.specs.List.{flat_map, zip}
use Rattle.can_model.specs.declared.database.Message.{Message}
use Rattle.name_rules.specs.declared.table.SymbolTable.{SymbolTable}
use Rattle.name_rules.specs.declared.table.MessageNames.{MessageNames}
use Rattle.c_tree.specs.BareExpression.{Tree, constant, bracket}
use Rattle.c_printed.specs.PrintedUnit.{Part, blank, include, define, if_not_defined, end_if, routine, unit_text}
use Rattle.gen_unit.specs.Comments.{opening_text, remark, after_blank}
use Rattle.gen_unit.specs.HeaderStruct.{struct_part}
use Rattle.gen_pack.specs.PackTree.{error_name, pack_head}

-- ---- the words that stand in every header

unfoldable pub bool_header : List ℕ
bool_header = codes "stdbool.h"

unfoldable pub size_header : List ℕ
size_header = codes "stddef.h"

unfoldable pub integer_header : List ℕ
integer_header = codes "stdint.h"

-- the name of the header of a database
abbrev pub header_name : List ℕ → List ℕ
header_name name = name ++ codes ".h"

-- ---- comments

-- what is said of a message
abbrev pub about : Message → List ℕ
about m = codes "Message " ++ m.name ++ after_blank m.comment

-- ---- messages

-- a constant without `l`
abbrev pub number : ℕ → ℕ → Bool → Tree
number value base unsigned = constant (record { value = value; base = base; unsigned = unsigned; longs = 0 })

-- a macro whose body is a constant in brackets
abbrev pub constant_macro : List ℕ → Tree → Part
constant_macro name t = define name (Some (bracket t))

-- a message's macros, by their names: its frame id, its length, and 1 where its frame is extended, else 0
abbrev pub macro_parts : Message → MessageNames → List Part
macro_parts m names =
    remark (about m)
    ∷ constant_macro names.frame_id (number m.id 16 true)
    ∷ constant_macro names.length (number m.length 10 true)
    ∷ constant_macro names.extended (number (if m.extended then 1 else 0) 10 false)
    ∷ blank
    ∷ []

-- its struct, and the prototypes of its functions
abbrev pub declared_parts : Message → MessageNames → List Part
declared_parts m names = struct_part m names ∷ blank ∷ routine (pack_head names) None ∷ blank ∷ []

abbrev pub message_parts : Message → MessageNames → List Part
message_parts m names = macro_parts m names ++ declared_parts m names

-- those of each message with its names
abbrev pub all_message_parts : List Message → List MessageNames → List Part
all_message_parts messages names = flat_map (λ p. message_parts p.0 p.1) (zip messages names)

-- ---- the whole

abbrev pub opening_parts : List ℕ → List Part
opening_parts guard = remark opening_text ∷ blank ∷ if_not_defined guard ∷ define guard None ∷ blank ∷ []

abbrev pub include_parts : List Part
include_parts = include bool_header ∷ include size_header ∷ include integer_header ∷ blank ∷ []

abbrev pub error_parts : List Part
error_parts = if_not_defined error_name ∷ define error_name (Some (number 22 10 false)) ∷ end_if ∷ blank ∷ []

-- the comment, the guard, the includes, the error's number, each message, and the end of the guard
abbrev pub header_parts : List Message → SymbolTable → List Part
header_parts messages names =
    opening_parts names.guard ++ (include_parts ++ (error_parts ++ (all_message_parts messages names.messages ++ end_if ∷ [])))

-- the bytes of the header of these messages, by the names of a table
abbrev pub header_text : List Message → SymbolTable → List ℕ
header_text messages names = unit_text (header_parts messages names)
