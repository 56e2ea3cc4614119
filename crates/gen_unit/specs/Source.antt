-- The source of a database, as a list of parts.
use Rattle.std.specs.Prelude.{ℕ, List, [], ◌∷◌, ◌++◌, codes}
use Rattle.std.specs.List.{filter, flat_map, zip}
use Rattle.can_model.specs.declared.database.Message.{Message}
use Rattle.name_rules.specs.declared.table.SymbolTable.{SymbolTable}
use Rattle.name_rules.specs.declared.table.MessageNames.{MessageNames}
use Rattle.c_tree.specs.BareExpression.{name}
use Rattle.c_tree.specs.BareUnit.{BareItem, struct, function}
use Rattle.c_printed.specs.PrintedUnit.{Part, blank, include, include_beside, routine, unit_text}
use Rattle.gen_pack.specs.PackTree.{error_name}
use Rattle.shift_helpers.specs.declared.helper.HelperKind.{HelperKind}
use Rattle.gen_items.specs.CalledHelpers.{is_called, called_helpers}
use Rattle.gen_items.specs.UnitItems.{helper_items, defined_items}
use Rattle.gen_unit.specs.Comments.{opening_text, remark}
use Rattle.gen_unit.specs.Header.{header_name}

-- the header that gives `memset`
unfoldable pub string_header : List ℕ
string_header = codes "string.h"

-- the comment, and the includes: what the standard gives, and the header beside the source
abbrev pub opening_parts : (file : List ℕ) → List Part
opening_parts file = remark opening_text ∷ blank ∷ include string_header ∷ blank ∷ include_beside (header_name file) ∷ []

-- ---- functions

abbrev pub function_part : BareItem → List Part
function_part (function head body) = routine head body ∷ []
function_part (struct tag fields) = []

-- each behind a blank line
abbrev pub separated : List BareItem → List Part
separated items = flat_map (λ i. blank ∷ function_part i) items

-- those of these helpers that are called
abbrev pub called_parts : List Message → List (HelperKind × ℕ) → List Part
called_parts messages helpers = separated (helper_items (filter (is_called messages) helpers))

-- a kind at each width
abbrev pub of_kind : HelperKind → List (HelperKind × ℕ)
of_kind kind = (kind, 8) ∷ (kind, 16) ∷ (kind, 32) ∷ (kind, 64) ∷ []

-- ---- the whole

-- the helpers that are called, and the functions of each message
abbrev pub source_items : List Message → List MessageNames → List BareItem
source_items messages names = helper_items (called_helpers messages) ++ defined_items (name error_name) (zip messages names)

-- the comment and the includes, and each function behind a blank line
abbrev pub source_parts : (file : List ℕ) → List Message → SymbolTable → List Part
source_parts file messages names = opening_parts file ++ separated (source_items messages names.messages)

-- the bytes of the source of these messages, for a database of that name
abbrev pub source_text : (file : List ℕ) → List Message → SymbolTable → List ℕ
source_text file messages names = unit_text (source_parts file messages names)
