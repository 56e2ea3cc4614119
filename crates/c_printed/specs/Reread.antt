-- What the parts of a unit are when they are read again: items with names replaced, and macros.
use Rattle.std.specs.Prelude.{ℕ, List, [], ◌∷◌, ◌++◌, map}
use Rattle.c_text.specs.declared.token.TokenKind.{TokenKind}
use Rattle.c_tree.specs.BareUnit.{BareItem, struct, function}
use Rattle.c_printed.specs.PrintedItem.{field_of}
use Rattle.c_printed.specs.PrintedUnit.{Part, include_beside, define, structure, routine}
use Rattle.c_printed.specs.Expanded.{expanded_item}
use Rattle.c_printed.specs.State.{Macro, State, nothing_known, meaning, macro_body, new_macros, behind_part, header_state}

-- ---- items

-- where a quoted include has the items that `beside` says
abbrev pub items_at : (beside : State → List BareItem) → State → Part → List BareItem
items_at beside s (structure tag fs) = struct tag (map field_of fs) ∷ []
items_at beside s (routine h body) = expanded_item (meaning s) (function h body) ∷ []
items_at beside s (include_beside n) = beside s
items_at beside s p = []

abbrev pub items_of : (State → State) → (State → List BareItem) → State → List Part → List BareItem
items_of behind beside s [] = []
items_of behind beside s (p ∷ ps) = items_at beside s p ++ items_of behind beside (behind_part behind s p) ps

abbrev pub header_items : List Part → State → List BareItem
header_items header s = items_of (λ t. t) (λ t. []) s header

-- of a source with a header
abbrev pub source_items : List Part → List Part → List BareItem
source_items header source = items_of (header_state header) (header_items header) nothing_known source

-- ---- macros, each once

abbrev pub macros_at : (beside : State → List Macro) → State → Part → List Macro
macros_at beside s (define n body) = new_macros s (n, body)
macros_at beside s (include_beside n) = beside s
macros_at beside s p = []

abbrev pub macros_of : (State → State) → (State → List Macro) → State → List Part → List Macro
macros_of behind beside s [] = []
macros_of behind beside s (p ∷ ps) = macros_at beside s p ++ macros_of behind beside (behind_part behind s p) ps

abbrev pub header_macros : List Part → State → List Macro
header_macros header s = macros_of (λ t. t) (λ t. []) s header

abbrev pub source_macros : List Part → List Part → List Macro
source_macros header source = macros_of (header_state header) (header_macros header) nothing_known source

-- ---- a macro as tokens

abbrev pub macro_tokens : Macro → List ℕ × List TokenKind
macro_tokens m = (m.0, macro_body m.1)
