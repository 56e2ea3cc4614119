-- What a pair declares and defines: what a program that includes the header may name.
use Rattle.std.specs.Prelude.{◌≡◌, ℕ, if◌then◌else◌, List, [], ◌∷◌, map, Some, None}
use Rattle.can_model.specs.declared.database.Message.{Message}
use Rattle.name_rules.specs.declared.table.SymbolTable.{SymbolTable}
use Rattle.c_text.specs.declared.preprocessed.Preprocessed.{Preprocessed}
use Rattle.c_text.specs.BarePreprocessing.{macro_kinds}
use Rattle.c_tree.specs.declared.item.Unit.{Unit as Whole}
use Rattle.c_tree.specs.BareStatement.{Actions}
use Rattle.c_tree.specs.BareUnit.{BareField, BareHead, BareItem, struct, function, bare_unit}
use Rattle.gen_unit.specs.Macros.{macros_of}
use Rattle.gen_unit.specs.Items.{structs_of, functions_of}

-- ---- the items of a unit, by what they are

-- the tag of each struct with its fields
abbrev pub structs_in : List BareItem → List (List ℕ × List BareField)
structs_in [] = []
structs_in (struct tag fields ∷ items) = (tag, fields) ∷ structs_in items
structs_in (function head body ∷ items) = structs_in items

-- each function that is declared, where it has no body
abbrev pub prototypes_in : List BareItem → List BareHead
prototypes_in [] = []
prototypes_in (struct tag fields ∷ items) = prototypes_in items
prototypes_in (function head None ∷ items) = head ∷ prototypes_in items
prototypes_in (function head (Some body) ∷ items) = prototypes_in items

-- each function that is defined, with its body
abbrev pub definitions_in : List BareItem → List (BareHead × Actions)
definitions_in [] = []
definitions_in (struct tag fields ∷ items) = definitions_in items
definitions_in (function head None ∷ items) = definitions_in items
definitions_in (function head (Some body) ∷ items) = (head, body) ∷ definitions_in items

-- those that other units may name (6.2.2)
abbrev pub not_static : List (BareHead × Actions) → List BareHead
not_static [] = []
not_static ((head, body) ∷ definitions) = if head.fixed then not_static definitions else head ∷ not_static definitions

-- ---- those of a database

-- its macros, its structs and the functions that it declares are these and no other ones, and each of these is defined once
pub record HasSurface (messages : List Message) (names : SymbolTable) (left : Preprocessed) (unit : Whole) : Type 0 where
  pub macros : map macro_kinds left.macros ≡ macros_of messages names
  pub structs : structs_in (bare_unit unit) ≡ structs_of messages names
  pub prototypes : prototypes_in (bare_unit unit) ≡ functions_of messages names
  pub definitions : not_static (definitions_in (bare_unit unit)) ≡ functions_of messages names
