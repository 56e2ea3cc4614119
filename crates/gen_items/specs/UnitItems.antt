-- What a header and its source declare and define together (ISO/IEC 9899:1999, 6.9): structs with prototypes, the helpers that are called, and functions.
use Rattle.std.specs.Prelude.{ℕ, List, [], ◌∷◌, ◌++◌, map, None}
use Rattle.std.specs.List.{flat_map, zip}
use Rattle.can_model.specs.declared.database.Message.{Message}
use Rattle.name_rules.specs.declared.table.MessageNames.{MessageNames}
use Rattle.c_tree.specs.BareExpression.{Tree}
use Rattle.c_tree.specs.BareUnit.{BareItem, bare_item, struct, function}
use Rattle.shift_helpers.specs.declared.helper.HelperKind.{HelperKind}
use Rattle.gen_types.specs.HelperList.{helper_item}
use Rattle.gen_pack.specs.StructFields.{struct_fields}
use Rattle.gen_pack.specs.PackTree.{number, pack_head, pack_function}
use Rattle.gen_items.specs.CalledHelpers.{called_helpers}

-- a message's struct, and behind it its prototypes
abbrev pub message_items : Message → MessageNames → List BareItem
message_items m names = struct names.tag (struct_fields m names) ∷ function (pack_head names) None ∷ []

-- those of messages with their names
abbrev pub declared_items : List (Message × MessageNames) → List BareItem
declared_items pairs = flat_map (λ p. message_items p.0 p.1) pairs

abbrev pub helper_items : List (HelperKind × ℕ) → List BareItem
helper_items helpers = map (λ h. bare_item (helper_item h)) helpers

-- the functions of messages, by the tree of the error's number
abbrev pub defined_items : Tree → List (Message × MessageNames) → List BareItem
defined_items error pairs = map (λ p. pack_function error p.0 p.1) pairs

-- all of them, as they are read: EINVAL is its number
abbrev pub unit_items : List Message → List MessageNames → List BareItem
unit_items messages names =
    declared_items (zip messages names) ++ (helper_items (called_helpers messages) ++ defined_items (number 22) (zip messages names))
