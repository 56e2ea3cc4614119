-- What a pair declares beside its macros (ISO/IEC 9899:1999, 6.7): structs and functions.
use Rattle.std.specs.Prelude.{ℕ, List, map}
use Rattle.std.specs.List.{zip}
use Rattle.can_model.specs.declared.database.Message.{Message}
use Rattle.name_rules.specs.declared.table.SymbolTable.{SymbolTable}
use Rattle.c_tree.specs.BareUnit.{BareField, BareHead}
use Rattle.gen_pack.specs.StructFields.{struct_fields}
use Rattle.gen_pack.specs.PackTree.{pack_head}

-- the struct of each message, by its tag
abbrev pub structs_of : List Message → SymbolTable → List (List ℕ × List BareField)
structs_of messages names = map (λ p. (p.1.tag, struct_fields p.0 p.1)) (zip messages names.messages)

-- the functions of each message
abbrev pub functions_of : List Message → SymbolTable → List BareHead
functions_of messages names = map (λ p. pack_head p.1) (zip messages names.messages)
