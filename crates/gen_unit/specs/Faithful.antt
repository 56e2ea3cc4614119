-- What the header and the source of a database mean as C.
use Rattle.std.specs.Prelude.{◌≡◌, ℕ, List, []}
use Rattle.can_model.specs.declared.database.Message.{Message}
use Rattle.name_rules.specs.declared.table.SymbolTable.{SymbolTable}
use Rattle.c_widths.specs.DataModel.{models}
use Rattle.c_types.specs.UnitTypes.{faults_under}
use Rattle.gen_items.specs.UnitPacks.{HavePacks}
use Rattle.gen_unit.specs.Header.{header_name}
use Rattle.gen_unit.specs.Parses.{Parses}
use Rattle.gen_unit.specs.Surface.{HasSurface}

-- Of these messages with their names, for a database of that name: the pair parses as one unit, the unit has no fault of
-- types under any model of the list, its surface is theirs, and each pack function packs its message.
pub record Faithful (name : List ℕ) (messages : List Message) (names : SymbolTable) (header source : List ℕ) : Type 0 where
  pub parses : Parses (header_name name) header source
  pub types : faults_under models parses.unit ≡ []
  pub surface : HasSurface messages names parses.left parses.unit
  pub packs : HavePacks parses.unit messages names.messages
