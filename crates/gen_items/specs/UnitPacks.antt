-- What a unit promises of the pack functions of messages.
use Rattle.std.specs.Prelude.{◌≡◌, ℕ, List, Some}
use Rattle.can_model.specs.declared.database.Message.{Message}
use Rattle.name_rules.specs.declared.table.MessageNames.{MessageNames}
use Rattle.name_rules.specs.Symbols.{AllPairs}
use Rattle.c_tree.specs.declared.item.Function.{Function}
use Rattle.c_tree.specs.declared.item.Unit.{Unit as Whole}
use Rattle.c_widths.specs.DataModel.{IsModel, model_of}
use Rattle.cg_out.specs.Words.{look_up}
use Rattle.c_types.specs.Setting.{definitions}
use Rattle.gen_pack.specs.Packs.{Packs}

-- the unit defines a function of the name, and it packs the message under each model of the list
pub record HasPack (unit : Whole) (m : Message) (names : MessageNames) : Type 0 where
  pub given : Function
  pub found : look_up names.pack (definitions unit.items) ≡ Some given
  pub packs : (int long pointer : ℕ) → IsModel int long pointer → Packs (model_of int long pointer) unit m names.tag given

-- every message of the list with its names
abbrev pub HavePacks : Whole → List Message → List MessageNames → Type 0
HavePacks unit messages names = AllPairs (HasPack unit) messages names
