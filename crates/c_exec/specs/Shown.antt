-- What the code's parts show.
use Rattle.std.specs.Prelude.{ℕ}
use Rattle.c_tree.specs.declared.item.Unit.{Unit as Whole}
use Rattle.c_widths.specs.DataModel.{model_of}
use Rattle.c_types.specs.Setting.{structs}
use Rattle.c_effect.specs.World.{World, Calls, world}

-- the world of a unit, under a model by its widths
abbrev pub world_of : ℕ → ℕ → ℕ → Whole → Calls → World
world_of int long pointer unit calls = world (model_of int long pointer) (structs unit.items) calls
