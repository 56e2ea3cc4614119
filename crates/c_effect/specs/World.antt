-- What surrounds a function's body: the data model, the structs of its unit, and what calls give.
use Rattle.std.specs.Prelude.{ℕ, List, Option, Result, Ok, Err}
use Rattle.c_text.specs.declared.place.Place.{Place}
use Rattle.c_tree.specs.declared.item.Field.{Field}
use Rattle.c_mem.specs.declared.undefined.Undefined.{Undefined}
use Rattle.c_mem.specs.declared.undefined.Undefined.TheVariants.{Indeterminate}
use Rattle.c_operators.specs.declared.value.TypedValue.{TypedValue}
use Rattle.c_widths.specs.DataModel.{DataModel}
use Rattle.c_effect.specs.declared.state.Stop.{Stop}

abbrev pub stop : Undefined → Place → Stop
stop kind place = record { kind = kind; place = place }

-- undefined behaviour, shown at a place
abbrev pub shown_at : {A : Type 0} → Place → Result A Undefined → Result A Stop
shown_at place (Ok x) = Ok x
shown_at place (Err kind) = Err (stop kind place)

-- what a call of a name, at a place, gives for its arguments
abbrev pub Calls : Type 0
Calls = Place → List ℕ → List TypedValue → Result (Option TypedValue) Stop

-- where no function is called; no unit without a fault has such a call
abbrev pub no_calls : Calls
no_calls place name args = Err (stop Indeterminate place)

pub record World : Type 0 where
  pub model : DataModel
  -- the fields of every struct, by its tag
  pub structs : List (List ℕ × List Field)
  pub calls : Calls

abbrev pub world : DataModel → List (List ℕ × List Field) → Calls → World
world model structs calls = record { model = model; structs = structs; calls = calls }
