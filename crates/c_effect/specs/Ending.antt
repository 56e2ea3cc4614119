-- How a statement ends (ISO/IEC 9899:1999, 6.8), and statements one after another.
use Rattle.std.specs.Prelude.{List, [], ◌∷◌, Result, Ok, Err}
use Rattle.c_text.specs.declared.place.Place.{Place}
use Rattle.c_mem.specs.declared.undefined.Undefined.{Undefined}
use Rattle.c_mem.specs.declared.objects.Object.{Object}
use Rattle.c_effect.specs.declared.state.Flow.{Flow}
use Rattle.c_effect.specs.declared.state.Flow.TheVariants.{Next}
use Rattle.c_effect.specs.declared.state.Stop.{Stop}
use Rattle.c_effect.specs.Locals.{Block, opened, closed}
use Rattle.c_effect.specs.World.{stop}

-- how, and the locals and objects after it
pub record After : Type 0 where
  pub flow : Result Flow Stop
  pub locals : List Block
  pub objects : List Object

abbrev pub after : Result Flow Stop → List Block → List Object → After
after flow locals objects = record { flow = flow; locals = locals; objects = objects }

abbrev pub Effect : Type 0
Effect = List Block → List Object → After

abbrev pub goes_on : Effect
goes_on locals objects = after (Ok Next) locals objects

-- ---- one after another

-- the next statement, where the one before goes on
abbrev pub followed : Result Flow Stop → Effect → Effect
followed (Ok Next) next locals objects = next locals objects
followed flow next locals objects = after flow locals objects

abbrev pub then : After → Effect → After
then r next = followed r.flow next r.locals r.objects

abbrev pub sequence : List Effect → Effect
sequence [] = goes_on
sequence (first ∷ rest) = λ locals objects. then (first locals objects) (sequence rest)

-- in a block of its own (6.8.2)
abbrev pub in_block : Effect → Effect
in_block inner locals objects =
    let r = inner (opened locals) objects in after r.flow (closed r.locals) r.objects

-- ---- with what was computed, or stopped

abbrev pub with_value : {A : Type 0} → Result A Stop → List Block → List Object → (A → After) → After
with_value (Ok v) locals objects go = go v
with_value (Err s) locals objects go = after (Err s) locals objects

abbrev pub with_objects : Place → Result (List Object) Undefined → List Block → List Object → After
with_objects place (Ok new) locals objects = after (Ok Next) locals new
with_objects place (Err kind) locals objects = after (Err (stop kind place)) locals objects
