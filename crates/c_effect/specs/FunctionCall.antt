-- Calls of functions (ISO/IEC 9899:1999, 6.5.2.2 and 6.9.1).
use Rattle.std.specs.Prelude.{ℕ, List, [], ◌∷◌, map, Option, Some, None, Result, Ok, Err, ℤ}
use Rattle.c_text.specs.declared.place.Place.{Place}
use Rattle.c_text.specs.declared.token.IntType.{IntType}
use Rattle.c_tree.specs.declared.item.Field.{Field}
use Rattle.c_tree.specs.declared.item.Function.{Function}
use Rattle.c_tree.specs.declared.item.Item.{Item}
use Rattle.c_tree.specs.declared.item.Unit.{Unit as Whole}
use Rattle.c_tree.specs.declared.statement.Stmt.{Stmt}
use Rattle.c_mem.specs.declared.undefined.Undefined.TheVariants.{Indeterminate, NoValue}
use Rattle.c_mem.specs.declared.objects.Object.{Object}
use Rattle.c_operators.specs.declared.value.TypedValue.{TypedValue}
use Rattle.c_operators.specs.Value.{typed}
use Rattle.c_widths.specs.DataModel.{DataModel}
use Rattle.c_widths.specs.Conversion.{convert}
use Rattle.c_types.specs.ExpressionTypes.{integer_type}
use Rattle.c_types.specs.Setting.{structs, definitions}
use Rattle.cg_out.specs.Words.{look_up}
use Rattle.c_effect.specs.declared.state.Arg.{Arg}
use Rattle.c_effect.specs.declared.state.Arg.TheVariants as arg
use Rattle.c_effect.specs.declared.state.Flow.{Flow}
use Rattle.c_effect.specs.declared.state.Flow.TheVariants.{Returned}
use Rattle.c_effect.specs.declared.state.Held.{Held}
use Rattle.c_effect.specs.declared.state.Held.TheVariants.{Integer as Number, Pointer as Address}
use Rattle.c_effect.specs.declared.state.Outcome.{Outcome}
use Rattle.c_effect.specs.declared.state.Outcome.TheVariants as outcome
use Rattle.c_effect.specs.declared.state.Stop.{Stop}
use Rattle.c_effect.specs.Locals.{Block, with_name}
use Rattle.c_effect.specs.World.{World, Calls, world, no_calls, stop}
use Rattle.c_effect.specs.Ending.{After, sequence}
use Rattle.c_effect.specs.StatementEffect.{effects_of}

-- ---- parameters

-- what a parameter holds, of an integer type or of none; an argument of the other kind it does not take
abbrev pub taken_as : DataModel → Option IntType → Arg → Option Held
taken_as m (Some kind) (arg.Integer number) = Some (Number kind (Some (convert m kind number)))
taken_as m None (arg.Pointer p) = Some (Address p)
taken_as m other x = None

abbrev pub with_param : List ℕ → Option Held → Block → Block
with_param name None block = block
with_param name (Some held) block = with_name name held block

-- a block with parameters more, as long as there are arguments
abbrev pub with_params : DataModel → List Field → List Arg → Block → Block
with_params m (f ∷ fs) (x ∷ xs) block = with_params m fs xs (with_param f.name (taken_as m (integer_type m f.kind) x) block)
with_params m fs xs block = block

-- ---- how a call ends

-- a function that returns nothing, or an integer of a type
abbrev pub given_in : DataModel → Option IntType → Place → Option TypedValue → Result (Option TypedValue) Stop
given_in m None close v = Ok None
given_in m (Some kind) close (Some v) = Ok (Some (typed kind (convert m kind v.value)))
given_in m (Some kind) close None = Err (stop NoValue close)

-- of a `return`, and of none
abbrev pub value_in : Flow → Option TypedValue
value_in (Returned v) = v
value_in other = None

abbrev pub given : DataModel → Function → Result Flow Stop → Result (Option TypedValue) Stop
given m f (Ok flow) = given_in m (integer_type m f.returns) f.close (value_in flow)
given m f (Err s) = Err s

-- what it gives, and the objects after it
pub record Ended : Type 0 where
  pub gives : Result (Option TypedValue) Stop
  pub objects : List Object

abbrev pub ended : Result (Option TypedValue) Stop → List Object → Ended
ended gives objects = record { gives = gives; objects = objects }

abbrev pub ended_in : DataModel → Function → After → Ended
ended_in m f r = ended (given m f r.flow) r.objects

-- ---- a function's statements in a world

abbrev pub body_of : Option (List Stmt) → List Stmt
body_of None = []
body_of (Some body) = body

unfoldable pub run_in : World → Function → List Arg → List Object → Ended
run_in w f args objects = ended_in w.model f (sequence (effects_of w (body_of f.body)) (with_params w.model f.params args [] ∷ []) objects)

-- ---- calls between functions: a function that is called has no objects, and calls nothing

abbrev pub number_arg : TypedValue → Arg
number_arg v = arg.Integer v.value

abbrev pub called_in : World → Option Function → Place → List TypedValue → Result (Option TypedValue) Stop
called_in w None place args = Err (stop Indeterminate place)
called_in w (Some f) place args = (run_in w f (map number_arg args) []).gives

unfoldable pub unit_calls : DataModel → List Item → Calls
unit_calls m items place name args = called_in (world m (structs items) no_calls) (look_up name (definitions items)) place args

abbrev pub unit_world : DataModel → List Item → World
unit_world m items = world m (structs items) (unit_calls m items)

-- ---- calls from outside

abbrev pub call : DataModel → Whole → Function → List Arg → List Object → Ended
call m unit f args objects = run_in (unit_world m unit.items) f args objects

abbrev pub number_of : Option TypedValue → Option ℤ
number_of None = None
number_of (Some v) = Some v.value

abbrev pub outcome_of : Result (Option TypedValue) Stop → Outcome
outcome_of (Ok v) = outcome.Returned (number_of v)
outcome_of (Err s) = outcome.Undefined s.kind s.place
