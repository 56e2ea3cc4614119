-- What a helper has to do when it is called (ISO/IEC 9899:1999, 6.5.2.2 and 6.9.1), under each data model and in any unit.
use Rattle.std.specs.Prelude.{◌≡◌, ℕ, false, ◌^◌, ◌<◌, List, [], ◌∷◌, Some, Ok, pos}
use Rattle.c_tree.specs.declared.item.Function.{Function}
use Rattle.c_tree.specs.declared.item.Item.{Item}
use Rattle.c_widths.specs.DataModel.{DataModel, IsModel, model_of}
use Rattle.c_widths.specs.IntegerType.{exact_type}
use Rattle.c_operators.specs.Value.{typed}
use Rattle.c_types.specs.Setting.{structs}
use Rattle.c_effect.specs.declared.state.Arg.{Arg}
use Rattle.c_effect.specs.declared.state.Arg.TheVariants.{Integer}
use Rattle.c_effect.specs.World.{World, world, no_calls}
use Rattle.c_effect.specs.FunctionCall.{Ended, run_in, ended}
use Rattle.shift_helpers.specs.declared.helper.HelperKind.{HelperKind}
use Rattle.shift_helpers.specs.HelperResult.{result, taken_width, given_width, shift_limit}

-- where a function of a unit runs that calls nothing
abbrev pub alone : DataModel → List Item → World
alone m items = world m (structs items) no_calls

abbrev pub arguments : ℕ → ℕ → ℕ → List Arg
arguments x shift mask = Integer (pos x) ∷ Integer (pos shift) ∷ Integer (pos mask) ∷ []

-- a number of the unsigned type of a width is given, and there are no objects
abbrev pub gave : DataModel → ℕ → ℕ → Ended
gave m w n = ended (Ok (Some (typed (exact_type m w false) (pos n)))) []

-- a function gives the numbers of a helper for values of w bits
pub record Helps (kind : HelperKind) (w : ℕ) (f : Function) : Type 0 where
  pub gives : (int long pointer : ℕ) → IsModel int long pointer → (items : List Item) (x shift mask : ℕ)
      → x < 2 ^ taken_width kind w → shift < shift_limit kind w → mask < 2 ^ 8
      → run_in (alone (model_of int long pointer) items) f (arguments x shift mask) [] ≡ gave (model_of int long pointer) (given_width kind w) (result kind w x shift mask)
