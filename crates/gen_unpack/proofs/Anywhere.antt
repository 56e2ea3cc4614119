-- Each function that is the message's unpack function but for places unpacks the message, under each model and in any unit with what it calls.
use Rattle.std.proofs.Common.{◌≡◌, List, Some, refl, sym, ap, ◌∙◌, pos, negsuc, ℤ}
use Rattle.std.specs.List.{AllByRecursion}
use Rattle.can_model.specs.declared.database.Message.{Message}
use Rattle.can_model.specs.Validity.{IsOfValidDatabase}
use Rattle.name_rules.specs.declared.table.MessageNames.{MessageNames}
use Rattle.c_text.specs.declared.token.IntType.TheVariants as t
use Rattle.c_tree.specs.declared.item.Function.{Function}
use Rattle.c_tree.specs.declared.item.Item.TheVariants as item
use Rattle.c_tree.specs.declared.item.Unit.{Unit as Whole}
use Rattle.c_tree.specs.BareExpression.{name}
use Rattle.c_tree.specs.BareUnit.{bare_item}
use Rattle.c_printed.specs.Expanded.{expanded_item}
use Rattle.c_mem.specs.declared.objects.Object.{Object}
use Rattle.c_widths.specs.DataModel.{DataModel, model_of}
use Rattle.c_operators.specs.Value.{typed}
use Rattle.c_operators.proofs.Models.{one_of}
use Rattle.c_effect.specs.declared.state.Arg.{Arg}
use Rattle.c_effect.specs.FunctionCall.{call, run_in, unit_world}
use Rattle.c_effect.proofs.AnywhereCalls.{call-anywhere}
use Rattle.c_effect.proofs.BareGrown.{bare-grown_item}
use Rattle.gen_pack.specs.PackTree.{number, error_name}
use Rattle.gen_pack.specs.Named.{IsNamed}
use Rattle.gen_pack.specs.Packs.{returning}
use Rattle.gen_pack.specs.Switches.{HasNoParent}
use Rattle.gen_unpack.specs.UnpackTree.{unpack_function}
use Rattle.gen_unpack.specs.Unpacks.{UnpacksIn, UnpacksAs}
use Rattle.gen_unpack.proofs.Expanding.{error-is-22}
use Rattle.gen_unpack.proofs.Running.{placed_function, unpacks-short, unpacks-nothing, unpacks-whole}

pub unpacks-in : (message : Message) (names : MessageNames) → IsNamed message names → IsOfValidDatabase message → AllByRecursion HasNoParent message.signals
    → (unit : Whole) (f : Function) → bare_item (item.Function f) ≡ unpack_function (number 22) message names → UnpacksIn unit message names f
unpacks-in message names named valid flat unit f bare int long pointer is struct helpers =
    let m : DataModel = model_of int long pointer in
    let one = one_of int long pointer is in
    let own : Function = placed_function m one unit.items message names in
    let alike : bare_item (item.Function own) ≡ bare_item (item.Function f) = bare-grown_item (unpack_function (number 22) message names) ∙ sym bare in
    let moved : (args : List Arg) (objects left : List Object) (z : ℤ) → run_in (unit_world m unit.items) own args objects ≡ returning z left → call m unit f args objects ≡ returning z left =
    λ args objects left z h. call-anywhere m unit unit own f args objects left (Some (typed t.Int z)) refl alike h in
    record {
      short = λ objects to from size small lt. moved _ objects objects (negsuc 21) (unpacks-short m one unit.items message names named valid objects to from size small lt);
      nothing = λ objects to from size small none. moved _ objects objects (pos 0) (unpacks-nothing m one unit.items message names objects to from size small none);
      whole = λ objects to from size fields bytes rest small some le there room source_there frame.
          let x = unpacks-whole m one unit.items message names named valid flat struct helpers objects to from size fields bytes rest some small le there room source_there frame in
          (x.0, x.1, moved _ objects _ (pos 0) x.2);
    }

-- the tree of the definition unpacks in each text in which EINVAL is 22
pub unpacks-as : (message : Message) (names : MessageNames) (f : Function) → IsNamed message names → IsOfValidDatabase message → AllByRecursion HasNoParent message.signals
    → bare_item (item.Function f) ≡ unpack_function (name error_name) message names → UnpacksAs message names f
unpacks-as message names f named valid flat tree meaning error unit g is =
    unpacks-in message names named valid flat unit g (is ∙ ap (expanded_item meaning) tree ∙ error-is-22 meaning message names error flat)
