-- The tree is the definition's, which unpacks.
use Rattle.std.proofs.Common.{◌≡◌}
use Rattle.std.proofs.lemmas.Result.{IfOk-weaker}
use Rattle.c_tree.specs.BareExpression.{name}
use Rattle.c_tree.specs.BareUnit.{bare_item}
use Rattle.c_tree.specs.declared.item.Item.TheVariants as item
use Rattle.gen_pack.specs.PackTree.{error_name}
use Rattle.gen_unpack.specs.UnpackTree.{unpack_function}
use Rattle.gen_unpack.specs.Unpacks.{UnpacksAs}
use Rattle.gen_unpack.proofs.Anywhere.{unpacks-as}
use Rattle.gen_unpack.proofs.function.unpack_tree.Goals as goal

pub returns-clause-unpacks : goal.returns-clause-unpacks
returns-clause-unpacks c = λ named.
    let m = c.args.message.now in
    let names = c.args.names.now in
    IfOk-weaker c.whole.result (λ f. bare_item (item.Function f) ≡ unpack_function (name error_name) m names) (λ f. UnpacksAs m names f)
    (λ f tree. unpacks-as m names f named c.requires.valid c.requires.flat tree) c.whole.ensures
