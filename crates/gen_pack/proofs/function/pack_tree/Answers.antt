-- The tree is the definition's, which packs.
use Rattle.std.proofs.Common.{◌≡◌}
use Rattle.std.proofs.lemmas.Result.{IfOk-weaker}
use Rattle.c_tree.specs.BareExpression.{name}
use Rattle.c_tree.specs.BareUnit.{bare_item}
use Rattle.c_tree.specs.declared.item.Item.TheVariants as item
use Rattle.gen_pack.specs.PackTree.{error_name, pack_function}
use Rattle.gen_pack.specs.Packs.{PacksAs}
use Rattle.gen_pack.proofs.Anywhere.{packs-as}
use Rattle.gen_pack.proofs.function.pack_tree.Goals as goal

pub returns-clause-packs : goal.returns-clause-packs
returns-clause-packs c = λ named.
    let m = c.args.message.now in
    let names = c.args.names.now in
    IfOk-weaker c.whole.result (λ f. bare_item (item.Function f) ≡ pack_function (name error_name) m names) (λ f. PacksAs m names f)
    (λ f tree. packs-as m names f named c.requires.valid c.requires.flat tree) c.whole.ensures
