use Rattle.std.proofs.Common.{rules, ◌≡◌, sym, subst, Ok}
use Rattle.c_tree.specs.declared.expression.ExprKind.TheVariants as k
use Rattle.c_effect.specs.ExpressionValue as values
use Rattle.c_exec.specs.Answers.{Gives}
use Rattle.c_exec.specs.Shown.{world_of}
use Rattle.c_exec.proofs.Expressions.{binary-by}
use Rattle.c_exec.proofs.value.+values.Goals as goal

pub kind_value-returns-in_ok-left-in-Binary : goal.kind_value-returns-in_ok-left-in-Binary
kind_value-returns-in_ok-left-in-Binary g t c =
    let w = world_of g.row.INT g.row.LONG g.row.PTR c.args.world.now.unit.now (g.C.Calls.meaning c.args.world.now.calls.now) in
    let is : c.args.kind.now ≡ k.Binary c.in-Binary.op c.in-Binary.left c.in-Binary.right = search rules in
    let left : values.value w c.in-Binary.left c.args.locals.now c.args.objects.now ≡ Ok c.in_ok-left-in-Binary.left = search rules in
    let right : c.get-in-Binary-2.result.now ≡ c.in-Binary.right = search rules in
    let joined = subst (λ r. Gives c.joined.result (values.integer (values.joined w.model c.in-Binary.op c.args.place c.in_ok-left-in-Binary.left (values.value w r) c.args.locals.now c.args.objects.now))) right c.joined.ensures in
    subst (λ m. Gives c.joined.result m) (sym (binary-by w c.args.kind.now c.in-Binary.op c.in-Binary.left c.in-Binary.right c.args.place c.args.locals.now c.args.objects.now c.in_ok-left-in-Binary.left is left)) joined
