use Rattle.std.proofs.Common.{◌≡◌, ◌+◌, drop, Some, sym, subst, ◌∙◌, arith, length-drop}
use Rattle.std.proofs.lemmas.Result.{err_from_is_err_and}
use Rattle.c_tree.specs.Operators as ops
use Rattle.c_expression.specs.declared.prefixes.PrefixKind.TheVariants.{Sign}
use Rattle.c_expression.specs.Operand.{IsFrontOf, IsBefore}
use Rattle.c_expression.proofs.Growing.{front-is}
use Rattle.c_expression.proofs.Growth.{grown-more, grown-all, all-cut, first-operand, fault-left, fault-right}
use Rattle.c_expression.proofs.Operands.{sign-before, cast-before, told-before, told-whole, told-fault}
use Rattle.c_expression.proofs.cutting.+cutting.Goals as goal

pub alone-returns-in_err-op : goal.alone-returns-in_err-op
alone-returns-in_err-op t c =
    let p = err_from_is_err_and c.from_residual.result c.from_residual.ensures.1 in
    let inv = c.loop-ops.invariant in
    rw (p.1, p.2) (told-fault c.args.room c.args.tokens.now c.loop-ops.left.now c.args.after c.loop-ops.ops.items inv.jointless inv.told c.in_err-op.field-0.0 c.in_err-op.ensures.err)

pub alone-loop-ops-preserved : goal.alone-loop-ops-preserved
alone-loop-ops-preserved t c =
    let left = c.loop-ops.left.now in
    let inv = c.loop-ops.invariant in
    let b : IsBefore c.args.room left c.args.after c.in-Prefix.op c.in-Prefix.more = subst (λ f. IsFrontOf f c.args.room left c.args.after) c.in-Prefix.is c.in_ok-op.ensures.ok in
    record {
      within = rw c.behind-left.ensures (omega (arith, inv.within, length-drop (c.in-Prefix.more + 1) left));
      jointless = rw c.behind-left.ensures (b.jointless inv.jointless);
      told = rw (c.behind-left.ensures, c.in_ok-push-in-Prefix.ensures.items) (told-before c.args.room c.args.tokens.now left c.args.after c.loop-ops.ops.items inv.jointless inv.told c.in-Prefix.op c.in-Prefix.more b);
    }

pub alone-returns-in-Whole : goal.alone-returns-in-Whole
alone-returns-in-Whole t c =
    let left = c.loop-ops.left.now in
    let inv = c.loop-ops.invariant in
    let is = subst (λ f. IsFrontOf f c.args.room left c.args.after) c.in-Whole.is c.in_ok-op.ensures.ok in
    rw c.in_ok-with_prefixes-in-Whole.ensures (told-whole c.args.room c.args.tokens.now left c.args.after c.loop-ops.ops.items inv.jointless inv.told c.in-Whole.tree is)

pub climb-returns-in_err-right-clause-err : goal.climb-returns-in_err-right-clause-err
climb-returns-in_err-right-clause-err t c =
    let p = err_from_is_err_and c.from_residual-in_err-right.result c.from_residual-in_err-right.ensures.1 in
    let i = c.in-Some.infix in
    rw (p.1, p.2) (fault-right c.args.room c.args.least c.args.after c.args.tokens.now c.loop-infix.count c.loop-infix.left c.loop-infix.invariant i.level i.op i.place c.in-Some.ensures.some c.in_err-right.field-0.0
    (rw c.behind-rest.ensures at c.in_err-right.ensures.err))

pub climb-loop-infix-preserved : goal.climb-loop-infix-preserved
climb-loop-infix-preserved t c =
    let i = c.in-Some.infix in
    let right = rw c.behind-rest.ensures at c.in_ok-right.ensures.ok in
    rw c.in_ok-left-2.ensures (grown-more c.args.room c.args.least c.args.after c.args.tokens.now c.loop-infix.count c.loop-infix.left c.loop-infix.invariant i.level i.op i.place c.in-Some.ensures.some c.in_ok-right.more c.in_ok-right.right c.in-Some.ensures.within.1 right)

pub climb-returns-clause-ok : goal.climb-returns-clause-ok
climb-returns-clause-ok t c =
    grown-all c.args.room c.args.least c.args.after c.args.tokens.now c.loop-infix.count c.loop-infix.left c.loop-infix.invariant c.in_default.ensures.none

pub cut-returns : goal.cut-returns
cut-returns t c = all-cut c.args.room c.args.after c.args.tokens.now c.in_ok-tree.field-0-1 c.in_ok-tree.tree c.in_ok-tree.ensures.ok

pub front_of-returns-in-Some-clause-ok : goal.front_of-returns-in-Some-clause-ok
front_of-returns-in-Some-clause-ok t c =
    let ts = c.args.tokens.now in
    let x = c.token-item.result in
    let op = c.in-Some.op in
    let is : ops.prefix x.kind ≡ Some op = sym c.prefix.ensures ∙ c.in-Some.is in
    let same = front-is ts x c.in-len1-up.len_at_least c.token-item.is in
    subst (λ us. IsBefore c.args.room us c.args.after (record { place = x.place; kind = Sign op }) 0) (sym same) (sign-before c.args.room x (drop 1 ts) c.args.after op is)

pub operand-returns-in_err-tree-in-Some-clause-err : goal.operand-returns-in_err-tree-in-Some-clause-err
operand-returns-in_err-tree-in-Some-clause-err t c =
    let p = err_from_is_err_and c.from_residual.result c.from_residual.ensures.1 in
    rw (p.1, p.2) (fault-left c.args.room c.args.after c.args.tokens.now c.in-Some.end c.index-tokens-end.result c.in_err-tree-in-Some.field-0.0 c.in-Some.ensures.some c.in_err-tree-in-Some.ensures)

pub operand-returns-in_ok-tree-in-Some-clause-ok : goal.operand-returns-in_ok-tree-in-Some-clause-ok
operand-returns-in_ok-tree-in-Some-clause-ok t c =
    first-operand c.args.room c.args.after c.args.tokens.now c.in-Some.end c.index-tokens-end.result c.in_ok-tree-in-Some.tree (omega (arith, c.in-Some.ensures.within)) c.in-Some.ensures.some c.in_ok-tree-in-Some.ensures

pub round-returns-in-Some-spelled-clause-ok : goal.round-returns-in-Some-spelled-clause-ok
round-returns-in-Some-spelled-clause-ok t c =
    cast-before c.args.room c.args.token.now c.args.rest.now c.args.after c.in-Some.at c.in-Some-spelled.to c.requires.bare c.requires.opens (sym c.in-Some.ensures.value) (sym c.in-Some-spelled.ensures) c.in_ok-inside.ensures.ok.0
