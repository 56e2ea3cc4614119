use Rattle.std.proofs.Common.{◌≡◌, drop, length, subst, ap, ◌∙◌, arith, length-drop}
use Rattle.std.proofs.lemmas.Result.{err_from_is_err_and}
use Rattle.c_tree.specs.StatementCut.{statement_of}
use Rattle.c_parser.specs.Pending.{IsIf, around}
use Rattle.c_parser.proofs.Waiting.{goes_down, head_fault}
use Rattle.c_parser.proofs.pending.descend.Goals as goal

pub returns-in_err-condition-clause-value : goal.returns-in_err-condition-clause-value
returns-in_err-condition-clause-value c =
    let p = err_from_is_err_and c.from_residual.result c.from_residual.ensures.1 in
    let is = subst (λ ts. IsIf c.in-Some.place c.in-Some.rest.now ts) c.behind.ensures c.in-Some.ensures.some in
    rw (p.1, p.2) (head_fault c.in_err-condition.field-0.0 c.loop-place.pending.items c.args.pending.now.items c.args.room c.args.tokens.now c.in-Some.place c.in-Some.rest.now c.loop-place.at c.args.at c.args.after
    is c.in_err-condition.ensures.value c.loop-place.invariant.same)

pub loop-place-preserved : goal.loop-place-preserved
loop-place-preserved c =
    let ts = c.in-Some.rest.now in
    let left = drop c.loop-place.at c.args.tokens.now in
    let is = subst (λ us. IsIf c.in-Some.place ts us) c.behind.ensures c.in-Some.ensures.some in
    let rest : ts ≡ drop 1 left = c.in-Some.ensures.rest.1 ∙ ap (drop 1) c.behind.ensures in
    record {
      behind = omega (arith, c.loop-place.invariant.behind);
      within = omega (arith, ap length rest, ap length c.behind.ensures, length-drop 1 left, length-drop c.loop-place.at c.args.tokens.now, c.in-Some.ensures.rest.0, c.in_ok-condition.ensures.within, c.loop-place.invariant.within);
      same = λ may. rw c.in_ok-push.ensures.items (goes_down (around may c.args.room c.args.tokens.now c.args.after) c.loop-place.pending.items c.in-Some.place c.in_ok-condition.condition c.loop-place.at c.in_ok-condition.count ts
          rest (is statement_of may c.args.room c.args.after) (c.in_ok-condition.ensures.value statement_of may) ∙ c.loop-place.invariant.same may);
    }
