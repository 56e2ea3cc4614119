use Rattle.std.proofs.Common.{◌+◌, ◌-◌, ◌<◌, ◌≤◌, length, take, drop, IfNone, subst, Ok, refl, sym, ap, ◌∙◌, arith, length-drop}
use Rattle.std.proofs.lemmas.Result.{err_from_is_err_and}
use Rattle.c_tree.specs.declared.statement.SwitchPart.TheVariants.{Statement}
use Rattle.c_tree.specs.Sequence.{all_read}
use Rattle.cg_out.specs.Words.{◌>>=◌}
use Rattle.c_parser.specs.Label.{IsLabel}
use Rattle.c_tree.specs.StatementCut.{statement_of, each, switch_part}
use Rattle.c_parser.specs.Pending.{Ascends, around}
use Rattle.c_parser.proofs.Waiting.{reads_on, plain_fault}
use Rattle.c_parser.proofs.Loops.{first_of, first-each, first-part, first_and_rest, goes_on, fails}
use Rattle.c_parser.proofs.statements.+statement.Goals as goal

pub statement-returns-in_err-made-clause-value : goal.statement-returns-in_err-made-clause-value
statement-returns-in_err-made-clause-value t c =
    let p = err_from_is_err_and c.from_residual-in_err-made.result c.from_residual-in_err-made.ensures.1 in
    rw (p.1, p.2) (plain_fault c.in_err-made.field-0.0 c.args.may_break c.args.room c.args.tokens.now c.args.after c.loop-pending.pending.items c.descend.new.pending.items c.loop-pending.at c.in_ok-front.front
    c.behind-left.result.now c.in_ok-front.ensures.value c.behind-left.ensures c.in_ok-front.ensures.plain c.in_err-made.ensures.value c.loop-pending.invariant.whole)

pub statement-returns-in-Some-clause-value : goal.statement-returns-in-Some-clause-value
statement-returns-in-Some-clause-value t c =
    let ascends = subst (λ o. Ascends o c.descend.new.pending.items c.ascend.new.pending.items c.in_ok-made.made c.behind.result.now) c.in-Some.is c.in_ok-whole.ensures.value in
    reads_on c.args.may_break c.args.room c.args.tokens.now c.args.after c.loop-pending.pending.items c.descend.new.pending.items c.loop-pending.at c.in_ok-front.front c.behind-left.result.now
    c.in_ok-made.made c.in_ok-made.more c.in_ok-front.ensures.value c.behind-left.ensures c.in_ok-front.ensures.plain c.in_ok-made.ensures.value c.loop-pending.invariant.whole
    ∙ ascends (around c.args.may_break c.args.room c.args.tokens.now c.args.after) (c.in_ok-front.front + c.in_ok-made.more) c.behind.ensures

pub statement-loop-pending-preserved : goal.statement-loop-pending-preserved
statement-loop-pending-preserved t c =
    let end = c.in_ok-front.front + c.in_ok-made.more in
    let ascends = subst (λ o. Ascends o c.descend.new.pending.items c.ascend.new.pending.items c.in_ok-made.made c.behind.result.now) c.in-None.is c.in_ok-whole.ensures.value in
    let next = subst (λ o. IfNone o (1 ≤ length c.behind.result.now)) c.in-None.is c.in_ok-whole.ensures.within in
    record {
      within = omega (arith, next, ap length c.behind.ensures, length-drop (end + 1) c.args.tokens.now);
      whole = sym (
          reads_on c.args.may_break c.args.room c.args.tokens.now c.args.after c.loop-pending.pending.items c.descend.new.pending.items c.loop-pending.at c.in_ok-front.front c.behind-left.result.now
          c.in_ok-made.made c.in_ok-made.more c.in_ok-front.ensures.value c.behind-left.ensures c.in_ok-front.ensures.plain c.in_ok-made.ensures.value c.loop-pending.invariant.whole
          ∙ ascends (around c.args.may_break c.args.room c.args.tokens.now c.args.after) end c.behind.ensures
          );
    }

pub statements-loop-left-preserved : goal.statements-loop-left-preserved
statements-loop-left-preserved t c =
    let left = c.loop-left.left.now in
    let r = each statement_of c.args.may_break c.args.room c.args.after in
    let first = first-each c.args.may_break c.args.room c.args.after left (Ok (c.in_ok-made.made, c.in_ok-made.more)) (omega (arith, c.in_ok-made.ensures.within)) c.in_ok-made.ensures.value in
    record {
      within = rw c.behind-left.ensures (omega (arith, c.loop-left.invariant.within, length-drop (c.in_ok-made.more + 1) left));
      rest = rw (c.in_ok-push.ensures.ok, c.behind-left.ensures) (goes_on r c.loop-left.list left c.in_ok-made.made c.in_ok-made.more (all_read r 0 c.args.tokens.now) first c.loop-left.invariant.rest);
    }

pub statements-returns-in_err-made : goal.statements-returns-in_err-made
statements-returns-in_err-made t c =
    let p = err_from_is_err_and c.from_residual.result c.from_residual.ensures.1 in
    let left = c.loop-left.left.now in
    let r = each statement_of c.args.may_break c.args.room c.args.after in
    let some : 0 < length left = c.in-len1-up.len_at_least in
    rw (p.1, p.2) (fails (λ ss. ss) r c.loop-left.list left (statement_of c.args.may_break c.args.room left c.args.after) c.in_err-made.field-0.0 (all_read r 0 c.args.tokens.now)
    c.in_err-made.ensures.value (first-each c.args.may_break c.args.room c.args.after left (statement_of c.args.may_break c.args.room left c.args.after) some refl) c.loop-left.invariant.rest)

pub switch_parts-loop-left-preserved-in-Some : goal.switch_parts-loop-left-preserved-in-Some
switch_parts-loop-left-preserved-in-Some t c =
    let left = c.loop-left.left.now in
    let x = c.first-item.result in
    let xs = take (length left - 1) (drop 1 left) in
    let r = switch_part statement_of c.args.room c.args.after in
    let label = subst (λ o. IsLabel (Ok o) c.args.room c.args.after x xs) c.in-Some.is c.in_ok-label.ensures.value in
    let first = first-part c.args.room c.args.after left xs x (λ statement_of. Ok (c.in-Some.label, c.in-Some.more)) (first_and_rest left x c.in-len1-up.len_at_least c.first-item.is) label in
    record {
      within = rw c.behind-left.ensures (omega (arith, c.loop-left.invariant.within, length-drop (c.in-Some.more + 1) left));
      rest = rw (c.in_ok-push.ensures.ok, c.behind-left.ensures) (goes_on r c.loop-left.parts left c.in-Some.label c.in-Some.more (all_read r 0 c.args.tokens.now) first c.loop-left.invariant.rest);
    }

pub switch_parts-loop-left-preserved : goal.switch_parts-loop-left-preserved
switch_parts-loop-left-preserved t c =
    let left = c.loop-left.left.now in
    let x = c.first-item.result in
    let xs = take (length left - 1) (drop 1 left) in
    let r = switch_part statement_of c.args.room c.args.after in
    let label = subst (λ o. IsLabel (Ok o) c.args.room c.args.after x xs) c.in_default-2.is c.in_ok-label.ensures.value in
    let made = Statement c.in_ok-made.made in
    let first = first-part c.args.room c.args.after left xs x (λ statement_of. statement_of >>= λ s. Ok (Statement s.0, s.1)) (first_and_rest left x c.in-len1-up.len_at_least c.first-item.is) label in
    let is = subst (λ got. first_of r left (got >>= λ s. Ok (Statement s.0, s.1))) c.in_ok-made.ensures.value first in
    record {
      within = rw c.behind-left-in_default-2.ensures (omega (arith, c.loop-left.invariant.within, length-drop (c.in_ok-made.more + 1) left));
      rest = rw (c.in_ok-push-2.ensures.ok, c.behind-left-in_default-2.ensures) (goes_on r c.loop-left.parts left made c.in_ok-made.more (all_read r 0 c.args.tokens.now) is c.loop-left.invariant.rest);
    }
