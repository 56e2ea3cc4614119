use Rattle.std.proofs.Common.{◌≡◌, ◌+◌, ◌≤◌, length, subst, arith}
use Rattle.c_tree.specs.ExpressionCut.{parts}
use Rattle.c_tree.specs.ParameterCut.{each_parameter}
use Rattle.c_expression.specs.Front.{with_front}
use Rattle.c_expression.specs.Parts.{parts_left, count_left}
use Rattle.c_parser.proofs.Loops.{next_parameter}
use Rattle.c_parser.proofs.declarations.each_parameter.Goals as goal

pub loop-left-preserved : goal.loop-left-preserved
loop-left-preserved c =
    let part = c.first_part-part.result in
    let whole = each_parameter (parts c.args.close 0 c.args.tokens.now) in
    let rest = subst (λ o. with_front c.loop-left.list (each_parameter (parts_left c.args.close o)) ≡ whole) c.in-Some.is c.loop-left.invariant.rest in
    let within = subst (λ o. count_left o ≤ length c.args.tokens.now + 1) c.in-Some.is c.loop-left.invariant.within in
    record {
      within = omega (arith, within, c.first_part-part.ensures.fewer);
      rest = rw c.in_ok-push.ensures.ok (next_parameter (parts c.args.close 0 c.in-Some.tokens.now) (parts_left c.args.close part.rest) (part.tokens.now, part.after) c.in_ok-parameter.field-0 c.loop-left.list whole
          c.first_part-part.ensures.are c.in_ok-parameter.ensures rest);
    }
