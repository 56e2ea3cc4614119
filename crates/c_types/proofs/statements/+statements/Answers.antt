use Rattle.std.proofs.Common.{rules, ap, ◌∙◌}
use Rattle.c_tree.specs.declared.statement.StmtKind.{the_lemmas}
use Rattle.c_types.specs.Scope.{Scope}
use Rattle.c_types.specs.SwitchLabels.{no_labels}
use Rattle.c_types.specs.StatementTypes.{statement, statements, part, parts}
use Rattle.c_types.specs.Shown.{setting_of}
use Rattle.c_types.proofs.Verdicts.{verdict_laws}
use Rattle.c_types.proofs.Sequences.{outer-behind, behind-append, closed-opened, statement-step, statement-faults, part-step, part-faults}
use Rattle.c_types.proofs.statements.+statements.Goals as goal

pub in_order-returns-in_err-statement-clause-passes : goal.in_order-returns-in_err-statement-clause-passes
in_order-returns-in_err-statement-clause-passes g t c =
    let s = setting_of c.args.known.now in
    let fact = statement-faults (statement s) c.args.returns.now c.args.list.now c.loop-stmt.stmt-index c.stmt-item.result c.loop-stmt.scopes (statements s c.args.list.now c.args.returns.now c.args.scopes.now)
    c.loop-stmt-test.true c.stmt-item.is c.loop-stmt.invariant.faults in
    search (rules, fact, verdict_laws)

pub in_order-loop-stmt-preserved : goal.in_order-loop-stmt-preserved
in_order-loop-stmt-preserved g t c =
    let s = setting_of c.args.known.now in
    record {
      faults = statement-step (statement s) c.args.returns.now c.args.list.now c.loop-stmt.stmt-index c.stmt-item.result c.loop-stmt.scopes c.statement.new.scopes _
          c.loop-stmt-test.true c.stmt-item.is c.in_ok-statement.ensures.passes c.in_ok-statement.ensures.declares c.loop-stmt.invariant.faults;
      outer = ap Scope.outer c.in_ok-statement.ensures.declares ∙ outer-behind (statement s c.stmt-item.result).declares c.loop-stmt.scopes ∙ c.loop-stmt.invariant.outer;
    }

pub kind_statement-returns-in_err-integer-in-If-clause-passes : goal.kind_statement-returns-in_err-integer-in-If-clause-passes
kind_statement-returns-in_err-integer-in-If-clause-passes g t c = search (rules, the_lemmas, verdict_laws)

pub kind_statement-returns-in_err-statement-in-If-clause-passes : goal.kind_statement-returns-in_err-statement-in-If-clause-passes
kind_statement-returns-in_err-statement-in-If-clause-passes g t c = search (rules, the_lemmas, verdict_laws)

pub kind_statement-returns-in_err-kind-in-Switch-clause-passes : goal.kind_statement-returns-in_err-kind-in-Switch-clause-passes
kind_statement-returns-in_err-kind-in-Switch-clause-passes g t c = search (rules, the_lemmas, verdict_laws)

pub kind_statement-returns-in_ok-in_order-in-Block-clause-declares : goal.kind_statement-returns-in_ok-in_order-in-Block-clause-declares
kind_statement-returns-in_ok-in_order-in-Block-clause-declares g t c =
    let fact = closed-opened c.args.scopes.now c.in_order.new.scopes (c.in_ok-in_order-in-Block.ensures.keeps ∙ ap Scope.outer c.in_ok-open-in-Block.ensures) in
    search (rules, the_lemmas, fact)

pub kind_statement-returns-in-Some-clause-declares : goal.kind_statement-returns-in-Some-clause-declares
kind_statement-returns-in-Some-clause-declares g t c = search (rules, the_lemmas, behind-append)

pub kind_statement-returns-in_ok-parts_in_order-in-Switch-clause-declares : goal.kind_statement-returns-in_ok-parts_in_order-in-Switch-clause-declares
kind_statement-returns-in_ok-parts_in_order-in-Switch-clause-declares g t c =
    let fact = closed-opened c.args.scopes.now c.parts_in_order.new.scopes (c.in_ok-parts_in_order-in-Switch.ensures.keeps ∙ ap Scope.outer c.in_ok-open-in-Switch.ensures) in
    search (rules, the_lemmas, fact)

pub parts_in_order-returns-in_err-switch_part-clause-passes : goal.parts_in_order-returns-in_err-switch_part-clause-passes
parts_in_order-returns-in_err-switch_part-clause-passes g t c =
    let s = setting_of c.args.known.now in
    let fact = part-faults (part s) c.args.kind c.args.returns.now c.args.parts.now c.loop-part.part-index c.part-item.result c.loop-part.labels c.loop-part.scopes (parts s c.args.parts.now c.args.kind no_labels c.args.returns.now c.args.scopes.now)
    c.loop-part-test.true c.part-item.is c.loop-part.invariant.faults in
    search (rules, fact, verdict_laws)

pub parts_in_order-loop-part-preserved : goal.parts_in_order-loop-part-preserved
parts_in_order-loop-part-preserved g t c =
    let s = setting_of c.args.known.now in
    record {
      faults = part-step (part s) c.args.kind c.args.returns.now c.args.parts.now c.loop-part.part-index c.part-item.result c.loop-part.labels c.switch_part.new.labels c.loop-part.scopes c.switch_part.new.scopes _
          c.loop-part-test.true c.part-item.is c.in_ok-switch_part.ensures.passes c.in_ok-switch_part.ensures.labels c.in_ok-switch_part.ensures.declares c.loop-part.invariant.faults;
      outer = ap Scope.outer c.in_ok-switch_part.ensures.declares ∙ outer-behind (part s c.part-item.result).declares c.loop-part.scopes ∙ c.loop-part.invariant.outer;
    }

pub switch_part-returns-in_err-label-in-Label-clause-passes : goal.switch_part-returns-in_err-label-in-Label-clause-passes
switch_part-returns-in_err-label-in-Label-clause-passes g t c = search (rules, the_lemmas, verdict_laws)
