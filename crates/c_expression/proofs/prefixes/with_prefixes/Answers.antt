use Rattle.std.proofs.Common.{sym, ap, ◌∙◌}
use Rattle.c_expression.specs.Prefixes.{with_prefixes}
use Rattle.c_expression.proofs.Operands.{last-prefix}
use Rattle.c_expression.proofs.prefixes.with_prefixes.Goals as goal

pub loop-op-preserved : goal.loop-op-preserved
loop-op-preserved c =
    let tree = c.loop-op.tree in
    rw c.in_ok-tree.ensures (sym (last-prefix c.pop.new.self.items c.in-Some.op tree) ∙ ap (λ ps. with_prefixes ps tree) (sym c.in-Some.ensures.items) ∙ c.loop-op.invariant)
