use Rattle.std.proofs.Common.{◌+◌, drop, ap, ◌∙◌, sym, add-zero}
use Rattle.std.proofs.lemmas.List.{drop_all}
use Rattle.name_rules.specs.Fronts.{front_len}
use Rattle.name_rules.proofs.Losing.{front_len-nil}
use Rattle.name_rules.proofs.pruning.common_front.Goals as goal

pub returns-else-n-b : goal.returns-else-n-b
returns-else-n-b c =
    let a = c.args.a.now in
    let n = c.loop-n.n in
    sym (add-zero n)
    ∙ ap (λ m. n + m) (sym (ap (front_len (drop n a)) (drop_all n c.args.b.now c.if-n-b.false) ∙ front_len-nil (drop n a)))
    ∙ c.loop-n.invariant
