use Rattle.std.proofs.Common.{◌≤◌, ℕ, List, length, sym, subst, refl, ◌∙◌}
use Rattle.std.specs.List.{AllByRecursion}
use Rattle.std.proofs.lemmas.Bool.{cond-false}
use Rattle.name_rules.specs.Pruning.{pruned}
use Rattle.name_rules.proofs.Losing.{drop-none, nothing, most_lost-within}
use Rattle.name_rules.proofs.pruning.lost_front.Goals as goal

pub returns-then-not-prune-clause-front : goal.returns-then-not-prune-clause-front
returns-then-not-prune-clause-front c =
    let names = c.args.names.now in
    drop-none names ∙ sym (cond-false c.args.prune (pruned names) names c.if-not-prune.true)

pub returns-then-not-prune-clause-within : goal.returns-then-not-prune-clause-within
returns-then-not-prune-clause-within c = nothing c.args.names.now 0 refl

pub returns-in_default-clause-within : goal.returns-in_default-clause-within
returns-in_default-clause-within c = nothing c.args.names.now 0 refl

pub returns-in-len2-up-clause-within : goal.returns-in-len2-up-clause-within
returns-in-len2-up-clause-within c =
    subst (λ (n : ℕ). AllByRecursion (λ (x : List ℕ). n ≤ length x) c.args.names.now) (sym c.most_lost.ensures) (most_lost-within c.bytes.result.now c.args.names.now)
