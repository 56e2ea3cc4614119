-- The number goes down from the front that all names share, past those at which some name stays.
use Rattle.std.proofs.Common.{◌≡◌, ◌⊎◌, ◌-◌, inl, inr, ◌<◌, ◌≤◌, ℕ, length, false, ◌∙◌, sym, subst, arith}
use Rattle.std.specs.List.{list_all}
use Rattle.std.proofs.lemmas.Bool.{cases_eq}
use Rattle.name_rules.specs.Pruning.{can_lose}
use Rattle.name_rules.proofs.Losing.{beyond, up_to, one_stays, most_lost-none, most_lost-at}
use Rattle.name_rules.proofs.pruning.most_lost.Goals as goal

pub loop-n-init : goal.loop-n-init
loop-n-init c = record {
  within = omega arith;
  more = λ k lt le. beyond c.args.first.now c.args.names.now c.shared_front-n.result k (c.shared_front-n.ensures.shared k le) lt;
}

pub loop-n-preserved : goal.loop-n-preserved
loop-n-preserved c =
    let first = c.args.first.now in
    let names = c.args.names.now in
    let n = c.loop-n.n in
    let at : (k : ℕ) → n - 1 < k → k ≤ length first → (k ≡ n) ⊎ (k ≡ n → ⊥) → list_all (can_lose first k) names ≡ false =
    λ k lt le o. elim o [
      | inl e ↦ subst (λ (j : ℕ). list_all (can_lose first j) names ≡ false) (sym e) (one_stays first names n (sym c.all_lose.ensures ∙ c.if-not-all_lose.true))
      | inr ne ↦ c.loop-n.invariant.more k (omega arith) le
    ] in
    record { within = omega (arith, c.loop-n.invariant.within); more = λ k lt le. at k lt le (cases_eq k n) }

pub returns-else-not-all_lose : goal.returns-else-not-all_lose
returns-else-not-all_lose c =
    let first = c.args.first.now in
    let names = c.args.names.now in
    let n = c.loop-n.n in
    let le : n ≤ c.shared_front-n.result = c.loop-n.invariant.within in
    let inside : n ≤ length first = omega (arith, c.shared_front-n.ensures.within) in
    most_lost-at first names n (omega arith) inside
    (up_to first names c.shared_front-n.result n (c.shared_front-n.ensures.shared n inside) le (sym c.all_lose.ensures ∙ c.if-not-all_lose.false))
    c.loop-n.invariant.more

pub returns-after-loop-n : goal.returns-after-loop-n
returns-after-loop-n c =
    let none : c.loop-n.n ≡ 0 = omega arith in
    none ∙ most_lost-none c.args.first.now c.args.names.now (λ k lt le. c.loop-n.invariant.more k (omega arith) le)
