use Rattle.std.proofs.Common.{◌≡◌, ℕ, Bool, cond, ◌+◌, List, [], ◌∷◌, length, map, drop, take, ap, sym, subst, ◌∙◌, arith}
use Rattle.std.proofs.lemmas.List.{length_push, length-map, take_all, take_rest}
use Rattle.name_rules.specs.Identifier.{identifier_of}
use Rattle.name_rules.specs.Pruning.{pruned}
use Rattle.name_rules.specs.Wanted.{choice_identifiers}
use Rattle.name_rules.specs.Places.{Picks}
use Rattle.name_rules.specs.Taken.{taken_in}
use Rattle.name_rules.specs.Naming.{choice_name}
use Rattle.name_rules.proofs.PickLaws.{none, one_name, map-map}
use Rattle.name_rules.proofs.naming.of_choices.Goals as goal

abbrev pruned_if : Bool → List (List ℕ) → List (List ℕ)
pruned_if prune names = cond prune (pruned names) names

pub loop-id-init : goal.loop-id-init
loop-id-init c = record {
  count = ap length c.new-names.ensures;
  picks = subst (λ (ys : List (List ℕ)). Picks (taken_in c.args.file.now) (taken_in c.args.file.now) [] ys) (sym c.new-names.ensures) (none (taken_in c.args.file.now));
}

pub loop-id-preserved : goal.loop-id-preserved
loop-id-preserved c =
    let id = c.id-item.result in
    let front = c.args.front.now in
    let lost = c.lost_front-lost.result in
    let y = c.in_ok-pick.field-0 in
    let wanted : c.deref-in-loop-id.result.now ≡ choice_name front (drop lost id) =
    c.deref-in-loop-id.ensures.value ∙ c.in_ok-wanted.ensures ∙ ap (choice_name front) (take_rest c.bytes.result.now lost) ∙ ap (λ x. choice_name front (drop lost x)) c.bytes.ensures in
    record {
      count = ap length c.in_ok-push.ensures.ok ∙ length_push c.loop-id.names y ∙ ap (λ n. n + 1) c.loop-id.invariant.count;
      picks =
          one_name (λ x. choice_name front (drop lost x)) (taken_in c.args.file.now) (taken_in c.loop-id.file) (taken_in c.pick.new.self) c.deref-id-items.result.now c.loop-id.id-index id c.loop-id.names c.push.new.self y
          c.loop-id-test.true c.id-item.is c.in_ok-push.ensures.ok c.loop-id.invariant.picks
          (subst (λ (x : List ℕ). Picks (taken_in c.loop-id.file) (taken_in c.pick.new.self) (x ∷ []) (y ∷ [])) wanted c.in_ok-pick.ensures);
    }

pub returns-clause-count : goal.returns-clause-count
returns-clause-count c =
    let choices = c.args.s.now.choices in
    let ids = c.deref-id-items.result.now in
    let made : length ids ≡ length choices = ap length (c.deref-id-items.ensures.value ∙ c.in_ok-ids.ensures) ∙ length-map c.items.result.now (λ c. identifier_of c.name) ∙ ap length c.items.ensures in
    omega (arith, c.loop-id.invariant.count)

pub returns-clause-picks : goal.returns-clause-picks
returns-clause-picks c =
    let front = c.args.front.now in
    let lost = c.lost_front-lost.result in
    let ids = c.deref-id-items.result.now in
    let all : take c.loop-id.id-index ids ≡ ids = take_all c.loop-id.id-index ids c.loop-id-test.false in
    let pruned : map (drop lost) ids ≡ choice_identifiers c.args.prune c.args.s.now =
    ap (map (drop lost)) (c.deref-id-items.ensures.value ∙ sym c.deref.ensures.value) ∙ c.lost_front-lost.ensures.front ∙ ap (pruned_if c.args.prune) (c.deref.ensures.value ∙ c.in_ok-ids.ensures ∙ ap (map (λ c. identifier_of c.name)) c.items.ensures) in
    let wanted : map (λ x. choice_name front (drop lost x)) (take c.loop-id.id-index ids) ≡ map (choice_name front) (choice_identifiers c.args.prune c.args.s.now) =
    ap (map (λ x. choice_name front (drop lost x))) all ∙ sym (map-map (choice_name front) (drop lost) ids) ∙ ap (map (choice_name front)) pruned in
    subst (λ (xs : List (List ℕ)). Picks (taken_in c.args.file.now) (taken_in c.loop-id.file) xs c.loop-id.names) wanted c.loop-id.invariant.picks
