-- The range check's name and then those of the choices.
use Rattle.std.proofs.Common.{◌≡◌, ℕ, List, [], ◌∷◌, ◌++◌, map, ap, subst, ◌∙◌}
use Rattle.std.specs.Prelude.{codes}
use Rattle.name_rules.specs.Identifier.{identifier_of}
use Rattle.name_rules.specs.Wanted.{joined, choice_identifiers}
use Rattle.name_rules.specs.Places.{Picks}
use Rattle.name_rules.specs.Taken.{taken_in}
use Rattle.name_rules.specs.Naming.{choice_name}
use Rattle.name_rules.proofs.PickLaws.{then}
use Rattle.name_rules.proofs.naming.of_signal.Goals as goal

pub returns-clause-picks : goal.returns-clause-picks
returns-clause-picks c =
    let front = c.args.front.now in
    let s = c.args.s.now in
    let before = taken_in c.args.file.now in
    let between = taken_in c.pick_ending.new.place in
    let after = taken_in c.of_choices.new.file in
    let range = c.in_ok-range.range in
    let choices = c.in_ok-choices.choices in
    let name = joined front (identifier_of s.name) in
    let named : c.in_ok-signal.signal.items ≡ name =
    c.in_ok-signal.ensures ∙ ap (joined front) (c.bytes-3.ensures ∙ c.in_ok-id.ensures.exact ∙ ap identifier_of c.bytes.ensures) in
    let first : Picks before between ((name ++ codes "_is_in_range") ∷ []) (range ∷ []) =
    subst (λ (x : List ℕ). Picks before between ((x ++ codes "_is_in_range") ∷ []) (range ∷ [])) (c.deref.ensures.value ∙ named) c.in_ok-range.ensures in
    let second : Picks between after (map (choice_name name) (choice_identifiers c.args.prune s)) choices =
    subst (λ (x : List ℕ). Picks between after (map (choice_name x) (choice_identifiers c.args.prune s)) choices) (c.deref-2.ensures.value ∙ named) c.in_ok-choices.ensures.picks in
    then before between after ((name ++ codes "_is_in_range") ∷ []) (range ∷ []) (map (choice_name name) (choice_identifiers c.args.prune s)) choices first second
