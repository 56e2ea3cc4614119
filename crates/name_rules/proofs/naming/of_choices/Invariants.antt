use Rattle.std.proofs.Common.{◌≡◌, map, take, drop, length}
use Rattle.name_rules.specs.Naming.{choice_name}
use Rattle.name_rules.specs.Places.{Picks}
use Rattle.name_rules.specs.Taken.{taken_in}
use Rattle.name_rules.proofs.naming.of_choices.Given as goal

abbrev pub invariant-loop-id : goal.invariant-loop-id
invariant-loop-id l = record {
  count : length l.names ≡ l.id-index;
  picks : Picks (taken_in l.fn.file) (taken_in l.file) (map (λ x. choice_name l.front (drop l.lost x)) (take l.id-index l.id-items)) l.names;
}
