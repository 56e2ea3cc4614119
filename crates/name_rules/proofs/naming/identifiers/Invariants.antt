use Rattle.std.proofs.Common.{◌≡◌, map, take}
use Rattle.name_rules.specs.Identifier.{identifier_of}
use Rattle.name_rules.proofs.naming.identifiers.Given as goal

abbrev pub invariant-loop-c : goal.invariant-loop-c
invariant-loop-c l = l.ids.items ≡ map (λ c. identifier_of c.name) (take l.c-index l.choices)
