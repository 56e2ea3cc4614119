-- What is taken in a place, and what picks take there.
use Rattle.std.specs.Prelude.{ℕ, Bool, List}
use Rattle.name_rules.specs.declared.picking.Place.{Place}
use Rattle.name_rules.specs.Places.{taken_among, Picks}

abbrev pub taken_in : Place → List ℕ → Bool
taken_in p = taken_among p.kind p.seen.entries

-- between these two states of a place the wanted names were picked, and nothing else was taken
abbrev pub PicksIn : Place → Place → List (List ℕ) → List (List ℕ) → Type 0
PicksIn before after wanted names = Picks (taken_in before) (taken_in after) wanted names
