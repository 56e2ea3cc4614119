use Rattle.name_rules.specs.Places.{Resumes}
use Rattle.name_rules.specs.Taken.{taken_in}
use Rattle.name_rules.proofs.picking.Place.first_free.Given as goal

-- all candidates below the suffix are taken
abbrev pub invariant-loop-suffix : goal.invariant-loop-suffix
invariant-loop-suffix l = Resumes (taken_in l.self) l.wanted l.suffix
