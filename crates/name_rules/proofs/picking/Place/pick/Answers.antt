-- A free name is its own pick, and of a taken one the first candidate that is free.
use Rattle.std.proofs.Common.{◌+◌, ℕ, List, Bool, sym, ap, subst, ◌∙◌, bytes_eq}
use Rattle.std.proofs.lemmas.Bool.{or_right}
use Rattle.name_rules.specs.Picks.{and_this}
use Rattle.name_rules.specs.Places.{Resumes}
use Rattle.name_rules.specs.Taken.{taken_in}
use Rattle.name_rules.proofs.Seen.{resumes_behind}
use Rattle.name_rules.proofs.picking.Place.pick.Goals as goal

pub resume_at-requires-clause-taken : goal.resume_at-requires-clause-taken
resume_at-requires-clause-taken c =
    let is_taken = taken_in c.args.self.now in
    let wanted = c.args.wanted.now in
    ap (λ (t : List ℕ → Bool). t wanted) c.in_ok-name.ensures.taken
    ∙ or_right (bytes_eq c.deref.result.now wanted) (is_taken wanted) (sym c.is_taken.ensures ∙ c.if-not-is_taken.false)

pub resume_at-requires-clause-below : goal.resume_at-requires-clause-below
resume_at-requires-clause-below c =
    let is_taken = taken_in c.args.self.now in
    let found = c.in_ok-found.found in
    let first = c.in_ok-found.ensures.first in
    let after = c.in_ok-name.ensures.taken ∙ ap (and_this is_taken) (c.deref.ensures.value ∙ first.name) in
    subst (λ (t : List ℕ → Bool). Resumes t c.args.wanted.now (found.suffix + 1)) (sym after) (resumes_behind is_taken c.args.wanted.now found.suffix first.first)
