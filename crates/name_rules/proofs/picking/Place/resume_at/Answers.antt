-- What was taken stays so, since the name is taken already.
use Rattle.std.proofs.Common.{ℕ, List, sym, ap, subst, ◌∙◌}
use Rattle.name_rules.specs.Picks.{and_this}
use Rattle.name_rules.specs.Places.{taken_among, Resumes}
use Rattle.name_rules.proofs.Seen.{taken-insert, taken_again, resumes_more, all-insert_either}
use Rattle.name_rules.proofs.picking.Place.resume_at.Goals as goal

pub invariant_of-self-2 : goal.invariant_of-self-2
invariant_of-self-2 c =
    let place = c.args.self.now in
    let key = c.in_ok-from_slice.field-0 in
    let is_taken = taken_among place.kind place.seen.entries in
    record {
      resumes = all-insert_either c.insert.result place.kind key c.args.next place.seen.entries c.insert.new.self.entries c.insert.ensures.entries c.insert.ensures.err
          (resumes_more is_taken key.items key.items c.args.next (subst (λ (x : List ℕ). Resumes is_taken x c.args.next) (sym c.in_ok-from_slice.ensures.items) c.requires.below)) place.resumes;
    }

pub returns : goal.returns
returns c =
    let place = c.args.self.now in
    let key = c.in_ok-from_slice.field-0 in
    let is_taken = taken_among place.kind place.seen.entries in
    ap (taken_among place.kind) c.in_ok-insert.ensures.entries
    ∙ taken-insert place.kind key c.args.next place.seen.entries
    ∙ ap (and_this is_taken) c.in_ok-from_slice.ensures.items
    ∙ taken_again is_taken c.args.wanted.now c.requires.taken
