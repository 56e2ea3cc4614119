-- A name that is put among those seen is taken, and its first candidate with it.
use Rattle.std.proofs.Common.{◌≡◌, ap, ◌∙◌}
use Rattle.std.proofs.lemmas.Result.{IfOk-weaker}
use Rattle.name_rules.specs.Picks.{and_this}
use Rattle.name_rules.specs.Places.{taken_among}
use Rattle.name_rules.proofs.Seen.{taken-insert, resumes_itself, all-insert_either}
use Rattle.name_rules.proofs.picking.Place.take.Goals as goal

pub invariant_of-self-2 : goal.invariant_of-self-2
invariant_of-self-2 c =
    let place = c.args.self.now in
    let key = c.in_ok-from_slice.field-0 in
    record {
      resumes = all-insert_either c.insert.result place.kind key 2 place.seen.entries c.insert.new.self.entries c.insert.ensures.entries c.insert.ensures.err
          (resumes_itself (taken_among place.kind place.seen.entries) key.items) place.resumes;
    }

pub returns-clause-taken : goal.returns-clause-taken
returns-clause-taken c =
    let place = c.args.self.now in
    let key = c.in_ok-from_slice.field-0 in
    let same = ap (taken_among place.kind) c.in_ok-insert.ensures.entries
    ∙ taken-insert place.kind key 2 place.seen.entries
    ∙ ap (and_this (taken_among place.kind place.seen.entries)) c.in_ok-from_slice.ensures.items in
    IfOk-weaker c.copy_of.result (λ t. t ≡ c.args.name.now) _ (λ t e. same) c.copy_of.ensures
