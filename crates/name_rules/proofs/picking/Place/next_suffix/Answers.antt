-- What the map has for the name is what the place keeps.
use Rattle.std.proofs.Common.{◌∙◌, sym}
use Rattle.name_rules.proofs.Seen.{look-lookup}
use Rattle.name_rules.proofs.picking.Place.next_suffix.Goals as goal

pub returns-in-Some : goal.returns-in-Some
returns-in-Some c =
    let place = c.args.self.now in
    place.resumes c.args.wanted.now c.in-Some.next.now (look-lookup c.args.wanted.now place.seen.entries ∙ sym c.in-Some.ensures.value)
