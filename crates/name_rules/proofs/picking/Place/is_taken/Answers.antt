use Rattle.std.proofs.Common.{◌||◌, sym, ap, ◌∙◌}
use Rattle.name_rules.specs.Places.{is_reserved_in}
use Rattle.name_rules.proofs.Seen.{taken-seen}
use Rattle.name_rules.proofs.picking.Place.is_taken.Goals as goal

pub returns-then-contains_key : goal.returns-then-contains_key
returns-then-contains_key c =
    let kind = c.args.self.now.kind in
    let name = c.args.name.now in
    c.if-contains_key.true
    ∙ ap (λ b. b || is_reserved_in kind name) (sym c.if-contains_key.true)
    ∙ taken-seen kind c.args.self.now.seen.entries name c.contains_key.result c.contains_key.ensures

pub returns-else-contains_key : goal.returns-else-contains_key
returns-else-contains_key c =
    let kind = c.args.self.now.kind in
    let name = c.args.name.now in
    c.reserves.ensures
    ∙ ap (λ b. b || is_reserved_in kind name) (sym c.if-contains_key.false)
    ∙ taken-seen kind c.args.self.now.seen.entries name c.contains_key.result c.contains_key.ensures
