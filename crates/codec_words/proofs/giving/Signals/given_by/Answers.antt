use Rattle.std.proofs.Common.{rules, sym, ◌∙◌, ap, Some}
use Rattle.std.proofs.lemmas.Int.{to_z-of_z}
use Rattle.std.specs.Int.{w128}
use Rattle.can_model.proofs.Elements.{element_at}
use Rattle.codec_words.proofs.WordValues.{given_here}
use Rattle.codec_words.proofs.giving.Signals.given_by.Goals as goal

pub returns : goal.returns
returns c =
    let m = c.args.self.now.message.now in
    let found = c.in_ok-signal.ensures.lookup in
    ap (λ v. Some (c.in_ok-index.index, v)) (to_z-of_z w128 c.in_ok-value.value (search rules))
    ∙ sym (given_here m c.args.name.now c.args.text.now c.in_ok-index.index c.in_ok-signal.signal.now c.in_ok-value.value (sym c.in_ok-index.ensures)
    (element_at m.signals c.items.result.now c.in_ok-index.index c.in_ok-signal.signal.now c.items.ensures found.3.0 found.1) (sym c.in_ok-value.ensures))
