use Rattle.std.proofs.Common.{◌∷◌, [], bytes_eq, cond, Some, None, position, take, sym, ap, ◌∙◌}
use Rattle.cg_out.specs.Words.{or_else, look_up}
use Rattle.codec_words.proofs.Places.{position-more}
use Rattle.codec_words.proofs.giving.indices_of.Goals as goal

pub loop-i-preserved : goal.loop-i-preserved
loop-i-preserved c = λ name.
    let signals = c.args.signals.now in
    let before = position (λ s. bytes_eq s.name name) (take c.loop-i.i signals) in
    c.in_ok-put_first.ensures name
    ∙ ap (λ o. or_else o (look_up name ((c.bytes.result.now, c.loop-i.i) ∷ []))) (c.loop-i.invariant name)
    ∙ ap (λ n. or_else before (cond (bytes_eq n name) (Some c.loop-i.i) None)) c.bytes.ensures
    ∙ sym (position-more (λ s. bytes_eq s.name name) signals c.loop-i.i c.index-signals-i.result c.loop-i-test.true c.index-signals-i.is)
