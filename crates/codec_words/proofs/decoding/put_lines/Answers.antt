use Rattle.std.proofs.Common.{inl, inr}
use Rattle.codec_words.proofs.Lines.{without_signals, without_values, all_told}
use Rattle.codec_words.proofs.decoding.put_lines.Goals as goal

pub returns : goal.returns
returns c =
    let signals = c.loop-signal.signal-iterator.a.rest.now in
    let values = c.loop-signal.signal-iterator.b.rest.now in
    elim c.in-None.ensures.steps [
      | inl ended ↦ all_told _ _ _ (without_signals signals values ended.1.0) c.loop-signal.invariant
      | inr ended ↦ all_told _ _ _ (without_values signals values ended.1.0) c.loop-signal.invariant
    ]
