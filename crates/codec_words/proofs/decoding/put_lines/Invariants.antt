use Rattle.std.proofs.Common.{◌≡◌, ◌++◌}
use Rattle.codec_words.specs.Reports.{value_lines}
use Rattle.codec_words.proofs.decoding.put_lines.Given as goal

-- what is so far, with the lines of the rest, is the whole
abbrev pub invariant-loop-signal : goal.invariant-loop-signal
invariant-loop-signal l = l.out.items ++ value_lines l.signal-iterator.a.rest.now l.signal-iterator.b.rest.now ≡ l.fn.out.items ++ value_lines l.signals l.values
