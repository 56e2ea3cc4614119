use Rattle.std.proofs.Common.{◌≡◌, ◌++◌}
use Rattle.exec_words.specs.CallReport.{further_text}
use Rattle.exec_words.proofs.reporting.put_further.Given as goal

-- what is so far, with the text of the rest, is the whole
abbrev pub invariant-loop-field : goal.invariant-loop-field
invariant-loop-field l = l.out.items ++ further_text l.field-iterator.a.rest.now l.field-iterator.b.rest.now ≡ l.fn.out.items ++ further_text l.fields l.cells
