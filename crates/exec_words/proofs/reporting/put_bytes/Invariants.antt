use Rattle.std.proofs.Common.{◌≡◌, ◌++◌, drop}
use Rattle.exec_words.specs.CallReport.{bytes_text}
use Rattle.exec_words.proofs.reporting.put_bytes.Given as goal

-- what is so far, with the text of the rest, is the whole
abbrev pub invariant-loop-cell : goal.invariant-loop-cell
invariant-loop-cell l = l.out.items ++ bytes_text (drop l.cell-index l.cells) ≡ l.fn.out.items ++ bytes_text l.cells
