use Rattle.std.proofs.Common.{◌≡◌, ◌++◌, drop}
use Rattle.c_printed.specs.PrintedUnit.{unit_text}
use Rattle.c_printer.specs.BarePart.{bare_parts}
use Rattle.c_printer.proofs.print.Given as goal

-- what is so far, with the text of the rest, is the whole
abbrev pub invariant-loop-part : goal.invariant-loop-part
invariant-loop-part l = l.out.items ++ unit_text (bare_parts (drop l.part-index l.unit.parts)) ≡ l.fn.out.items ++ unit_text (bare_parts l.unit.parts)
