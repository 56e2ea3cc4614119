use Rattle.std.proofs.Common.{◌≡◌, ◌++◌, drop}
use Rattle.c_printed.specs.PrintedItem.{fields_text}
use Rattle.c_printer.specs.BarePart.{with_comments}
use Rattle.c_printer.proofs.item.print_fields.Given as goal

-- what is so far, with the text of the rest, is the whole
abbrev pub invariant-loop-field : goal.invariant-loop-field
invariant-loop-field l = l.out.items ++ fields_text (with_comments (drop l.field-index l.fields) l.rest) ≡ l.fn.out.items ++ fields_text (with_comments l.fields l.comments)
