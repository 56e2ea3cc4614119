use Rattle.std.proofs.Common.{◌≡◌, ◌++◌, drop, map, true}
use Rattle.c_tree.specs.BareUnit.{bare_field}
use Rattle.c_printed.specs.PrintedItem.{params_text}
use Rattle.c_printer.proofs.item.print_params.Given as goal

-- what is so far, with the text of the rest, is the whole
abbrev pub invariant-loop-param : goal.invariant-loop-param
invariant-loop-param l = l.out.items ++ params_text l.first (map bare_field (drop l.param-index l.params)) ≡ l.fn.out.items ++ params_text true (map bare_field l.params)
