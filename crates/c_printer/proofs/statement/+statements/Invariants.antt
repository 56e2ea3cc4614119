use Rattle.std.proofs.Common.{◌≡◌, ◌++◌, drop, map}
use Rattle.c_tree.specs.BareStatement.{bare_statement, bare_switch_part, actions_of, parts_of}
use Rattle.c_printed.specs.PrintedStatement.{actions_text, parts_text}
use Rattle.c_printer.proofs.statement.+statements.Given as goal

-- what is so far, with the text of the rest, is the whole
abbrev pub invariant-print_statements-loop-stmt : goal.invariant-print_statements-loop-stmt
invariant-print_statements-loop-stmt l = l.out.items ++ actions_text l.indent (actions_of (map bare_statement (drop l.stmt-index l.list))) ≡ l.initial.out.items ++ actions_text l.indent (actions_of (map bare_statement l.list))

abbrev pub invariant-print_parts-loop-part : goal.invariant-print_parts-loop-part
invariant-print_parts-loop-part l = l.out.items ++ parts_text l.indent (parts_of (map bare_switch_part (drop l.part-index l.parts))) ≡ l.initial.out.items ++ parts_text l.indent (parts_of (map bare_switch_part l.parts))
