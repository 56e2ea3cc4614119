use Rattle.std.proofs.Common.{◌≡◌, ◌++◌, ◌-◌}
use Rattle.c_printed.specs.PrintedStatement.{blanks}
use Rattle.c_printer.proofs.statement.print_blanks.Given as goal

-- what is so far, with the blanks that are left, is the whole
abbrev pub invariant-loop : goal.invariant-loop
invariant-loop l = l.out.items ++ blanks (l.count - l.counter) ≡ l.fn.out.items ++ blanks l.count
