use Rattle.std.proofs.Common.{◌≡◌, ◌++◌, drop}
use Rattle.c_tree.specs.BareStatement.{bare_all}
use Rattle.c_printed.specs.PrintedExpression.{separated}
use Rattle.c_printer.proofs.expression.+expressions.Given as goal

-- what is so far, with the text of the rest, is the whole
abbrev pub invariant-print_arguments-loop-arg : goal.invariant-print_arguments-loop-arg
invariant-print_arguments-loop-arg l = l.out.items ++ separated l.wide l.first (bare_all (drop l.arg-index l.args)) ≡ l.initial.out.items ++ separated l.wide l.initial.first (bare_all l.args)
