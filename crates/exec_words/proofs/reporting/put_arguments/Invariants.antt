use Rattle.std.proofs.Common.{◌≡◌, ◌++◌, ◌+◌, drop}
use Rattle.c_types.specs.Setting.{structs}
use Rattle.exec_words.specs.CallReport.{argument_lines}
use Rattle.exec_words.proofs.reporting.put_arguments.Given as goal

-- what is so far, with the lines of the rest, is the whole
abbrev pub invariant-loop-i : goal.invariant-loop-i
invariant-loop-i g l =
    l.out.items ++ argument_lines (structs l.typed.items) l.objects (l.i + 1) (drop l.i l.args)
    ≡ l.fn.out.items ++ argument_lines (structs l.typed.items) l.objects 1 l.args
