use Rattle.std.proofs.Common.{◌≡◌, ◌++◌, drop, map}
use Rattle.c_effect.specs.FunctionCall.{number_arg}
use Rattle.c_exec.proofs.parameters.number_args.Given as goal

abbrev pub invariant-loop-number : goal.invariant-loop-number
invariant-loop-number l = l.args ++ map number_arg (drop l.number-index l.numbers) ≡ map number_arg l.numbers
