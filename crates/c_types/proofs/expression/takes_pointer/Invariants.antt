use Rattle.std.proofs.Common.{◌≡◌, drop}
use Rattle.c_types.specs.ExpressionTypes.{takes_pointer}
use Rattle.c_types.proofs.expression.takes_pointer.Given as goal

-- the parameters that are left have the answer
abbrev pub invariant-loop-param : goal.invariant-loop-param
invariant-loop-param l = takes_pointer (drop l.param-index l.params) ≡ takes_pointer l.params
