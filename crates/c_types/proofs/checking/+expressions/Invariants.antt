use Rattle.std.proofs.Common.{◌≡◌, drop}
use Rattle.c_types.specs.ExpressionTypes.{all_arguments}
use Rattle.c_types.specs.Shown.{setting_of}
use Rattle.c_types.proofs.checking.+expressions.Given as goal

-- the faults of the arguments that are left are those of all
abbrev pub invariant-arguments-loop-arg : goal.invariant-arguments-loop-arg
invariant-arguments-loop-arg g l =
    all_arguments (setting_of l.known) (drop l.arg-index l.args) l.scopes ≡ all_arguments (setting_of l.known) l.args l.scopes
