use Rattle.std.proofs.Common.{◌≡◌, ◌++◌, drop, Ok}
use Rattle.cg_out.specs.Words.{◌>>=◌}
use Rattle.c_effect.specs.ExpressionValue.{values_of}
use Rattle.c_exec.specs.Shown.{world_of}
use Rattle.c_exec.proofs.value.+values.Given as goal

-- the numbers so far, and those of the arguments that are left
abbrev pub invariant-values_of-loop-arg : goal.invariant-values_of-loop-arg
invariant-values_of-loop-arg g l =
    let w = world_of g.row.INT g.row.LONG g.row.PTR l.world.unit.now (g.C.Calls.meaning l.world.calls.now) in
    (values_of w (drop l.arg-index l.args) l.locals l.objects >>= (λ xs. Ok (l.numbers ++ xs))) ≡ values_of w l.args l.locals l.objects
