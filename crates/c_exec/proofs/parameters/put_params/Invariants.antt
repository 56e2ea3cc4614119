use Rattle.std.proofs.Common.{◌≡◌}
use Rattle.c_widths.specs.DataModel.{model_of}
use Rattle.c_effect.specs.FunctionCall.{with_params}
use Rattle.c_exec.proofs.parameters.put_params.Given as goal

-- the parameters and arguments that are left have their place behind those so far
abbrev pub invariant-loop-param : goal.invariant-loop-param
invariant-loop-param g l =
    let m = model_of g.row.INT g.row.LONG g.row.PTR in
    with_params m l.param-iterator.a.rest.now l.param-iterator.b.rest.now l.block ≡ with_params m l.params l.args l.initial.block
