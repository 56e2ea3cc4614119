use Rattle.std.proofs.Common.{◌≡◌, drop}
use Rattle.c_effect.specs.Choosing.{effects}
use Rattle.c_effect.specs.Ending.{sequence}
use Rattle.c_effect.specs.StatementEffect.{effects_of, parts_of}
use Rattle.c_exec.specs.Shown.{world_of}
use Rattle.c_exec.proofs.running.+runs.Given as goal

-- the statements that are left have the effect of all, from here on
abbrev pub invariant-run_all-loop-stmt : goal.invariant-run_all-loop-stmt
invariant-run_all-loop-stmt g l =
    let w = world_of g.row.INT g.row.LONG g.row.PTR l.world.unit.now (g.C.Calls.meaning l.world.calls.now) in
    sequence (effects_of w (drop l.stmt-index l.list)) l.locals l.objects ≡ sequence (effects_of w l.list) l.initial.locals l.initial.objects

abbrev pub invariant-run_from-loop-index : goal.invariant-run_from-loop-index
invariant-run_from-loop-index g l =
    let w = world_of g.row.INT g.row.LONG g.row.PTR l.world.unit.now (g.C.Calls.meaning l.world.calls.now) in
    sequence (effects (parts_of w (drop l.index l.parts))) l.locals l.objects ≡ sequence (effects (parts_of w (drop l.initial.index l.parts))) l.initial.locals l.initial.objects
