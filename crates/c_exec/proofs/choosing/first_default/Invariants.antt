use Rattle.std.proofs.Common.{◌≡◌, drop}
use Rattle.c_effect.specs.Choosing.{from_label, is_default}
use Rattle.c_effect.specs.StatementEffect.{parts_of}
use Rattle.c_exec.specs.Shown.{world_of}
use Rattle.c_exec.proofs.choosing.first_default.Given as goal

abbrev pub invariant-loop-index : goal.invariant-loop-index
invariant-loop-index g l =
    let w = world_of g.row.INT g.row.LONG g.row.PTR l.world.unit.now (g.C.Calls.meaning l.world.calls.now) in
    from_label is_default (parts_of w (drop l.index l.parts)) ≡ from_label is_default (parts_of w l.parts)
