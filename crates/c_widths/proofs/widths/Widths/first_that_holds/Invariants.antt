use Rattle.std.proofs.Common.{◌≡◌, drop}
use Rattle.c_widths.specs.DataModel.{model_of}
use Rattle.c_widths.specs.ConstantType.{first_that_holds}
use Rattle.c_widths.proofs.widths.Widths.first_that_holds.Given as goal

-- the kinds that are left have the answer
abbrev pub invariant-loop-kind : goal.invariant-loop-kind
invariant-loop-kind g l =
    let m = model_of g.row.INT g.row.LONG g.row.PTR in
    first_that_holds m l.number (drop l.kind-index l.kinds) ≡ first_that_holds m l.number l.kinds
