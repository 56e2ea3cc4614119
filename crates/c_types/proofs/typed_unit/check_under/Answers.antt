use Rattle.c_widths.specs.DataModel.{model_of}
use Rattle.c_types.specs.UnitTypes.{unit_faults}
use Rattle.c_types.proofs.Verdicts.{gives_none, gives_refuses}
use Rattle.c_types.proofs.typed_unit.check_under.Goals.{in-Ok, in-Err}
use Rattle.c_types.proofs.typed_unit.check_under.Goals as goal

pub returns : goal.returns
returns g c =
    let faults = unit_faults (model_of g.row.INT g.row.LONG g.row.PTR) c.args.unit.now in
    elim c.match-typed.branch [
      | in-Ok w ↦ rw (w.result-is) (gives_none faults c.args.unit.now _ w.in-Ok.ensures.exact)
      | in-Err w ↦ rw (w.result-is) (gives_refuses (λ t. t) w.in-Err.fault faults c.args.unit.now w.in-Err.ensures.exact)
    ]
