use Rattle.std.proofs.Common.{rules, []}
use Rattle.c_widths.specs.DataModel.{model_of}
use Rattle.c_types.specs.UnitTypes.{items_in_order}
use Rattle.c_types.specs.Shown.{setting_of}
use Rattle.c_types.proofs.Verdicts.{verdict_laws}
use Rattle.c_types.proofs.Items.{knows-step, items-fault, items-step}
use Rattle.c_types.proofs.typed_unit.declare_all.Goals as goal

pub returns-in_err-declare-clause-passes : goal.returns-in_err-declare-clause-passes
returns-in_err-declare-clause-passes g c =
    let m = model_of g.row.INT g.row.LONG g.row.PTR in
    let fact = items-fault m c.args.items.now c.loop-item.item-index c.item-item.result c.loop-item-test.true c.item-item.is
    (setting_of c.loop-item.known) (items_in_order m c.args.items.now [] c.args.items.now) c.loop-item.invariant.knows c.loop-item.invariant.faults in
    search (rules, fact, verdict_laws)

pub loop-item-preserved : goal.loop-item-preserved
loop-item-preserved g c =
    let m = model_of g.row.INT g.row.LONG g.row.PTR in
    let items = c.args.items.now in
    record {
      faults = items-step m items c.loop-item.item-index c.item-item.result c.loop-item-test.true c.item-item.is
          (setting_of c.loop-item.known) (items_in_order m items [] items) c.loop-item.invariant.knows c.in_ok-declare.ensures.passes c.loop-item.invariant.faults;
      knows = knows-step m items c.loop-item.item-index c.item-item.result c.loop-item-test.true c.item-item.is
          (setting_of c.loop-item.known) (setting_of c.declare.new.known) c.loop-item.invariant.knows c.in_ok-declare.ensures.adds;
    }
