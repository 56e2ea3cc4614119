use Rattle.std.proofs.Common.{rules, []}
use Rattle.c_types.specs.UnitTypes.{fields_in_order}
use Rattle.c_types.specs.Shown.{setting_of}
use Rattle.c_types.proofs.Verdicts.{verdict_laws}
use Rattle.c_types.proofs.FieldLists.{fields-step, fields-fault, declares-step}
use Rattle.c_types.proofs.declaring.declare_fields.Goals as goal

pub returns-in_err-declare_field-clause-passes : goal.returns-in_err-declare_field-clause-passes
returns-in_err-declare_field-clause-passes g c =
    let s = setting_of c.args.known.now in
    let fact = fields-fault s c.args.fields.now c.loop-field.field-index c.field-item.result c.loop-field.table (fields_in_order s [] c.args.fields.now) c.loop-field-test.true c.field-item.is c.loop-field.invariant.faults in
    search (rules, fact, verdict_laws)

pub loop-field-preserved : goal.loop-field-preserved
loop-field-preserved g c =
    let s = setting_of c.args.known.now in
    record {
      faults = fields-step s c.args.fields.now c.loop-field.field-index c.field-item.result c.loop-field.table c.declare_field.new.table (fields_in_order s [] c.args.fields.now)
          c.loop-field-test.true c.field-item.is c.in_ok-declare_field.ensures.passes c.in_ok-declare_field.ensures.declares c.loop-field.invariant.faults;
      declares = declares-step c.args.fields.now c.loop-field.field-index c.field-item.result c.loop-field.table c.declare_field.new.table
          c.loop-field-test.true c.field-item.is c.in_ok-declare_field.ensures.declares c.loop-field.invariant.declares;
    }
