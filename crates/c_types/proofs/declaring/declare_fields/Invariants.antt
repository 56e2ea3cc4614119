use Rattle.std.proofs.Common.{◌≡◌, ◌++◌, [], drop}
use Rattle.c_types.specs.Setting.{declared_by}
use Rattle.c_types.specs.UnitTypes.{fields_in_order}
use Rattle.c_types.specs.Shown.{setting_of}
use Rattle.c_types.proofs.declaring.declare_fields.Given as goal

-- the faults of the fields that are left are those of all, and these are declared
abbrev pub invariant-loop-field : goal.invariant-loop-field
invariant-loop-field g l = record {
  faults : fields_in_order (setting_of l.known) l.table (drop l.field-index l.fields) ≡ fields_in_order (setting_of l.known) [] l.fields;
  declares : l.table ++ declared_by (drop l.field-index l.fields) ≡ declared_by l.fields;
}
