use Rattle.std.proofs.Common.{◌≡◌, drop}
use Rattle.c_types.specs.SwitchLabels.{no_labels}
use Rattle.c_types.specs.StatementTypes.{statements, parts}
use Rattle.c_types.specs.Shown.{setting_of}
use Rattle.c_types.proofs.statements.+statements.Given as goal

-- the faults of the statements that are left are those of all
abbrev pub invariant-in_order-loop-stmt : goal.invariant-in_order-loop-stmt
invariant-in_order-loop-stmt g l = record {
  faults : statements (setting_of l.known) (drop l.stmt-index l.list) l.returns l.scopes ≡ statements (setting_of l.known) l.list l.returns l.initial.scopes;
  outer : l.scopes.outer ≡ l.initial.scopes.outer;
}

abbrev pub invariant-parts_in_order-loop-part : goal.invariant-parts_in_order-loop-part
invariant-parts_in_order-loop-part g l = record {
  faults : parts (setting_of l.known) (drop l.part-index l.parts) l.kind l.labels l.returns l.scopes ≡ parts (setting_of l.known) l.parts l.kind no_labels l.returns l.initial.scopes;
  outer : l.scopes.outer ≡ l.initial.scopes.outer;
}
