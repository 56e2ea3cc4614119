use Rattle.std.proofs.Common.{◌≡◌, [], take, drop}
use Rattle.c_widths.specs.DataModel.{model_of}
use Rattle.c_types.specs.Setting.{setting}
use Rattle.c_types.specs.UnitTypes.{items_in_order}
use Rattle.c_types.specs.Shown.{setting_of}
use Rattle.c_types.proofs.typed_unit.declare_all.Given as goal

-- the faults of the items that are left are those of all, and the others are known
abbrev pub invariant-loop-item : goal.invariant-loop-item
invariant-loop-item g l =
    let m = model_of g.row.INT g.row.LONG g.row.PTR in
    record {
      faults : items_in_order m l.items (take l.item-index l.items) (drop l.item-index l.items) ≡ items_in_order m l.items [] l.items;
      knows : setting_of l.known ≡ setting m l.items (take l.item-index l.items);
    }
