use Rattle.std.proofs.Common.{◌≡◌, ℕ, List, drop}
use Rattle.cg_out.specs.Words.{or_else, look_up}
use Rattle.c_types.specs.Setting.{callings}
use Rattle.c_types.proofs.known.calls_of.Given as goal

-- what is found of a name so far, or else in the items that are left
abbrev pub invariant-loop-item : goal.invariant-loop-item
invariant-loop-item l = record {
  finds : (name : List ℕ) → or_else (look_up name l.table) (look_up name (callings (drop l.item-index l.items))) ≡ look_up name (callings l.items);
}
