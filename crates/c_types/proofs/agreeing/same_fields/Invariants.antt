use Rattle.std.proofs.Common.{◌≡◌, length, drop}
use Rattle.c_types.specs.UnitTypes.{same_fields}
use Rattle.c_types.proofs.agreeing.same_fields.Given as goal

-- the fields that are left have the answer
abbrev pub invariant-loop-at : goal.invariant-loop-at
invariant-loop-at l = record {
  long : length l.first ≡ length l.second;
  same : same_fields (drop l.at l.first) (drop l.at l.second) ≡ same_fields l.first l.second;
}
