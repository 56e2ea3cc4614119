use Rattle.std.proofs.Common.{◌≡◌, length, drop}
use Rattle.c_text.specs.MacroDefinition.{same_body}
use Rattle.c_pre.specs.Shown.{flats}
use Rattle.c_pre.proofs.comparing.same_body.Given as goal

abbrev pub invariant-loop-at : goal.invariant-loop-at
invariant-loop-at l = record {
  long : length l.first ≡ length l.second;
  same : same_body (flats (drop l.at l.first)) (flats (drop l.at l.second)) ≡ same_body (flats l.first) (flats l.second);
}
