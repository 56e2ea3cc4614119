use Rattle.std.proofs.Common.{◌≡◌, ◌+◌, length, drop, map}
use Rattle.c_pre.specs.Shown.{shown}
use Rattle.c_pre.specs.Parts.{lines_in, KnowEnds}
use Rattle.c_pre.proofs.Skipping.{KnowOpen}
use Rattle.c_pre.proofs.parts.file_lines.Given as goal

abbrev pub invariant-loop-at : goal.invariant-loop-at
invariant-loop-at l = record {
  lines_are : lines_in l.list.items ≡ map shown (drop l.at l.lines);
  long : length l.list.items + l.at ≡ length l.lines;
  open_known : KnowOpen 0 l.ends l.list.items;
  ends_known : KnowEnds l.list.items;
}
