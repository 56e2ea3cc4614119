use Rattle.std.proofs.Common.{◌≡◌, [], length}
use Rattle.c_pre.specs.Run.{ran, ran_header}
use Rattle.c_pre.specs.Kept.{progress}
use Rattle.c_pre.specs.Parts.{lines_in, KnowEnds}
use Rattle.c_pre.proofs.expansion.Expansion.read_source.Given as goal

abbrev pub invariant-loop-entry : goal.invariant-loop-entry
invariant-loop-entry l = record {
  told : ran (ran_header (lines_in l.header)) l.reads (progress l.self) (lines_in l.left) ≡ ran (ran_header (lines_in l.header)) [] (progress l.fn.self) (lines_in l.source);
  known : KnowEnds l.left;
}

abbrev pub decreases-loop-entry : goal.decreases-loop-entry
decreases-loop-entry l = length l.left
