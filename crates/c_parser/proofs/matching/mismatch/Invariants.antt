use Rattle.std.proofs.Common.{◌≡◌, [], drop}
use Rattle.c_tree.specs.Brackets.{mismatch, within}
use Rattle.c_parser.specs.Matching.{stack_of}
use Rattle.c_parser.proofs.matching.mismatch.Given as goal

abbrev pub invariant-loop-at : goal.invariant-loop-at
invariant-loop-at l = mismatch l.at (within (stack_of l.ones.items)) (drop l.at l.tokens) ≡ mismatch 0 (within []) l.tokens
