use Rattle.std.proofs.Common.{◌≡◌, ◌++◌, length, map}
use Rattle.std.specs.Option.{option_copied}
use Rattle.c_pre.specs.Shown.{shown, told, cut}
use Rattle.c_pre.specs.Merging.{merged}
use Rattle.c_pre.proofs.cutting.lines_of.Given as goal

abbrev pub invariant-loop-left : goal.invariant-loop-left
invariant-loop-left l = map shown l.lines.items ++ map (told (option_copied l.beside)) (merged (cut l.left)) ≡ map (told (option_copied l.beside)) (merged (cut l.tokens))

abbrev pub decreases-loop-left : goal.decreases-loop-left
decreases-loop-left l = length l.left
