use Rattle.std.proofs.Common.{◌≡◌, map, drop}
use Rattle.cg_out.specs.Words.{look_up}
use Rattle.c_tree.proofs.symbol.entry_of.Given as goal

abbrev pub invariant-loop-spelling : goal.invariant-loop-spelling
invariant-loop-spelling l = look_up l.word (map (λ e. (e.0.now, e.1)) (drop l.spelling-index l.entries)) ≡ look_up l.word (map (λ e. (e.0.now, e.1)) l.entries)
