use Rattle.std.proofs.Common.{◌≡◌, ◌++◌, drop}
use Rattle.std.specs.List.{filter_map}
use Rattle.dbc_build.specs.Reading.{choice_from}
use Rattle.dbc_build.proofs.reading.choices_of.Given as goal

abbrev pub invariant-loop-pair : goal.invariant-loop-pair
invariant-loop-pair l = l.choices ++ filter_map (choice_from l.length l.signed) (drop l.pair-index l.pairs) ≡ filter_map (choice_from l.length l.signed) l.pairs
