use Rattle.std.proofs.Common.{◌≡◌, length}
use Rattle.dbc_reader.specs.Parts.{pair, pair_of}
use Rattle.dbc_reader.specs.Template.{is_number_or}
use Rattle.std.proofs.Common.{[], ◌∷◌}
use Rattle.dbc_reader.proofs.Loop.{with_front, all_seen}
use Rattle.dbc_reader.proofs.Documents.{pairs_regular}
use Rattle.dbc_reader.proofs.parts.read_pairs.Given as goal

abbrev pub invariant-loop-alloc : goal.invariant-loop-alloc
invariant-loop-alloc l = with_front l.list (all_seen l.end (is_number_or (43 ∷ 45 ∷ [])) pair _ pair_of pairs_regular l.left) ≡ all_seen l.end (is_number_or (43 ∷ 45 ∷ [])) pair _ pair_of pairs_regular l.tokens

abbrev pub decreases-loop-alloc : goal.decreases-loop-alloc
decreases-loop-alloc l = length l.left
