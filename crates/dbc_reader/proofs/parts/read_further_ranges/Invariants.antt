use Rattle.std.proofs.Common.{◌≡◌, length}
use Rattle.dbc_reader.specs.Template.{is_mark}
use Rattle.dbc_reader.specs.Parts.{with_comma, further, range, range_behind, with_ranges}
use Rattle.dbc_reader.specs.Reading.{seen}
use Rattle.dbc_reader.proofs.Loop.{with_front, all_seen}
use Rattle.dbc_reader.proofs.Documents.{ranges_regular}
use Rattle.dbc_reader.proofs.parts.read_further_ranges.Given as goal

abbrev pub invariant-loop-left : goal.invariant-loop-left
invariant-loop-left l = with_front l.list (all_seen l.end (is_mark 44) (with_comma range) _ range_behind ranges_regular l.left) ≡ seen l.end (further range) (with_ranges l.fn.first) l.tokens

abbrev pub decreases-loop-left : goal.decreases-loop-left
decreases-loop-left l = length l.left
