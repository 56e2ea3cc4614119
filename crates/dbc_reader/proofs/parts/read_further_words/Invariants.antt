use Rattle.std.proofs.Common.{◌≡◌, length}
use Rattle.dbc_reader.specs.Template.{is_mark, word, take}
use Rattle.dbc_reader.specs.Parts.{with_comma, further, word_behind, with_words}
use Rattle.dbc_reader.specs.Reading.{seen}
use Rattle.dbc_reader.proofs.Loop.{with_front, all_seen}
use Rattle.dbc_reader.proofs.Documents.{words_regular}
use Rattle.dbc_reader.proofs.parts.read_further_words.Given as goal

abbrev pub invariant-loop-alloc : goal.invariant-loop-alloc
invariant-loop-alloc l = with_front l.list (all_seen l.end (is_mark 44) (with_comma (take word)) _ word_behind words_regular l.left) ≡ seen l.end (further (take word)) (with_words l.fn.first) l.tokens

abbrev pub decreases-loop-alloc : goal.decreases-loop-alloc
decreases-loop-alloc l = length l.left
