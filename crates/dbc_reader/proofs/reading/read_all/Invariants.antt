use Rattle.std.proofs.Common.{◌≡◌, length}
use Rattle.dbc_reader.specs.Document.{statement, statement_of}
use Rattle.dbc_reader.specs.Template.{anything}
use Rattle.dbc_reader.proofs.Loop.{with_front, all_seen}
use Rattle.dbc_reader.proofs.Documents.{document_regular}
use Rattle.dbc_reader.proofs.reading.read_all.Given as goal

abbrev pub invariant-loop-left : goal.invariant-loop-left
invariant-loop-left l = with_front l.list.items (all_seen l.end anything statement _ statement_of document_regular l.left) ≡ all_seen l.end anything statement _ statement_of document_regular l.tokens

abbrev pub decreases-loop-left : goal.decreases-loop-left
decreases-loop-left l = length l.left
