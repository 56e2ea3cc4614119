use Rattle.std.proofs.Common.{◌≡◌, drop}
use Rattle.c_text.specs.Piece.{close_at}
use Rattle.c_lexer.proofs.Lengths.{from_here}
use Rattle.c_lexer.proofs.lexeme.close_at.Given as goal

abbrev pub invariant-loop-i : goal.invariant-loop-i
invariant-loop-i l = from_here l.i (close_at (drop l.i l.bytes)) ≡ close_at l.bytes
