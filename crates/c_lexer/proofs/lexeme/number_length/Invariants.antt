use Rattle.std.proofs.Common.{◌≡◌, ◌+◌, length, drop}
use Rattle.c_text.specs.Piece.{number_rest}
use Rattle.c_lexer.proofs.lexeme.number_length.Given as goal

abbrev pub invariant-loop-i : goal.invariant-loop-i
invariant-loop-i l = l.i + length (number_rest l.before (drop l.i l.rest)) ≡ length (number_rest l.first l.rest)
