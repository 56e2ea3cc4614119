-- What the reader of one lexeme gives, as the definition's.
use Rattle.std.specs.Prelude.{ℕ}
use Rattle.c_text.specs.Piece.{Lexeme as Defined, token, line_end, space, bad, Piece as DefinedPiece}
use Rattle.c_lexer.specs.declared.lexeme.Lexeme.{Lexeme}
use Rattle.c_lexer.specs.declared.lexeme.Lexeme.TheVariants.{Token, LineEnd, Space, Bad}
use Rattle.c_lexer.specs.declared.lexeme.Piece.{Piece}

-- a lexical element
abbrev pub lexeme_of : Lexeme → Defined
lexeme_of (Token k) = token k
lexeme_of LineEnd = line_end
lexeme_of Space = space
lexeme_of (Bad c) = bad c

-- the same with how many bytes follow its first
abbrev pub piece_of : Piece → DefinedPiece
piece_of p = (lexeme_of p.lexeme, p.more)

-- in how many bytes of a lexeme a splice is the first fault: in all, or in the first byte where the lexeme is a fault itself
abbrev pub reach_of : Defined → ℕ → ℕ
reach_of (bad c) n = 1
reach_of l n = n
