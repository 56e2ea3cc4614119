-- What stands in front of a text: the longest lexical element (ISO/IEC 9899:1999, 6.4).
use Rattle.std.specs.Prelude.{ℕ, suc, ◌-◌, Bool, not, ◌||◌, ◌&&◌, ◌==◌, nat_le, if◌then◌else◌, List, [], ◌∷◌, length, drop, take_while, Option, Some, None}
use Rattle.c_text.specs.declared.token.Constant.{Constant}
use Rattle.c_text.specs.declared.token.TokenKind.{TokenKind}
use Rattle.c_text.specs.declared.token.TokenKind.TheVariants.{Word, Constant as Number, Quoted, Mark}
use Rattle.c_text.specs.declared.refusal.CKind.{CKind}
use Rattle.c_text.specs.declared.refusal.CKind.TheVariants.{BadToken, OpenComment}
use Rattle.c_text.specs.Characters.{is_line_end, is_blank, is_letter, is_digit, goes_on, first_is}
use Rattle.c_text.specs.IntegerConstant.{constant_of}
use Rattle.c_text.specs.Punctuator.{mark_at}

-- a token, a line end outside comments, white space or a comment, or what is none of these
pub data Lexeme : Type 0 where
  token : TokenKind → Lexeme
  line_end : Lexeme
  space : Lexeme
  bad : CKind → Lexeme

-- a lexeme, and how many bytes of it follow the first
abbrev pub Piece : Type 0
Piece = Lexeme × ℕ

-- ---- comments (6.4.9)

abbrev pub one_more : Option ℕ → Option ℕ
one_more None = None
one_more (Some n) = Some (suc n)

-- how many bytes there are up to and with the next `*/`
abbrev pub close_at : List ℕ → Option ℕ
close_at [] = None
close_at (b ∷ bs) = if b == 42 && first_is 47 bs then Some 2 else one_more (close_at bs)

-- a comment that ends so many bytes behind its `/*`; where it does not end, the fault is its `/*`
abbrev pub comment_piece : Option ℕ → Piece
comment_piece None = (bad OpenComment, 1)
comment_piece (Some n) = (space, suc n)

-- ---- constants (6.4.8, 6.4.4.1)

-- `e` and `p`, behind which a sign belongs to the number
abbrev pub is_exponent : ℕ → Bool
is_exponent b = b == 101 || b == 69 || b == 112 || b == 80

abbrev pub is_sign : ℕ → Bool
is_sign b = b == 43 || b == 45

-- what a preprocessing number (6.4.8) goes on with behind a byte of it
abbrev pub number_goes_on : ℕ → ℕ → Bool
number_goes_on before b = goes_on b || b == 46 || (is_exponent before && is_sign b)

abbrev pub number_rest : ℕ → List ℕ → List ℕ
number_rest before [] = []
number_rest before (b ∷ bs) = if number_goes_on before b then b ∷ number_rest b bs else []

-- a preprocessing number is a token only as an integer constant
abbrev pub number_piece : Option Constant → ℕ → Piece
number_piece None more = (bad BadToken, 0)
number_piece (Some c) more = (token (Number c), more)

-- ---- strings (6.4.5), which have no escapes here

abbrev pub in_string : ℕ → Bool
in_string b = nat_le 32 b && nat_le b 126 && not (b == 34)

-- the content, where a quote stands behind it
abbrev pub string_piece : List ℕ → List ℕ → Piece
string_piece content behind = if first_is 34 behind then (token (Quoted content), suc (length content)) else (bad BadToken, 0)

-- ---- punctuators (6.4.6)

abbrev pub mark_piece : Option (List ℕ) → Piece
mark_piece None = (bad BadToken, 0)
mark_piece (Some m) = (token (Mark m), length m - 1)

-- ---- the whole

-- what the byte begins, with the bytes behind it
abbrev pub piece : ℕ → List ℕ → Piece
piece b bs =
    if is_letter b then (token (Word (b ∷ take_while goes_on bs)), length (take_while goes_on bs))
    else if is_digit b then number_piece (constant_of (b ∷ number_rest b bs)) (length (number_rest b bs))
    else if is_line_end b then (line_end, 0)
    else if is_blank b then (space, 0)
    else if b == 34 then string_piece (take_while in_string bs) (drop (length (take_while in_string bs)) bs)
    else if b == 47 && first_is 42 bs then comment_piece (close_at (drop 1 bs))
    else if b == 47 && first_is 47 bs then (space, length (take_while (λ c. not (is_line_end c)) bs))
    else mark_piece (mark_at (b ∷ bs))
