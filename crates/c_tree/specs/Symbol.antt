-- Which words and punctuators the subset gives a meaning.
use Rattle.std.specs.Prelude.{ℕ, Bool, true, false, ◌==◌, if◌then◌else◌, List, [], ◌∷◌, codes, Option, Some, None}
use Rattle.c_text.specs.declared.token.TokenKind.{TokenKind}
use Rattle.c_text.specs.declared.token.TokenKind.TheVariants.{Word, Mark, Memset}
use Rattle.c_tree.specs.declared.expression.Callee.{Callee}
use Rattle.c_tree.specs.declared.expression.Callee.TheVariants as callee
use Rattle.c_tree.specs.declared.symbol.Keyword.{Keyword}
use Rattle.c_tree.specs.declared.symbol.Keyword.TheVariants as key
use Rattle.c_tree.specs.declared.symbol.Punctuator.{Punctuator}
use Rattle.c_tree.specs.declared.symbol.Punctuator.TheVariants as mark
use Rattle.cg_out.specs.Words.{look_up}

-- ---- keywords (ISO/IEC 9899:1999, 6.4.1)

abbrev pub keywords : List (List ℕ × Keyword)
keywords =
    (codes "_Bool", key.Bool) ∷ (codes "break", key.Break) ∷ (codes "case", key.Case) ∷ (codes "char", key.Char) ∷ (codes "const", key.Const)
    ∷ (codes "default", key.Default) ∷ (codes "else", key.Else) ∷ (codes "if", key.If) ∷ (codes "int", key.Int) ∷ (codes "long", key.Long)
    ∷ (codes "return", key.Return) ∷ (codes "short", key.Short) ∷ (codes "signed", key.Signed) ∷ (codes "static", key.Static)
    ∷ (codes "struct", key.Struct) ∷ (codes "switch", key.Switch) ∷ (codes "unsigned", key.Unsigned) ∷ (codes "void", key.Void)
    ∷ (codes "auto", key.Other) ∷ (codes "continue", key.Other) ∷ (codes "do", key.Other) ∷ (codes "double", key.Other) ∷ (codes "enum", key.Other)
    ∷ (codes "extern", key.Other) ∷ (codes "float", key.Other) ∷ (codes "for", key.Other) ∷ (codes "goto", key.Other) ∷ (codes "inline", key.Other)
    ∷ (codes "register", key.Other) ∷ (codes "restrict", key.Other) ∷ (codes "sizeof", key.Other) ∷ (codes "typedef", key.Other)
    ∷ (codes "union", key.Other) ∷ (codes "volatile", key.Other) ∷ (codes "while", key.Other) ∷ (codes "_Complex", key.Other)
    ∷ (codes "_Imaginary", key.Other) ∷ []

-- the keyword that a word is, if it is one
unfoldable pub keyword_in : List ℕ → Option Keyword
keyword_in word = look_up word keywords

abbrev pub keyword_of : TokenKind → Option Keyword
keyword_of (Word w) = keyword_in w
keyword_of other = None

-- ---- identifiers (6.4.2)

abbrev pub unless_keyword : Option Keyword → List ℕ → Option (List ℕ)
unless_keyword (Some k) w = None
unless_keyword None w = Some w

-- the name that a token is: a word that is no keyword
abbrev pub name_of : TokenKind → Option (List ℕ)
name_of (Word w) = unless_keyword (keyword_in w) w
name_of other = None

abbrev pub function_named : Option (List ℕ) → Option Callee
function_named None = None
function_named (Some name) = Some (callee.Name name)

-- what a token may call: the function that it names, or the standard `memset`, a token of its own behind its header
abbrev pub callee_of : TokenKind → Option Callee
callee_of Memset = Some callee.Memset
callee_of other = function_named (name_of other)

-- ---- punctuators (6.4.6)

-- of one character, by its code
abbrev pub mark_of_one : ℕ → Option Punctuator
mark_of_one b =
    if b == 40 then Some mark.OpenParen  -- (
    else if b == 41 then Some mark.CloseParen  -- )
    else if b == 91 then Some mark.OpenBracket  -- [
    else if b == 93 then Some mark.CloseBracket  -- ]
    else if b == 123 then Some mark.OpenBrace  -- {
    else if b == 125 then Some mark.CloseBrace  -- }
    else if b == 44 then Some mark.Comma  -- ,
    else if b == 59 then Some mark.Semicolon  -- ;
    else if b == 58 then Some mark.Colon  -- :
    else if b == 42 then Some mark.Star  -- *
    else if b == 126 then Some mark.Complement  -- ~
    else if b == 33 then Some mark.Not  -- !
    else if b == 43 then Some mark.Plus  -- +
    else if b == 45 then Some mark.Minus  -- -
    else if b == 60 then Some mark.Less  -- <
    else if b == 62 then Some mark.Greater  -- >
    else if b == 38 then Some mark.And  -- &
    else if b == 94 then Some mark.Caret  -- ^
    else if b == 124 then Some mark.Bar  -- |
    else if b == 61 then Some mark.Equal  -- =
    else None

-- of two characters, the second of which is `=`
abbrev pub mark_before_equal : ℕ → Option Punctuator
mark_before_equal b =
    if b == 60 then Some mark.LessEqual
    else if b == 62 then Some mark.GreaterEqual
    else if b == 61 then Some mark.EqualEqual
    else if b == 33 then Some mark.NotEqual
    else if b == 124 then Some mark.BarEqual
    else if b == 38 then Some mark.AndEqual
    else if b == 94 then Some mark.CaretEqual
    else if b == 43 then Some mark.PlusEqual
    else if b == 45 then Some mark.MinusEqual
    else None

-- of one character twice
abbrev pub mark_of_twice : ℕ → Option Punctuator
mark_of_twice b =
    if b == 60 then Some mark.ShiftLeft
    else if b == 62 then Some mark.ShiftRight
    else if b == 38 then Some mark.AndAnd
    else if b == 124 then Some mark.BarBar
    else None

abbrev pub mark_of_two : ℕ → ℕ → Option Punctuator
mark_of_two b c =
    if c == 61 then mark_before_equal b
    else if b == c then mark_of_twice b
    else if b == 45 then (if c == 62 then Some mark.Arrow else None)
    else None

-- a shift and `=`
abbrev pub mark_of_three : ℕ → ℕ → ℕ → Option Punctuator
mark_of_three b c d =
    if d == 61 then (if b == c then (if b == 60 then Some mark.ShiftLeftEqual else if b == 62 then Some mark.ShiftRightEqual else None) else None)
    else None

-- the punctuator with this spelling, if the subset has a meaning for it
unfoldable pub mark_in : List ℕ → Option Punctuator
mark_in [] = None
mark_in (b ∷ []) = mark_of_one b
mark_in (b ∷ c ∷ []) = mark_of_two b c
mark_in (b ∷ c ∷ d ∷ []) = mark_of_three b c d
mark_in (b ∷ c ∷ d ∷ e ∷ es) = None

abbrev pub mark_of : TokenKind → Option Punctuator
mark_of (Mark spelling) = mark_in spelling
mark_of other = None

-- ---- single punctuators

abbrev pub is_arrow_mark : Option Punctuator → Bool
is_arrow_mark (Some mark.Arrow) = true
is_arrow_mark other = false

abbrev pub is_colon_mark : Option Punctuator → Bool
is_colon_mark (Some mark.Colon) = true
is_colon_mark other = false

abbrev pub is_comma_mark : Option Punctuator → Bool
is_comma_mark (Some mark.Comma) = true
is_comma_mark other = false

abbrev pub is_equal_mark : Option Punctuator → Bool
is_equal_mark (Some mark.Equal) = true
is_equal_mark other = false

abbrev pub is_semicolon_mark : Option Punctuator → Bool
is_semicolon_mark (Some mark.Semicolon) = true
is_semicolon_mark other = false

abbrev pub is_star_mark : Option Punctuator → Bool
is_star_mark (Some mark.Star) = true
is_star_mark other = false

abbrev pub is_arrow : TokenKind → Bool
is_arrow k = is_arrow_mark (mark_of k)

abbrev pub is_colon : TokenKind → Bool
is_colon k = is_colon_mark (mark_of k)

abbrev pub is_comma : TokenKind → Bool
is_comma k = is_comma_mark (mark_of k)

abbrev pub is_equal : TokenKind → Bool
is_equal k = is_equal_mark (mark_of k)

abbrev pub is_semicolon : TokenKind → Bool
is_semicolon k = is_semicolon_mark (mark_of k)

abbrev pub is_star : TokenKind → Bool
is_star k = is_star_mark (mark_of k)
