-- Tokens without their places, from the lexemes of a text.
use Rattle.std.specs.Prelude.{◌≡◌, ℕ, Bool, true, false, List, [], ◌∷◌, Option, Result, Ok, Err}
use Rattle.c_text.specs.declared.token.Token.{Token}
use Rattle.c_text.specs.declared.token.TokenKind.{TokenKind}
use Rattle.c_text.specs.declared.refusal.CKind.{CKind}
use Rattle.c_text.specs.Refusal.{Refusal}
use Rattle.c_text.specs.Piece.{Lexeme, token, line_end, space, bad}
use Rattle.c_text.specs.Tokens.{onto, tokens}
use Rattle.c_text.specs.SeenToken.{Bare, bares_behind, bares}

abbrev pub bare_token : TokenKind → Bool → Bool → Bare
bare_token k fresh joined = record { kind = k; fresh = fresh; joined = joined; kept = tt }

-- the tokens up to the first lexeme that is none
abbrev pub bare_gathered : Bool → Bool → List Lexeme → Result (List Bare) CKind
bare_gathered fresh joined [] = Ok []
bare_gathered fresh joined (token k ∷ ls) = onto (bare_token k fresh joined) (bare_gathered false true ls)
bare_gathered fresh joined (line_end ∷ ls) = bare_gathered true false ls
bare_gathered fresh joined (space ∷ ls) = bare_gathered fresh false ls
bare_gathered fresh joined (bad c ∷ ls) = Err c

-- what was read, but for places
abbrev pub bare_read : Option ℕ → Result (List Token) Refusal → Result (List Bare) CKind
bare_read end (Ok ts) = Ok (bares_behind end ts)
bare_read end (Err e) = Err e.kind

-- the lexemes but for white space and comments
abbrev pub solid : List Lexeme → List Lexeme
solid [] = []
solid (space ∷ ls) = solid ls
solid (l ∷ ls) = l ∷ solid ls

-- the text has tokens, and without their places they are these
pub record ReadsAs (header : Bool) (text : List ℕ) (bs : List Bare) : Type 0 where
  pub list : List Token
  pub read : tokens header text ≡ Ok list
  pub are : bares list ≡ bs
