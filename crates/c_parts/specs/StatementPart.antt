-- A statement that was read from the left, and statements in a row.
use Rattle.std.specs.Prelude.{◌≡◌, ℕ, Bool, true, false, not, ◌||◌, ◌&&◌, List, [], ◌∷◌, ◌++◌, length, Option, Some, Ok}
use Rattle.c_text.specs.declared.place.Place.{Place}
use Rattle.c_text.specs.declared.token.Token.{Token}
use Rattle.c_tree.specs.declared.symbol.Bracket.{Bracket}
use Rattle.c_tree.specs.declared.symbol.Bracket.TheVariants.{Brace}
use Rattle.c_tree.specs.declared.symbol.Keyword.{Keyword}
use Rattle.c_tree.specs.declared.symbol.Keyword.TheVariants as key
use Rattle.c_tree.specs.declared.statement.Stmt.{Stmt}
use Rattle.c_tree.specs.declared.statement.SwitchPart.{SwitchPart}
use Rattle.c_tree.specs.Sequence.{all_read}
use Rattle.c_tree.specs.Symbol.{keyword_of}
use Rattle.c_tree.specs.Brackets.{opens}
use Rattle.c_tree.specs.TypeName.{is_type_word}
use Rattle.c_tree.specs.StatementCut.{is_else, statement_of, each, switch_part}
use Rattle.c_tree.specs.TokenRun.{IsClosed}

-- no `else` stands at the front
abbrev pub no_else : List Token → Bool
no_else [] = true
no_else (t ∷ ts) = not (is_else t.kind)

-- at the front of all tokens that begin with these the statement is read; one that is not finished is not followed by an `else`
pub record IsStatement (may : Bool) (room : ℕ) (finished : Bool) (ts : List Token) (s : Stmt) : Type 0 where
  pub first : Token
  pub others : List Token
  pub is : ts ≡ first ∷ others
  pub begins : is_else first.kind ≡ false
  pub reads : (rest : List Token) (after : Place) → (finished || no_else rest) ≡ true → statement_of may room (ts ++ rest) after ≡ Ok (s, length others)
  pub closed : IsClosed ts

-- the statements of a block or of a body
pub record AreStatements (may : Bool) (room : ℕ) (ts : List Token) (ss : List Stmt) : Type 0 where
  pub begins : no_else ts ≡ true
  pub given : (after : Place) → all_read (each statement_of may room after) 0 ts ≡ Ok ss
  pub closed : IsClosed ts

-- ---- statements that end with a semicolon

abbrev pub plain_key : Option Keyword → Bool
plain_key (Some key.If) = false
plain_key (Some key.Switch) = false
plain_key other = true

abbrev pub plain_open : Option Bracket → Bool
plain_open (Some Brace) = false
plain_open other = true

-- a token that begins no `if`, no `switch` and no block
abbrev pub begins_simple : Token → Bool
begins_simple t = plain_key (keyword_of t.kind) && plain_open (opens t.kind)

-- ---- the parts of a switch

abbrev pub part_key : Option Keyword → Bool
part_key (Some key.Case) = false
part_key (Some key.Default) = false
part_key other = true

-- a token that begins no label and no declaration
abbrev pub begins_part : Token → Bool
begins_part t = part_key (keyword_of t.kind) && not (is_type_word t.kind)

-- the labels and statements at a switch's own level
pub record AreParts (room : ℕ) (ts : List Token) (ps : List SwitchPart) : Type 0 where
  pub begins : no_else ts ≡ true
  pub given : (after : Place) → all_read (switch_part statement_of room after) 0 ts ≡ Ok ps
  pub closed : IsClosed ts
