-- What tokens that stand in a row leave: open brackets, and what stands before the token behind them.
use Rattle.std.specs.Prelude.{◌≡◌, ℕ, Bool, true, false, ◌&&◌, ◌||◌, ◌==◌, is_some, List, [], ◌∷◌, None}
use Rattle.c_text.specs.declared.token.Token.{Token}
use Rattle.c_text.specs.declared.token.TokenKind.{TokenKind}
use Rattle.c_text.specs.declared.token.TokenKind.TheVariants.{TypeName}
use Rattle.c_tree.specs.Symbol.{keyword_of, is_comma}
use Rattle.c_tree.specs.Brackets.{depth_after, closing_from}
use Rattle.c_tree.specs.TypeName.{is_type_word}
use Rattle.c_tree.specs.ExpressionCut.{Before, behind}

-- how many brackets are open behind these tokens
abbrev pub depth_over : ℕ → List Token → ℕ
depth_over depth [] = depth
depth_over depth (t ∷ ts) = depth_over (depth_after t.kind depth) ts

-- what stands before the token behind them
abbrev pub before_over : Before → List Token → Before
before_over before [] = before
before_over before (t ∷ ts) = before_over (behind t.kind before) ts

-- there is a comma outside brackets
abbrev pub has_comma : ℕ → List Token → Bool
has_comma depth [] = false
has_comma depth (t ∷ ts) = (depth == 0 && is_comma t.kind) || has_comma (depth_after t.kind depth) ts

-- a keyword, or a name that stands for a type
abbrev pub is_keyword : TokenKind → Bool
is_keyword (TypeName s) = true
is_keyword k = is_some (keyword_of k)

abbrev pub begins_type : List Token → Bool
begins_type [] = false
begins_type (t ∷ ts) = is_keyword t.kind

-- all may stand in the spelling of a type
abbrev pub AreTypeWords : List Token → Type 0
AreTypeWords [] = Unit {0}
AreTypeWords (t ∷ ts) = (is_type_word t.kind ≡ true) × AreTypeWords ts

-- brackets match in these tokens
pub record IsClosed (ts : List Token) : Type 0 where
  pub flat : depth_over 0 ts ≡ 0
  pub inside : (at : ℕ) → closing_from at 1 ts ≡ None
