-- How prototypes and definitions of functions are cut (ISO/IEC 9899:1999, 6.7.5.3 and 6.9.1).
use Rattle.std.specs.Prelude.{ℕ, ◌+◌, Bool, true, false, List, [], ◌∷◌, take, drop, Option, Some, None, Result, Ok, Err}
use Rattle.c_text.specs.declared.place.Place.{Place}
use Rattle.c_text.specs.declared.token.Token.{Token}
use Rattle.c_tree.specs.declared.symbol.Bracket.{Bracket}
use Rattle.c_tree.specs.declared.symbol.Bracket.TheVariants.{Round, Brace}
use Rattle.c_tree.specs.declared.symbol.Keyword.{Keyword}
use Rattle.c_tree.specs.declared.symbol.Keyword.TheVariants as key
use Rattle.c_tree.specs.declared.statement.Stmt.{Stmt}
use Rattle.c_tree.specs.declared.item.CType.{CType}
use Rattle.c_tree.specs.declared.item.CType.TheVariants as t
use Rattle.c_tree.specs.declared.item.Field.{Field}
use Rattle.c_tree.specs.declared.item.Item.{Item}
use Rattle.c_tree.specs.declared.item.Item.TheVariants as item
use Rattle.c_text.specs.Refusal.{Refusal}
use Rattle.c_tree.specs.Sequence.{Reading, place_at}
use Rattle.cg_out.specs.Words.{◌>>=◌, counted}
use Rattle.c_tree.specs.Symbol.{keyword_of, name_of, is_semicolon}
use Rattle.c_tree.specs.Brackets.{opens, closing_from, syntax}
use Rattle.c_tree.specs.TypeName.{CountedType, front_type}
use Rattle.c_tree.specs.ExpressionCut.{Closed, closed, inside}
use Rattle.c_tree.specs.StatementCut.{is_void, statements}
use Rattle.c_tree.specs.ParameterCut.{parameters}
use Rattle.c_tree.specs.declared.symbol.TheConstants.{MOST_OPEN}

-- what stands behind the parameters: a semicolon, or a body in braces, each the last of the item
pub data Tail : Type 0 where
  prototype : Place → Tail
  definition : Place → Closed → Tail
  unfinished : Tail

abbrev pub body_tail : Option Bracket → Place → Option Closed → Tail
body_tail (Some Brace) brace (Some c) = definition brace c
body_tail other brace c = unfinished

abbrev pub semicolon_tail : Bool → Place → Tail
semicolon_tail true place = prototype place
semicolon_tail false place = unfinished

abbrev pub tail_of : List Token → Tail
tail_of [] = unfinished
tail_of (x ∷ []) = semicolon_tail (is_semicolon x.kind) x.place
tail_of (x ∷ y ∷ ys) = body_tail (opens x.kind) x.place (closed (y ∷ ys))

-- a function but for its parameters and body
pub record FunctionHead : Type 0 where
  pub fixed : Bool
  pub returns : CType
  pub name : List ℕ
  pub place : Place

abbrev pub function : FunctionHead → List Field → Option (List Stmt) → Place → Item
function h params body close =
    item.Function (record { fixed = h.fixed; returns = h.returns; name = h.name; params = params; body = body; place = h.place; close = close })

abbrev pub with_tail : Place → FunctionHead → Closed → Tail → Result Item Refusal
with_tail first h inner unfinished = Err (syntax first)
with_tail first h inner (prototype place) = do
  ps ← parameters inner
  Ok (function h ps None place)
with_tail first h inner (definition brace c) = do
  ps ← parameters inner
  ss ← inside MOST_OPEN brace (λ r. statements r c.inner c.close)
  Ok (function h ps (Some ss) c.close)

-- the tokens behind the bracket that opens the parameters
abbrev pub with_parameters : Place → FunctionHead → Option ℕ → List Token → Result Item Refusal
with_parameters first h None xs = Err (syntax first)
with_parameters first h (Some i) xs =
    with_tail first h (record { inner = take i xs; close = place_at (drop i xs) first }) (tail_of (drop (i + 1) xs))

abbrev pub with_name : Place → Bool → CType → Option (List ℕ) → Place → Option Bracket → List Token → Result Item Refusal
with_name first fixed returns (Some name) place (Some Round) xs =
    with_parameters first (record { fixed = fixed; returns = returns; name = name; place = place }) (closing_from 0 1 xs) xs
with_name first fixed returns name place open_kind xs = Err (syntax first)

abbrev pub with_returns : Place → Bool → CType → List Token → Result Item Refusal
with_returns first fixed returns (x ∷ o ∷ xs) = with_name first fixed returns (name_of x.kind) x.place (opens o.kind) xs
with_returns first fixed returns xs = Err (syntax first)

abbrev pub returns_integer : Place → Bool → Option CountedType → List Token → Result Item Refusal
returns_integer first fixed None xs = Err (syntax first)
returns_integer first fixed (Some s) xs = with_returns first fixed (t.Integer s.0) (drop s.1 xs)

abbrev pub returns_by : Bool → Place → Bool → Token → List Token → Result Item Refusal
returns_by true first fixed x xs = with_returns first fixed t.Void xs
returns_by false first fixed x xs = returns_integer first fixed (front_type (x ∷ xs)) (x ∷ xs)

abbrev pub function_of : Place → Bool → List Token → Result Item Refusal
function_of first fixed [] = Err (syntax first)
function_of first fixed (x ∷ xs) = returns_by (is_void x.kind) first fixed x xs

abbrev pub maybe_static : Option Keyword → Token → List Token → Result Item Refusal
maybe_static (Some key.Static) x xs = function_of x.place true xs
maybe_static other x xs = function_of x.place false (x ∷ xs)

-- all tokens of the item, which begins at this place
abbrev pub function_item : Place → List Token → Result Item Refusal
function_item first [] = Err (syntax first)
function_item first (x ∷ xs) = maybe_static (keyword_of x.kind) x xs

-- that many tokens of the item follow its first
abbrev pub function_at : Option ℕ → Reading Item
function_at None x xs = Err (syntax x.place)
function_at (Some i) x xs = counted i (function_item x.place (take (i + 1) (x ∷ xs)))
