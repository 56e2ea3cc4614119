-- How an expression is cut (ISO/IEC 9899:1999, 6.5): at the last operator, outside brackets, of the loosest level there is.
use Rattle.std.specs.Prelude.{ℕ, zero, suc, ◌+◌, ◌-◌, Bool, true, false, ◌&&◌, ◌==◌, if◌then◌else◌, List, [], ◌∷◌, ◌++◌, length, take, drop, Option, Some, None, is_some, Result, Ok, Err}
use Rattle.c_text.specs.declared.place.Place.{Place}
use Rattle.c_text.specs.declared.token.Spelled.{Spelled}
use Rattle.c_text.specs.declared.token.Token.{Token}
use Rattle.c_text.specs.declared.token.TokenKind.{TokenKind}
use Rattle.c_text.specs.declared.token.TokenKind.TheVariants.{Word, Constant as Number, Quoted, Mark, TypeName, Null, Memset}
use Rattle.c_tree.specs.declared.symbol.Bracket.{Bracket}
use Rattle.c_tree.specs.declared.symbol.Bracket.TheVariants.{Round, Square}
use Rattle.c_tree.specs.declared.symbol.Punctuator.{Punctuator}
use Rattle.c_tree.specs.declared.symbol.Punctuator.TheVariants as mark
use Rattle.c_tree.specs.declared.expression.UnaryOp.{UnaryOp}
use Rattle.c_tree.specs.declared.expression.Callee.{Callee}
use Rattle.c_tree.specs.declared.expression.Expr.{Expr}
use Rattle.c_tree.specs.declared.expression.ExprKind.{ExprKind}
use Rattle.c_tree.specs.declared.expression.ExprKind.TheVariants as k
use Rattle.c_text.specs.Refusal.{Refusal}
use Rattle.cg_out.specs.Words.{◌>>=◌, or_else}
use Rattle.c_tree.specs.Symbol.{name_of, callee_of, mark_of, is_arrow, is_comma}
use Rattle.c_tree.specs.Brackets.{opens, is_bracket, depth_after, closing_from, syntax, too_deep}
use Rattle.c_tree.specs.Operators.{Leveled, levels, operator, prefix}
use Rattle.c_tree.specs.TypeName.{spelled_of, kinds_of, is_type_word}

-- ---- what stands before a token

pub data Before : Type 0 where
  -- nothing, or what an operand is to follow
  start : Before
  -- an opening bracket `(` with these tokens behind it, all of which types may have
  bracket : List TokenKind → Before
  -- an operand, so that an operator behind it stands between two
  operand : Before

abbrev pub type_behind : TokenKind → Before → Before
type_behind t (bracket ks) = bracket (ks ++ t ∷ [])
type_behind t other = start

-- brackets round a type end no operand
abbrev pub round_closed : Before → Before
round_closed (bracket ks) = if is_some (spelled_of ks) then start else operand
round_closed other = operand

abbrev pub mark_behind : Option Punctuator → Before → Before
mark_behind (Some mark.OpenParen) before = bracket []
mark_behind (Some mark.CloseParen) before = round_closed before
mark_behind (Some mark.CloseBracket) before = operand
mark_behind other before = start

abbrev pub word_behind : Option (List ℕ) → TokenKind → Before → Before
word_behind (Some name) t before = operand
word_behind None t before = if is_type_word t then type_behind t before else start

abbrev pub behind : TokenKind → Before → Before
behind (Number c) before = operand
behind Null before = operand
behind Memset before = operand
behind (Word w) before = word_behind (name_of (Word w)) (Word w) before
behind (TypeName s) before = type_behind (TypeName s) before
behind (Mark m) before = mark_behind (mark_of (Mark m)) before
behind (Quoted q) before = start

abbrev pub is_operand : Before → Bool
is_operand operand = true
is_operand other = false

-- ---- the last operator of a level

abbrev pub has_level : ℕ → Option Leveled → Bool
has_level level (Some o) = o.0 == level
has_level level None = false

-- a token at which tokens are cut at this level
abbrev pub is_cut : ℕ → ℕ → Before → Token → Bool
is_cut level depth before t = depth == 0 && (is_operand before && has_level level (operator t.kind))

-- the last of them, counted from `at`
abbrev pub last_from : ℕ → ℕ → ℕ → Before → List Token → Option ℕ
last_from level at depth before [] = None
last_from level at depth before (t ∷ ts) =
    or_else (last_from level (at + 1) (depth_after t.kind depth) (behind t.kind before) ts)
    (if is_cut level depth before t then Some at else None)

abbrev pub loosest_of : List ℕ → List Token → Option ℕ
loosest_of [] ts = None
loosest_of (level ∷ more) ts = or_else (last_from level 0 0 start ts) (loosest_of more ts)

-- the last operator outside brackets of the loosest level there is
unfoldable pub loosest : List Token → Option ℕ
loosest ts = loosest_of levels ts

-- ---- parts, left before right and the whole before its parts, so that the first fault is met first

-- an expression, or the first fault in it
abbrev pub Cutting : Type 0
Cutting = Result Expr Refusal

-- of a part in which so many brackets may be open, and the place of the token behind it
abbrev pub Cutter : Type 0
Cutter = ℕ → List Token → Place → Cutting

abbrev pub node : Place → ExprKind → Expr
node place kind = record { place = place; kind = kind }

-- what stands in brackets, if they may be open there
abbrev pub inside : {A : Type 0} → ℕ → Place → (ℕ → Result A Refusal) → Result A Refusal
inside room place part = if room == 0 then Err (too_deep place) else part (room - 1)

-- ---- at an operator

abbrev pub binary_of : Option Leveled → Place → Expr → Expr → Cutting
binary_of None place left right = Err (syntax place)
binary_of (Some o) place left right = Ok (node place (k.Binary o.1 left right))

abbrev pub at_operator : Cutter → ℕ → List Token → List Token → Place → Cutting
at_operator cut room left [] after = Err (syntax after)
at_operator cut room left (t ∷ right) after = do
  a ← cut room left t.place
  b ← cut room right after
  binary_of (operator t.kind) t.place a b

-- ---- arguments (6.5.2.2)

-- a part, and the place of the token behind it
abbrev pub Delimited : Type 0
Delimited = List Token × Place

abbrev pub put : Token → List Delimited → List Delimited
put t [] = []
put t (p ∷ ps) = (t ∷ p.0, p.1) ∷ ps

-- a comma begins a part, and another token stands in the first
abbrev pub put_in : Bool → Token → List Delimited → List Delimited
put_in true t ps = ([], t.place) ∷ ps
put_in false t ps = put t ps

-- the parts between the commas outside brackets
abbrev pub parts : Place → ℕ → List Token → List Delimited
parts after depth [] = ([], after) ∷ []
parts after depth (t ∷ ts) = put_in (depth == 0 && is_comma t.kind) t (parts after (depth_after t.kind depth) ts)

abbrev pub cut_all : Cutter → ℕ → List Delimited → Result (List Expr) Refusal
cut_all cut room [] = Ok []
cut_all cut room (p ∷ ps) = do
  e ← cut room p.0 p.1
  es ← cut_all cut room ps
  Ok (e ∷ es)

abbrev pub arguments : Cutter → ℕ → List Token → Place → Result (List Expr) Refusal
arguments cut room [] after = Ok []
arguments cut room (t ∷ ts) after = cut_all cut room (parts after 0 (t ∷ ts))

-- ---- tokens in brackets

-- tokens between brackets that the last token closes
pub record Closed : Type 0 where
  pub inner : List Token
  pub close : Place

abbrev pub closed_in : List Token → Place → Closed
closed_in inner close = record { inner = inner; close = close }

abbrev pub closed_at : List Token → List Token → Option Closed
closed_at inner (close ∷ []) = Some (closed_in inner close.place)
closed_at inner rest = None

abbrev pub closed_by : Option ℕ → List Token → Option Closed
closed_by None ts = None
closed_by (Some at) ts = closed_at (take at ts) (drop at ts)

-- the tokens behind an opening bracket, if the last of them closes it
abbrev pub closed : List Token → Option Closed
closed ts = closed_by (closing_from 0 1 ts) ts

-- ---- what begins with a name (6.5.1 and 6.5.2)

abbrev pub name_alone : Place → Option (List ℕ) → Cutting
name_alone place None = Err (syntax place)
name_alone place (Some name) = Ok (node place (k.Name name))

abbrev pub call_expression : Cutter → ℕ → Place → Option Callee → Place → Option Closed → Cutting
call_expression cut room place (Some function) open_place (Some c) = do
  es ← inside room open_place (λ r. arguments cut r c.inner c.close)
  Ok (node place (k.Call function es))
call_expression cut room place function open_place c = Err (syntax place)

abbrev pub element : Cutter → ℕ → Place → Option (List ℕ) → Place → Option Closed → Cutting
element cut room place (Some base) open_place (Some c) = do
  e ← inside room open_place (λ r. cut r c.inner c.close)
  Ok (node place (k.Element base e))
element cut room place base open_place c = Err (syntax place)

abbrev pub member_named : Place → Option (List ℕ) → Option (List ℕ) → Cutting
member_named place (Some base) (Some field) = Ok (node place (k.Member base field))
member_named place base field = Err (syntax place)

abbrev pub member : Place → Option (List ℕ) → List Token → Cutting
member place base (f ∷ []) = member_named place base (name_of f.kind)
member place base ts = Err (syntax place)

abbrev pub member_by : Bool → Place → Option (List ℕ) → List Token → Cutting
member_by true place base ts = member place base ts
member_by false place base ts = Err (syntax place)

-- behind the first token, by the second
abbrev pub behind_name : Cutter → ℕ → Option Bracket → Token → Token → List Token → Cutting
behind_name cut room (Some Round) t o ts = call_expression cut room t.place (callee_of t.kind) o.place (closed ts)
behind_name cut room (Some Square) t o ts = element cut room t.place (name_of t.kind) o.place (closed ts)
behind_name cut room other t o ts = member_by (is_arrow o.kind) t.place (name_of t.kind) ts

abbrev pub operand_named : Cutter → ℕ → Token → List Token → Cutting
operand_named cut room t [] = name_alone t.place (name_of t.kind)
operand_named cut room t (o ∷ ts) = behind_name cut room (opens o.kind) t o ts

-- ---- brackets round an expression, and casts (6.5.4)

abbrev pub bracketed : Cutter → ℕ → Place → Option Closed → Cutting
bracketed cut room place None = Err (syntax place)
bracketed cut room place (Some c) = do
  e ← inside room place (λ r. cut r c.inner c.close)
  Ok (node place (k.Bracket e))

abbrev pub cast : Cutter → ℕ → Place → Spelled → List Token → Place → Cutting
cast cut room place to ts after = do
  e ← inside room place (λ r. cut room ts after)
  Ok (node place (k.Cast to e))

-- the tokens before the closing bracket may spell a type
abbrev pub round_by : Cutter → ℕ → Place → Option Spelled → ℕ → List Token → Place → Cutting
round_by cut room place (Some to) at ts after = cast cut room place to (drop (at + 1) ts) after
round_by cut room place None at ts after = bracketed cut room place (closed_at (take at ts) (drop at ts))

abbrev pub round : Cutter → ℕ → Place → Option ℕ → List Token → Place → Cutting
round cut room place None ts after = Err (syntax place)
round cut room place (Some at) ts after = round_by cut room place (spelled_of (kinds_of (take at ts))) at ts after

-- ---- the whole

abbrev pub at_mark : Cutter → ℕ → Bool → Place → List Token → Place → Cutting
at_mark cut room true place ts after = round cut room place (closing_from 0 1 ts) ts after
at_mark cut room false place ts after = Err (syntax place)

-- by the first token, which is no prefix operator
abbrev pub primary : Cutter → ℕ → TokenKind → Token → List Token → Place → Cutting
primary cut room (Number c) t [] after = Ok (node t.place (k.Constant c))
primary cut room Null t [] after = Ok (node t.place k.Null)
primary cut room (Word w) t ts after = operand_named cut room t ts
primary cut room Memset t ts after = operand_named cut room t ts
primary cut room (Mark m) t ts after = at_mark cut room (is_bracket Round (opens t.kind)) t.place ts after
primary cut room other t ts after = Err (syntax t.place)

abbrev pub prefixed : Cutter → ℕ → Option UnaryOp → Token → List Token → Place → Cutting
prefixed cut room (Some o) t ts after = do
  e ← cut room ts after
  Ok (node t.place (k.Unary o e))
prefixed cut room None t ts after = primary cut room t.kind t ts after

-- tokens without an operator between two operands
abbrev pub operand_of : Cutter → ℕ → List Token → Place → Cutting
operand_of cut room [] after = Err (syntax after)
operand_of cut room (t ∷ ts) after = prefixed cut room (prefix t.kind) t ts after

abbrev pub cut_at : Cutter → ℕ → Option ℕ → List Token → Place → Cutting
cut_at cut room (Some i) ts after = at_operator cut room (take i ts) (drop i ts) after
cut_at cut room None ts after = operand_of cut room ts after

-- one cut, with the cuts of the parts
abbrev pub expression_step : Cutter → Cutter
expression_step cut room ts after = cut_at cut room (loosest ts) ts after

-- at most so many cuts, one inside the other
abbrev pub expression_within : ℕ → Cutter
expression_within zero room ts after = Err (syntax after)
expression_within (suc n) room ts after = expression_step (expression_within n) room ts after

-- each cut is of a shorter part
unfoldable pub expression_of : Cutter
expression_of room ts after = expression_within (length ts + 1) room ts after
