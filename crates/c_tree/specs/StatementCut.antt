-- How statements are cut (ISO/IEC 9899:1999, 6.8), and declarations of locals (6.7) among them.
use Rattle.std.specs.Prelude.{ℕ, zero, suc, ◌+◌, Bool, true, false, ◌&&◌, if◌then◌else◌, List, [], ◌∷◌, length, take, drop, Option, Some, None, is_some, Result, Ok, Err}
use Rattle.c_text.specs.declared.place.Place.{Place}
use Rattle.c_text.specs.declared.token.Spelled.{Spelled}
use Rattle.c_text.specs.declared.token.Token.{Token}
use Rattle.c_text.specs.declared.token.TokenKind.{TokenKind}
use Rattle.c_tree.specs.declared.symbol.Bracket.{Bracket}
use Rattle.c_tree.specs.declared.symbol.Bracket.TheVariants.{Round, Square, Brace}
use Rattle.c_tree.specs.declared.symbol.Keyword.{Keyword}
use Rattle.c_tree.specs.declared.symbol.Keyword.TheVariants as key
use Rattle.c_tree.specs.declared.expression.Callee.{Callee}
use Rattle.c_tree.specs.declared.expression.Expr.{Expr}
use Rattle.c_tree.specs.declared.statement.AssignOp.{AssignOp}
use Rattle.c_tree.specs.declared.statement.Stmt.{Stmt}
use Rattle.c_tree.specs.declared.statement.StmtKind.{StmtKind}
use Rattle.c_tree.specs.declared.statement.StmtKind.TheVariants as k
use Rattle.c_tree.specs.declared.statement.SwitchPart.{SwitchPart}
use Rattle.c_tree.specs.declared.statement.SwitchPart.TheVariants.{Label, Statement}
use Rattle.c_text.specs.Refusal.{Refusal}
use Rattle.c_tree.specs.Sequence.{Reading, all_read, place_at}
use Rattle.cg_out.specs.Words.{◌>>=◌, counted}
use Rattle.c_tree.specs.Symbol.{keyword_of, name_of, callee_of, is_arrow, is_colon, is_equal, is_semicolon}
use Rattle.c_tree.specs.Brackets.{opens, closes, is_bracket, closing_from, first_outside, syntax}
use Rattle.c_tree.specs.Operators.{assignment}
use Rattle.c_tree.specs.TypeName.{CountedType, front_type, is_type_word}
use Rattle.c_tree.specs.CaseValue.{case_value}
use Rattle.c_tree.specs.ExpressionCut.{Cutting, inside, Closed, closed, arguments, expression_of}

-- ---- keywords

abbrev pub is_void_key : Option Keyword → Bool
is_void_key (Some key.Void) = true
is_void_key other = false

abbrev pub is_else_key : Option Keyword → Bool
is_else_key (Some key.Else) = true
is_else_key other = false

abbrev pub is_void : TokenKind → Bool
is_void t = is_void_key (keyword_of t)

abbrev pub is_else : TokenKind → Bool
is_else t = is_else_key (keyword_of t)

-- ---- the forms of a statement that ends with a semicolon, from the tokens before it

pub data Simple : Type 0 where
  -- a type, a name with its place, and perhaps the tokens of a value
  declares : Spelled → List ℕ → Place → Option (List Token) → Simple
  -- a name with its place behind `(void)`, whose bracket opens there
  discards : List ℕ → Place → Place → Simple
  -- what is called with its place, and its arguments between brackets that open there
  calls : Callee → Place → Place → Closed → Simple
  -- a target, an operator with its place, and a value
  assigns : List Token → AssignOp → Place → List Token → Simple
  -- none of these
  unknown : Simple

abbrev pub or_form : Simple → Simple → Simple
or_form unknown other = other
or_form form other = form

abbrev pub declares_value : Spelled → Option (List ℕ) → Place → List Token → Simple
declares_value s None place ts = unknown
declares_value s (Some name) place [] = declares s name place None
declares_value s (Some name) place (t ∷ ts) = if is_equal t.kind then declares s name place (Some ts) else unknown

abbrev pub declares_name : Spelled → List Token → Simple
declares_name s [] = unknown
declares_name s (t ∷ ts) = declares_value s (name_of t.kind) t.place ts

abbrev pub declaration_by : Option CountedType → List Token → Simple
declaration_by None ts = unknown
declaration_by (Some t) ts = declares_name t.0 (drop t.1 ts)

abbrev pub declaration_form : List Token → Simple
declaration_form ts = declaration_by (front_type ts) ts

abbrev pub discards_name : Option (List ℕ) → Place → Place → Simple
discards_name None place open_place = unknown
discards_name (Some name) place open_place = discards name place open_place

abbrev pub discard_form : List Token → Simple
discard_form (o ∷ v ∷ c ∷ x ∷ []) =
    if is_bracket Round (opens o.kind) && (is_void v.kind && is_bracket Round (closes c.kind)) then discards_name (name_of x.kind) x.place o.place else unknown
discard_form ts = unknown

abbrev pub call_by : Option Callee → Place → Place → Option Closed → Simple
call_by (Some function) place open_place (Some c) = calls function place open_place c
call_by function place open_place c = unknown

abbrev pub call_form : List Token → Simple
call_form (f ∷ o ∷ ts) = if is_bracket Round (opens o.kind) then call_by (callee_of f.kind) f.place o.place (closed ts) else unknown
call_form ts = unknown

abbrev pub is_one_name : List Token → Bool
is_one_name (f ∷ []) = is_some (name_of f.kind)
is_one_name ts = false

-- what stands behind the name that a target begins with: nothing, an arrow and a field, or an index in brackets
abbrev pub is_target_rest : List Token → Bool
is_target_rest [] = true
is_target_rest (o ∷ ts) = if is_bracket Square (opens o.kind) then is_some (closed ts) else is_arrow o.kind && is_one_name ts

abbrev pub is_target : List Token → Bool
is_target [] = false
is_target (t ∷ ts) = is_some (name_of t.kind) && is_target_rest ts

abbrev pub assigns_by : Bool → Option AssignOp → List Token → Place → List Token → Simple
assigns_by true (Some o) target place value = assigns target o place value
assigns_by fits o target place value = unknown

abbrev pub assigns_at : List Token → List Token → Simple
assigns_at target [] = unknown
assigns_at target (t ∷ value) = assigns_by (is_target target) (assignment t.kind) target t.place value

abbrev pub is_assignment : TokenKind → Bool
is_assignment k = is_some (assignment k)

abbrev pub assign_by : Option ℕ → List Token → Simple
assign_by None ts = unknown
assign_by (Some i) ts = assigns_at (take i ts) (drop i ts)

-- at the first operator of an assignment outside brackets
abbrev pub assignment_form : List Token → Simple
assignment_form ts = assign_by (first_outside is_assignment 0 0 ts) ts

-- the one form that the tokens have
unfoldable pub form_of : List Token → Simple
form_of ts = or_form (declaration_form ts) (or_form (discard_form ts) (or_form (call_form ts) (assignment_form ts)))

-- ---- a statement, and how many tokens follow its first

abbrev pub StatementRead : Type 0
StatementRead = Result (Stmt × ℕ) Refusal

abbrev pub stmt : Place → StmtKind → Stmt
stmt place kind = record { place = place; kind = kind }

-- whether a `break` may stand there, how many brackets may be open, the tokens of the statement and all behind it, and the place behind them
abbrev pub Reader : Type 0
Reader = Bool → ℕ → List Token → Place → StatementRead

-- ---- statements that end with a semicolon

abbrev pub Made : Type 0
Made = Result Stmt Refusal

abbrev pub declare : ℕ → Spelled → List ℕ → Place → Option (List Token) → Place → Made
declare room s name place None after = Ok (stmt place (k.Declare s name None))
declare room s name place (Some ts) after = do
  v ← expression_of room ts after
  Ok (stmt place (k.Declare s name (Some v)))

abbrev pub discard_statement : ℕ → List ℕ → Place → Place → Made
discard_statement room name place open_place = inside room open_place (λ r. Ok (stmt place (k.Discard name)))

abbrev pub call_statement : ℕ → Callee → Place → Place → Closed → Made
call_statement room function place open_place c = do
  es ← inside room open_place (λ r. arguments expression_of r c.inner c.close)
  Ok (stmt place (k.Call function es))

abbrev pub assign_statement : ℕ → List Token → AssignOp → Place → List Token → Place → Made
assign_statement room target o place value after = do
  t ← expression_of room target place
  v ← expression_of room value after
  Ok (stmt place (k.Assign t o v))

-- in tokens that begin at this place and end before a semicolon
abbrev pub by_form : ℕ → Place → Simple → Place → Made
by_form room first (declares s name place value) after = declare room s name place value after
by_form room first (discards name place open_place) after = discard_statement room name place open_place
by_form room first (calls function place open_place c) after = call_statement room function place open_place c
by_form room first (assigns target o place value) after = assign_statement room target o place value after
by_form room first unknown after = Err (syntax first)

abbrev pub return_of : ℕ → Place → List Token → Place → Made
return_of room place [] after = Ok (stmt place (k.Return None))
return_of room place (t ∷ ts) after = do
  v ← expression_of room (t ∷ ts) after
  Ok (stmt place (k.Return (Some v)))

abbrev pub break_of : Bool → Place → List Token → Made
break_of true place [] = Ok (stmt place k.Break)
break_of may place ts = Err (syntax place)

abbrev pub simple_by : Option Keyword → Bool → ℕ → Token → List Token → Place → Made
simple_by (Some key.Return) may room t ts after = return_of room t.place ts after
simple_by (Some key.Break) may room t ts after = break_of may t.place ts
simple_by other may room t ts after = by_form room t.place (form_of (t ∷ ts)) after

abbrev pub simple : Bool → ℕ → List Token → Place → Made
simple may room [] after = Err (syntax after)
simple may room (t ∷ ts) after = simple_by (keyword_of t.kind) may room t ts after

-- the semicolon is that many tokens behind the first
abbrev pub simple_at : Bool → ℕ → Option ℕ → List Token → Place → StatementRead
simple_at may room None ts after = Err (syntax (place_at ts after))
simple_at may room (Some i) ts after = counted i (simple may room (take i ts) (place_at (drop i ts) after))

-- ---- blocks

-- the statements of a block or a body, as tokens before this place
abbrev pub each : Reader → Bool → ℕ → Place → Reading Stmt
each statement_of may room after t ts = statement_of may room (t ∷ ts) after

abbrev pub block_at : Reader → Bool → ℕ → Place → Option ℕ → List Token → Place → StatementRead
block_at statement_of may room place None ts after = Err (syntax place)
block_at statement_of may room place (Some i) ts after = do
  ss ← inside room place (λ r. all_read (each statement_of may r (place_at (drop i ts) after)) 0 (take i ts))
  Ok (stmt place (k.Block ss), i + 1)

-- ---- `if` (6.8.4.1): an `else` belongs to the nearest `if` before it that has none

abbrev pub else_by : Reader → Bool → ℕ → Bool → Place → Expr → Stmt → ℕ → List Token → Place → StatementRead
else_by statement_of may room false place condition first n ts after = Ok (stmt place (k.If condition first None), n)
else_by statement_of may room true place condition first n ts after = do
  other ← statement_of may room ts after
  Ok (stmt place (k.If condition first (Some other.0)), n + 2 + other.1)

-- behind the first branch, of which the last token is the n-th behind the `if`
abbrev pub else_at : Reader → Bool → ℕ → Place → Expr → Stmt → ℕ → List Token → Place → StatementRead
else_at statement_of may room place condition first n [] after = Ok (stmt place (k.If condition first None), n)
else_at statement_of may room place condition first n (t ∷ ts) after = else_by statement_of may room (is_else t.kind) place condition first n ts after

-- the tokens behind the closing bracket of the condition, which is the n-th behind the `if`
abbrev pub if_branches : Reader → Bool → ℕ → Place → Expr → ℕ → List Token → Place → StatementRead
if_branches statement_of may room place condition n ts after = do
  first ← statement_of may room ts after
  else_at statement_of may room place condition first.0 (n + 1 + first.1) (drop (first.1 + 1) ts) after

abbrev pub if_at : Reader → Bool → ℕ → Place → Place → Option ℕ → List Token → Place → StatementRead
if_at statement_of may room place open_place None ts after = Err (syntax place)
if_at statement_of may room place open_place (Some i) ts after = do
  condition ← inside room open_place (λ r. expression_of r (take i ts) (place_at (drop i ts) after))
  if_branches statement_of may room place condition (i + 2) (drop (i + 1) ts) after

abbrev pub if_by : Reader → Bool → ℕ → Place → Option Bracket → Place → List Token → Place → StatementRead
if_by statement_of may room place (Some Round) open_place ts after = if_at statement_of may room place open_place (closing_from 0 1 ts) ts after
if_by statement_of may room place other open_place ts after = Err (syntax place)

-- the tokens behind the `if`
abbrev pub if_open : Reader → Bool → ℕ → Place → List Token → Place → StatementRead
if_open statement_of may room place [] after = Err (syntax place)
if_open statement_of may room place (o ∷ ts) after = if_by statement_of may room place (opens o.kind) o.place ts after

-- ---- `switch` (6.8.4.2), whose labels (6.8.1) stand at its own level, where no declaration stands

abbrev pub PartRead : Type 0
PartRead = Result (SwitchPart × ℕ) Refusal

abbrev pub case_at : ℕ → Place → Option ℕ → List Token → Place → PartRead
case_at room place None ts after = Err (syntax place)
case_at room place (Some i) ts after = do
  v ← case_value room (take i ts) (place_at (drop i ts) after)
  Ok (Label (Some v) place, i + 1)

abbrev pub default_at : Place → List Token → PartRead
default_at place [] = Err (syntax place)
default_at place (t ∷ ts) = if is_colon t.kind then Ok (Label None place, 1) else Err (syntax place)

abbrev pub statement_part : Bool → Place → StatementRead → PartRead
statement_part true place statement_of = Err (syntax place)
statement_part false place statement_of = statement_of >>= λ s. Ok (Statement s.0, s.1)

-- with the statement that stands there, if one does
abbrev pub part_by : Option Keyword → StatementRead → ℕ → Place → Reading SwitchPart
part_by (Some key.Case) statement_of room after t ts = case_at room t.place (first_outside is_colon 0 0 ts) ts after
part_by (Some key.Default) statement_of room after t ts = default_at t.place ts
part_by other statement_of room after t ts = statement_part (is_type_word t.kind) t.place statement_of

abbrev pub switch_part : Reader → ℕ → Place → Reading SwitchPart
switch_part statement_of room after t ts = part_by (keyword_of t.kind) (statement_of true room (t ∷ ts) after) room after t ts

-- the tokens behind the opening brace, which is the n-th behind the `switch`
abbrev pub switch_parts : Reader → ℕ → Place → Expr → Place → ℕ → Option ℕ → List Token → Place → StatementRead
switch_parts statement_of room place value brace n None ts after = Err (syntax place)
switch_parts statement_of room place value brace n (Some j) ts after = do
  ps ← inside room brace (λ r. all_read (switch_part statement_of r (place_at (drop j ts) after)) 0 (take j ts))
  Ok (stmt place (k.Switch value ps), n + j + 1)

abbrev pub switch_by : Reader → ℕ → Place → Cutting → ℕ → Option Bracket → Place → List Token → Place → StatementRead
switch_by statement_of room place value n (Some Brace) brace ts after = value >>= λ v. switch_parts statement_of room place v brace (n + 1) (closing_from 0 1 ts) ts after
switch_by statement_of room place value n other brace ts after = Err (syntax place)

-- the tokens behind the closing bracket of the value, which is the n-th behind the `switch`
abbrev pub switch_block : Reader → ℕ → Place → Cutting → ℕ → List Token → Place → StatementRead
switch_block statement_of room place value n [] after = Err (syntax place)
switch_block statement_of room place value n (o ∷ ts) after = switch_by statement_of room place value n (opens o.kind) o.place ts after

abbrev pub switch_at : Reader → ℕ → Place → Place → Option ℕ → List Token → Place → StatementRead
switch_at statement_of room place open_place None ts after = Err (syntax place)
switch_at statement_of room place open_place (Some i) ts after =
    switch_block statement_of room place (inside room open_place (λ r. expression_of r (take i ts) (place_at (drop i ts) after))) (i + 2) (drop (i + 1) ts) after

abbrev pub switch_round : Reader → ℕ → Place → Option Bracket → Place → List Token → Place → StatementRead
switch_round statement_of room place (Some Round) open_place ts after = switch_at statement_of room place open_place (closing_from 0 1 ts) ts after
switch_round statement_of room place other open_place ts after = Err (syntax place)

-- the tokens behind the `switch`
abbrev pub switch_open : Reader → ℕ → Place → List Token → Place → StatementRead
switch_open statement_of room place [] after = Err (syntax place)
switch_open statement_of room place (o ∷ ts) after = switch_round statement_of room place (opens o.kind) o.place ts after

-- ---- the whole

abbrev pub unless_empty : Bool → Bool → ℕ → Token → List Token → Place → StatementRead
unless_empty true may room t ts after = Ok (stmt t.place k.Empty, 0)
unless_empty false may room t ts after = simple_at may room (first_outside is_semicolon 0 0 (t ∷ ts)) (t ∷ ts) after

abbrev pub by_mark : Option Bracket → Reader → Bool → ℕ → Token → List Token → Place → StatementRead
by_mark (Some Brace) statement_of may room t ts after = block_at statement_of may room t.place (closing_from 0 1 ts) ts after
by_mark other statement_of may room t ts after = unless_empty (is_semicolon t.kind) may room t ts after

-- by the first token
abbrev pub by_first : Option Keyword → Reader → Bool → ℕ → Token → List Token → Place → StatementRead
by_first (Some key.If) statement_of may room t ts after = if_open statement_of may room t.place ts after
by_first (Some key.Switch) statement_of may room t ts after = switch_open statement_of room t.place ts after
by_first other statement_of may room t ts after = by_mark (opens t.kind) statement_of may room t ts after

abbrev pub statement_step : Reader → Reader
statement_step statement_of may room [] after = Err (syntax after)
statement_step statement_of may room (t ∷ ts) after = by_first (keyword_of t.kind) statement_of may room t ts after

abbrev pub statement_within : ℕ → Reader
statement_within zero may room ts after = Err (syntax after)
statement_within (suc n) may room ts after = statement_step (statement_within n) may room ts after

-- the statement at the front; each statement in it has fewer tokens
unfoldable pub statement_of : Reader
statement_of may room ts after = statement_within (length ts + 1) may room ts after

-- the statements of a body
abbrev pub statements : ℕ → List Token → Place → Result (List Stmt) Refusal
statements room ts after = all_read (each statement_of false room after) 0 ts
