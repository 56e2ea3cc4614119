-- The `if`s of a statement that wait for a branch.
use Rattle.std.specs.Prelude.{◌≡◌, ◌≤◌, ℕ, ◌+◌, Bool, false, List, [], ◌∷◌, length, drop, Option, Some, None, Result, Ok, Err}
use Rattle.c_text.specs.declared.place.Place.{Place}
use Rattle.c_text.specs.declared.token.Token.{Token}
use Rattle.c_tree.specs.declared.symbol.Keyword.{Keyword}
use Rattle.c_tree.specs.declared.symbol.Keyword.TheVariants as key
use Rattle.c_tree.specs.declared.expression.Expr.{Expr}
use Rattle.c_tree.specs.declared.statement.Stmt.{Stmt}
use Rattle.c_tree.specs.declared.statement.StmtKind.TheVariants as k
use Rattle.c_text.specs.declared.refusal.CFault.{CFault}
use Rattle.c_text.specs.declared.refusal.CFault.TheVariants.{Fault, Memory}
use Rattle.cg_out.specs.Words.{◌>>=◌}
use Rattle.c_tree.specs.Symbol.{keyword_of}
use Rattle.c_tree.specs.Brackets.{opens, syntax}
use Rattle.c_tree.specs.StatementCut.{StatementRead, Reader, stmt, is_else, else_at, if_branches, if_open, switch_open, by_mark, statement_step, statement_of}
use Rattle.c_parser.specs.declared.pending.Pending.{Pending}
use Rattle.c_parser.specs.declared.pending.Joined.{Joined}
use Rattle.c_parser.specs.declared.pending.Joined.TheVariants.{Whole, Waits}

-- ---- what stands at the front

-- a statement that begins with no `if`, by its first token
abbrev pub plain_by : Option Keyword → Reader → Bool → ℕ → Token → List Token → Place → StatementRead
plain_by (Some key.Switch) r may room t ts after = switch_open r room t.place ts after
plain_by other r may room t ts after = by_mark (opens t.kind) r may room t ts after

abbrev pub plain_step : Reader → Reader
plain_step r may room [] after = Err (syntax after)
plain_step r may room (t ∷ ts) after = plain_by (keyword_of t.kind) r may room t ts after

-- no `if` stands at the front
abbrev pub IsPlain : List Token → Type 0
IsPlain ts = (r : Reader) (may : Bool) (room : ℕ) (after : Place) → statement_step r may room ts after ≡ plain_step r may room ts after

-- an `if` with its place and the tokens behind it
abbrev pub IsIf : Place → List Token → List Token → Type 0
IsIf place rest ts = (r : Reader) (may : Bool) (room : ℕ) (after : Place) → statement_step r may room ts after ≡ if_open r may room place rest after

abbrev pub has_else : List Token → Bool
has_else [] = false
has_else (t ∷ ts) = is_else t.kind

-- the condition of an `if` with the count of its tokens, brackets among them, or the fault that shows there
abbrev pub IsHead : Result (Expr × ℕ) CFault → ℕ → Place → List Token → Place → Type 0
IsHead (Ok h) room place ts after = (r : Reader) (may : Bool) → if_open r may room place ts after ≡ if_branches r may room place h.0 h.1 (drop h.1 ts) after
IsHead (Err (Fault kind at)) room place ts after = (r : Reader) (may : Bool) → if_open r may room place ts after ≡ Err (record { kind = kind; place = at })
IsHead (Err Memory) room place ts after = Unit {0}

-- ---- the whole, from what is read for the innermost

-- tokens, with what is said of each statement in them: whether a `break` may stand there, how many brackets may be open, and the place behind all tokens
pub record Around : Type 0 where
  pub may : Bool
  pub room : ℕ
  pub tokens : List Token
  pub after : Place

abbrev pub around : Bool → ℕ → List Token → Place → Around
around may room tokens after = record { may = may; room = room; tokens = tokens; after = after }

-- a statement at an index, with the index of its last token in place of the count of those behind its first
abbrev pub moved : ℕ → Stmt × ℕ → StatementRead
moved at s = Ok (s.0, at + s.1)

-- the statement that is read at an index
abbrev pub read_from : Around → ℕ → StatementRead
read_from a at = statement_of a.may a.room (drop at a.tokens) a.after >>= moved at

abbrev pub goes_on_by : Option Stmt → Around → Place → Expr → Stmt → ℕ → StatementRead
goes_on_by None a place condition s end = else_at statement_of a.may a.room place condition s end (drop (end + 1) a.tokens) a.after
goes_on_by (Some first) a place condition s end = Ok (stmt place (k.If condition first (Some s)), end)

-- an `if` goes on behind the branch for which it waits, which ends at an index
abbrev pub goes_on : Around → Pending → Stmt × ℕ → StatementRead
goes_on a p s = goes_on_by p.first a p.place p.condition s.0 s.1

-- with all that wait, the outermost first
abbrev pub resumed : Around → List Pending → StatementRead → StatementRead
resumed a [] statement_of = statement_of
resumed a (p ∷ ps) statement_of = resumed a ps statement_of >>= goes_on a p

-- behind the heads of `if`s, or at a fault in one
abbrev pub Descends : Result ℕ CFault → List Pending → List Pending → ℕ → List Token → ℕ → Place → Type 0
Descends (Ok n) old new room ts at after = (may : Bool) → resumed (around may room ts after) new (read_from (around may room ts after) n) ≡ resumed (around may room ts after) old (read_from (around may room ts after) at)
Descends (Err (Fault kind place)) old new room ts at after = (may : Bool) → resumed (around may room ts after) old (read_from (around may room ts after) at) ≡ Err (record { kind = kind; place = place })
Descends (Err Memory) old new room ts at after = Unit {0}

-- behind a branch, which ends before the tokens that are left: the `if`, or what waits for its other branch
abbrev pub Joins : Joined → Pending → Stmt → List Token → Type 0
Joins (Whole made) last s rest = (a : Around) (end : ℕ) → rest ≡ drop (end + 1) a.tokens → goes_on a last (s, end) ≡ Ok (made, end)
Joins (Waits p) last s rest = (a : Around) (end : ℕ) → rest ≡ drop (end + 1) a.tokens → goes_on a last (s, end) ≡ (read_from a (end + 2) >>= goes_on a p)

-- one that waits has an `else` behind its first branch
abbrev pub IsWithin : Joined → List Token → Type 0
IsWithin (Whole made) rest = Unit {0}
IsWithin (Waits p) rest = 1 ≤ length rest

-- behind a statement, which ends before the tokens that are left: the whole, or with an `if` that waits for its other branch
abbrev pub Ascends : Option Stmt → List Pending → List Pending → Stmt → List Token → Type 0
Ascends (Some whole) old new s rest = (a : Around) (end : ℕ) → rest ≡ drop (end + 1) a.tokens → resumed a old (Ok (s, end)) ≡ Ok (whole, end)
Ascends None old new s rest = (a : Around) (end : ℕ) → rest ≡ drop (end + 1) a.tokens → resumed a old (Ok (s, end)) ≡ resumed a new (read_from a (end + 2))
