-- A cut of a statement is one step, with the cuts of the statements in it.
use Rattle.std.proofs.Common.{◌≡◌, ℕ, zero, suc, ◌+◌, ◌-◌, ◌==◌, if◌then◌else◌, ◌<◌, ◌≤◌, List, [], ◌∷◌, length, take, drop, Option, Some, None, Result, Ok, Err, refl, ap, arith, length-take, length-drop, Bool, true, false, add-one}
use Rattle.c_text.specs.declared.place.Place.{Place}
use Rattle.c_text.specs.declared.token.Token.{Token}
use Rattle.c_tree.specs.declared.symbol.Bracket.{Bracket}
use Rattle.c_tree.specs.declared.symbol.Bracket.TheVariants.{Round, Square, Brace}
use Rattle.c_tree.specs.declared.symbol.Keyword.{Keyword}
use Rattle.c_tree.specs.declared.symbol.Keyword.TheVariants as key
use Rattle.c_tree.specs.declared.expression.Expr.{Expr}
use Rattle.c_tree.specs.declared.statement.Stmt.{Stmt}
use Rattle.c_text.specs.Refusal.{Refusal}
use Rattle.c_tree.specs.Sequence.{Reading, all_read, place_at}
use Rattle.cg_out.specs.Words.{◌>>=◌}
use Rattle.c_tree.specs.Symbol.{keyword_of}
use Rattle.c_tree.specs.Brackets.{opens, closing_from, too_deep}
use Rattle.c_tree.specs.ExpressionCut.{Cutting, inside, expression_of as cut_expression}
use Rattle.c_tree.specs.StatementCut.{Reader, is_else, each, block_at, else_by, else_at, if_branches, if_at, if_by, if_open, part_by, switch_part, switch_parts, switch_by, switch_block, switch_at, switch_round, switch_open, by_mark, by_first, statement_step, statement_within, statement_of}

-- ---- one behind the other

pub bind-same : {A B : Type 0} (got : Result A Refusal) (f g : A → Result B Refusal) → ((x : A) → f x ≡ g x) → (got >>= f) ≡ (got >>= g)
bind-same (Ok x) f g h = h x
bind-same (Err e) f g h = refl

-- readings that give the same, where fewer tokens follow
pub all_read-same : {A : Type 0} (r s : Reading A) (n skip : ℕ) (ts : List Token) → ((t : Token) (us : List Token) → length us < n → r t us ≡ s t us) → length ts ≤ n
    → all_read r skip ts ≡ all_read s skip ts
all_read-same r s n skip [] h le = refl
all_read-same r s n (suc k) (t ∷ ts) h le = all_read-same r s n k ts h (omega arith)
all_read-same r s n zero (t ∷ ts) h le =
    rw (h t ts (omega arith)) (bind-same (s t ts) _ _ (λ x. ap (λ statement_of. statement_of >>= λ xs. Ok (x.0 ∷ xs)) (all_read-same r s n x.1 ts h (omega arith))))

-- two readers give the same for each list of fewer tokens
record Agree (n : ℕ) (f g : Reader) : Type 0 where
  at : (may : Bool) (room : ℕ) (ts : List Token) (after : Place) → length ts < n → f may room ts after ≡ g may room ts after

-- ---- each form of a statement looks at shorter lists alone

module _ (f g : Reader) (n : ℕ) (h : Agree n f g) where
  inside-each : (may : Bool) (room : ℕ) (place : Place) (ts : List Token) (after : Place) → length ts < n
      → inside room place (λ r. all_read (each f may r after) 0 ts) ≡ inside room place (λ r. all_read (each g may r after) 0 ts)
  inside-each may room place ts after le =
      ap (λ switch_part. if room == 0 then Err (too_deep place) else switch_part)
      (all_read-same (each f may (room - 1) after) (each g may (room - 1) after) (length ts) 0 ts (λ t us e. h.at may (room - 1) (t ∷ us) after (omega arith)) (omega arith))

  block_at-same : (may : Bool) (room : ℕ) (place : Place) (i : Option ℕ) (ts : List Token) (after : Place) → length ts < n → block_at f may room place i ts after ≡ block_at g may room place i ts after
  block_at-same may room place None ts after le = refl
  block_at-same may room place (Some i) ts after le =
      rw (inside-each may room place (take i ts) (place_at (drop i ts) after) (omega (arith, length-take i ts))) refl

  else_by-same : (may : Bool) (room : ℕ) (b : Bool) (place : Place) (e : Expr) (s : Stmt) (m : ℕ) (ts : List Token) (after : Place) → length ts < n
      → else_by f may room b place e s m ts after ≡ else_by g may room b place e s m ts after
  else_by-same may room false place e s m ts after le = refl
  else_by-same may room true place e s m ts after le = rw (h.at may room ts after le) refl

  else_at-same : (may : Bool) (room : ℕ) (place : Place) (e : Expr) (s : Stmt) (m : ℕ) (ts : List Token) (after : Place) → length ts ≤ n
      → else_at f may room place e s m ts after ≡ else_at g may room place e s m ts after
  else_at-same may room place e s m [] after le = refl
  else_at-same may room place e s m (t ∷ ts) after le = else_by-same may room (is_else t.kind) place e s m ts after (omega arith)

  branches-same : (may : Bool) (room : ℕ) (place : Place) (e : Expr) (m : ℕ) (ts : List Token) (after : Place) → length ts < n
      → if_branches f may room place e m ts after ≡ if_branches g may room place e m ts after
  branches-same may room place e m ts after le =
      rw (h.at may room ts after le)
      (bind-same (g may room ts after) _ _ (λ x. else_at-same may room place e x.0 (m + 1 + x.1) (drop (x.1 + 1) ts) after (omega (arith, length-drop (x.1 + 1) ts))))

  if_at-same : (may : Bool) (room : ℕ) (place o : Place) (i : Option ℕ) (ts : List Token) (after : Place) → length ts < n
      → if_at f may room place o i ts after ≡ if_at g may room place o i ts after
  if_at-same may room place o None ts after le = refl
  if_at-same may room place o (Some i) ts after le =
      bind-same (inside room o (λ r. cut_expression r (take i ts) (place_at (drop i ts) after))) _ _
      (λ e. branches-same may room place e (i + 2) (drop (i + 1) ts) after (omega (arith, length-drop (i + 1) ts)))

  if_by-same : (may : Bool) (room : ℕ) (place : Place) (b : Option Bracket) (o : Place) (ts : List Token) (after : Place) → length ts < n
      → if_by f may room place b o ts after ≡ if_by g may room place b o ts after
  if_by-same may room place (Some Round) o ts after le = if_at-same may room place o (closing_from 0 1 ts) ts after le
  if_by-same may room place (Some Square) o ts after le = refl
  if_by-same may room place (Some Brace) o ts after le = refl
  if_by-same may room place None o ts after le = refl

  if_open-same : (may : Bool) (room : ℕ) (place : Place) (ts : List Token) (after : Place) → length ts < n → if_open f may room place ts after ≡ if_open g may room place ts after
  if_open-same may room place [] after le = refl
  if_open-same may room place (o ∷ ts) after le = if_by-same may room place (opens o.kind) o.place ts after (omega arith)

  part-same : (room : ℕ) (after : Place) (t : Token) (ts : List Token) → length (t ∷ ts) < n → switch_part f room after t ts ≡ switch_part g room after t ts
  part-same room after t ts le = ap (λ statement_of. part_by (keyword_of t.kind) statement_of room after t ts) (h.at true room (t ∷ ts) after le)

  inside-parts : (room : ℕ) (place : Place) (ts : List Token) (after : Place) → length ts < n
      → inside room place (λ r. all_read (switch_part f r after) 0 ts) ≡ inside room place (λ r. all_read (switch_part g r after) 0 ts)
  inside-parts room place ts after le =
      ap (λ switch_part. if room == 0 then Err (too_deep place) else switch_part)
      (all_read-same (switch_part f (room - 1) after) (switch_part g (room - 1) after) (length ts) 0 ts (λ t us e. part-same (room - 1) after t us (omega arith)) (omega arith))

  switch_parts-same : (room : ℕ) (place : Place) (v : Expr) (brace : Place) (m : ℕ) (j : Option ℕ) (ts : List Token) (after : Place) → length ts < n
      → switch_parts f room place v brace m j ts after ≡ switch_parts g room place v brace m j ts after
  switch_parts-same room place v brace m None ts after le = refl
  switch_parts-same room place v brace m (Some j) ts after le =
      rw (inside-parts room brace (take j ts) (place_at (drop j ts) after) (omega (arith, length-take j ts))) refl

  switch_by-same : (room : ℕ) (place : Place) (v : Cutting) (m : ℕ) (b : Option Bracket) (brace : Place) (ts : List Token) (after : Place) → length ts < n
      → switch_by f room place v m b brace ts after ≡ switch_by g room place v m b brace ts after
  switch_by-same room place v m (Some Brace) brace ts after le = bind-same v _ _ (λ e. switch_parts-same room place e brace (m + 1) (closing_from 0 1 ts) ts after le)
  switch_by-same room place v m (Some Round) brace ts after le = refl
  switch_by-same room place v m (Some Square) brace ts after le = refl
  switch_by-same room place v m None brace ts after le = refl

  switch_block-same : (room : ℕ) (place : Place) (v : Cutting) (m : ℕ) (ts : List Token) (after : Place) → length ts ≤ n
      → switch_block f room place v m ts after ≡ switch_block g room place v m ts after
  switch_block-same room place v m [] after le = refl
  switch_block-same room place v m (o ∷ ts) after le = switch_by-same room place v m (opens o.kind) o.place ts after (omega arith)

  switch_at-same : (room : ℕ) (place o : Place) (i : Option ℕ) (ts : List Token) (after : Place) → length ts < n → switch_at f room place o i ts after ≡ switch_at g room place o i ts after
  switch_at-same room place o None ts after le = refl
  switch_at-same room place o (Some i) ts after le =
      switch_block-same room place _ (i + 2) (drop (i + 1) ts) after (omega (arith, length-drop (i + 1) ts))

  switch_round-same : (room : ℕ) (place : Place) (b : Option Bracket) (o : Place) (ts : List Token) (after : Place) → length ts < n
      → switch_round f room place b o ts after ≡ switch_round g room place b o ts after
  switch_round-same room place (Some Round) o ts after le = switch_at-same room place o (closing_from 0 1 ts) ts after le
  switch_round-same room place (Some Square) o ts after le = refl
  switch_round-same room place (Some Brace) o ts after le = refl
  switch_round-same room place None o ts after le = refl

  switch_open-same : (room : ℕ) (place : Place) (ts : List Token) (after : Place) → length ts < n → switch_open f room place ts after ≡ switch_open g room place ts after
  switch_open-same room place [] after le = refl
  switch_open-same room place (o ∷ ts) after le = switch_round-same room place (opens o.kind) o.place ts after (omega arith)

  by_mark-same : (b : Option Bracket) (may : Bool) (room : ℕ) (t : Token) (ts : List Token) (after : Place) → length ts < n → by_mark b f may room t ts after ≡ by_mark b g may room t ts after
  by_mark-same (Some Brace) may room t ts after le = block_at-same may room t.place (closing_from 0 1 ts) ts after le
  by_mark-same (Some Round) may room t ts after le = refl
  by_mark-same (Some Square) may room t ts after le = refl
  by_mark-same None may room t ts after le = refl

  by_first-same : (k : Option Keyword) (may : Bool) (room : ℕ) (t : Token) (ts : List Token) (after : Place) → length ts < n → by_first k f may room t ts after ≡ by_first k g may room t ts after
  by_first-same (Some key.If) may room t ts after le = if_open-same may room t.place ts after le
  by_first-same (Some key.Switch) may room t ts after le = switch_open-same room t.place ts after le
  by_first-same None may room t ts after le = by_mark-same (opens t.kind) may room t ts after le
  by_first-same (Some key.Bool) may room t ts after le = by_mark-same (opens t.kind) may room t ts after le
  by_first-same (Some key.Break) may room t ts after le = by_mark-same (opens t.kind) may room t ts after le
  by_first-same (Some key.Case) may room t ts after le = by_mark-same (opens t.kind) may room t ts after le
  by_first-same (Some key.Char) may room t ts after le = by_mark-same (opens t.kind) may room t ts after le
  by_first-same (Some key.Const) may room t ts after le = by_mark-same (opens t.kind) may room t ts after le
  by_first-same (Some key.Default) may room t ts after le = by_mark-same (opens t.kind) may room t ts after le
  by_first-same (Some key.Else) may room t ts after le = by_mark-same (opens t.kind) may room t ts after le
  by_first-same (Some key.Int) may room t ts after le = by_mark-same (opens t.kind) may room t ts after le
  by_first-same (Some key.Long) may room t ts after le = by_mark-same (opens t.kind) may room t ts after le
  by_first-same (Some key.Return) may room t ts after le = by_mark-same (opens t.kind) may room t ts after le
  by_first-same (Some key.Short) may room t ts after le = by_mark-same (opens t.kind) may room t ts after le
  by_first-same (Some key.Signed) may room t ts after le = by_mark-same (opens t.kind) may room t ts after le
  by_first-same (Some key.Static) may room t ts after le = by_mark-same (opens t.kind) may room t ts after le
  by_first-same (Some key.Struct) may room t ts after le = by_mark-same (opens t.kind) may room t ts after le
  by_first-same (Some key.Unsigned) may room t ts after le = by_mark-same (opens t.kind) may room t ts after le
  by_first-same (Some key.Void) may room t ts after le = by_mark-same (opens t.kind) may room t ts after le
  by_first-same (Some key.Other) may room t ts after le = by_mark-same (opens t.kind) may room t ts after le

  statement_step-same : (may : Bool) (room : ℕ) (ts : List Token) (after : Place) → length ts ≤ n → statement_step f may room ts after ≡ statement_step g may room ts after
  statement_step-same may room [] after le = refl
  statement_step-same may room (t ∷ ts) after le = by_first-same (keyword_of t.kind) may room t ts after (omega arith)

statement_within-enough : (n k : ℕ) (may : Bool) (room : ℕ) (ts : List Token) (after : Place) → length ts < n → length ts < k → statement_within n may room ts after ≡ statement_within k may room ts after
statement_within-enough zero k may room ts after h i = absurd (omega arith)
statement_within-enough (suc n) zero may room ts after h i = absurd (omega arith)
statement_within-enough (suc n) (suc k) may room ts after h i =
    statement_step-same (statement_within n) (statement_within k) (length ts) (record { at = λ m r us a le. statement_within-enough n k m r us a (omega arith) (omega arith) }) may room ts after (omega arith)

pub statement_of-step : (may : Bool) (room : ℕ) (ts : List Token) (after : Place) → statement_of may room ts after ≡ statement_step statement_of may room ts after
unfolding statement_of
statement_of-step may room ts after =
    rw add-one (statement_step-same (statement_within (length ts)) statement_of (length ts)
    (record { at = λ m r us a le. statement_within-enough (length ts) (length us + 1) m r us a le (omega arith) }) may room ts after (omega arith))
