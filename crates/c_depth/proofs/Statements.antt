-- A cut of a statement tells how deep its tokens are.
use Rattle.std.proofs.Common.{◌≡◌, ℕ, zero, suc, ◌+◌, List, [], ◌∷◌, length, take, drop, drop-drop, Option, Some, None, refl, sym, ap, ◌∙◌, arith, Bool, true, false}
use Rattle.std.specs.Prelude.{is_some, Result}
use Rattle.c_text.specs.declared.place.Place.{Place}
use Rattle.c_text.specs.declared.token.Token.{Token}
use Rattle.c_tree.specs.declared.symbol.Bracket.{Bracket}
use Rattle.c_tree.specs.declared.symbol.Bracket.TheVariants.{Round, Brace}
use Rattle.c_tree.specs.declared.symbol.Keyword.{Keyword}
use Rattle.c_tree.specs.declared.symbol.Keyword.TheVariants as key
use Rattle.c_tree.specs.declared.expression.Expr.{Expr}
use Rattle.c_tree.specs.declared.statement.Stmt.{Stmt}
use Rattle.c_tree.specs.Sequence.{all_read, place_at}
use Rattle.c_tree.specs.Symbol.{keyword_of, is_semicolon}
use Rattle.c_tree.specs.Brackets.{opens, closing_from, first_outside}
use Rattle.c_tree.specs.ExpressionCut.{Cutting, inside, expression_of}
use Rattle.c_tree.specs.StatementCut.{is_else_key, is_else, StatementRead, Reader, each, block_at, else_by, else_at, if_branches, if_at, if_by, if_open, switch_part, switch_parts, switch_by, switch_block, switch_at, switch_round, switch_open, unless_empty, by_mark, by_first, statement_step, statement_within, statement_of, statements}
use Rattle.c_depth.specs.Shallow.{is_shallow}
use Rattle.c_depth.proofs.Keeps.{Keeps, all, keeps-bind, keeps-is, keeps-rest}
use Rattle.c_depth.proofs.Depth.{shallow-outside}
use Rattle.c_depth.proofs.Split.{closes-at}
use Rattle.c_depth.proofs.Flat.{IsFlat, keyword-flat, semicolon-flat}
use Rattle.c_depth.proofs.Inside.{inside-part}
use Rattle.c_depth.proofs.Expressions.{cut-keeps}
use Rattle.c_depth.proofs.Sequences.{behind, ObeysReading, all-read}
use Rattle.c_depth.proofs.SimpleStatements.{simple-at}
use Rattle.c_depth.proofs.Labels.{past, past-first, drop-next, by-keyword, part-by}

-- the law of a reader
pub record Obeys (statement_of : Reader) : Type 0 where
  pub at : (may : Bool) (room : ℕ) (ts : List Token) (after : Place) → Keeps (is_shallow room 0 ts) (past room ts) (statement_of may room ts after)

drop-on : (all us : List Token) (n m k : ℕ) → us ≡ drop n all → n + m ≡ k → drop m us ≡ drop k all
drop-on all us n m k e count = ap (λ xs. drop m xs) e ∙ drop-drop m n all ∙ ap (λ x. drop x all) count

else-key : (o : Option Keyword) → is_else_key o ≡ true → is_some o ≡ true
else-key (Some w) h = refl
else-key None h = h

-- ---- each form, with cuts of the statements in it that obey the law

module _ (f : Reader) (h : Obeys f) where
  each-keeps : (may : Bool) (room : ℕ) (after : Place) → ObeysReading room (each f may room after)
  each-keeps may room after = record {
    at = λ t ts. keeps-rest (is_shallow room 0 (t ∷ ts)) (behind room ts) (past room (t ∷ ts)) (f may room (t ∷ ts) after) (λ x. sym (past-first room t ts x)) (h.at may room (t ∷ ts) after);
  }

  part-keeps : (room : ℕ) (after : Place) → ObeysReading room (switch_part f room after)
  part-keeps room after = record { at = λ t ts. part-by room (keyword_of t.kind) (f true room (t ∷ ts) after) after t ts refl (h.at true room (t ∷ ts) after) }

  block-keeps : (may : Bool) (room : ℕ) (o : Token) (b : Bracket) (i : Option ℕ) (ts : List Token) (after : Place) → opens o.kind ≡ Some b → closing_from 0 1 ts ≡ i
      → Keeps (is_shallow room 0 (o ∷ ts)) (behind room ts) (block_at f may room o.place i ts after)
  block-keeps may room o b None ts after is_o e = refl
  block-keeps may room o b (Some i) ts after is_o e =
      let c = closes-at i ts e in
      let close = place_at (drop i ts) after in
      let list : (r : ℕ) → Result (List Stmt) _ = λ r. all_read (each f may r close) 0 (take i ts) in
      keeps-bind (is_shallow room 0 (o ∷ ts)) (λ ss. is_shallow room 0 c.rest) (behind room ts) (inside room o.place list) _
      (inside-part o.place list o b ts (take i ts) (λ r. is_shallow r 0 c.rest) is_o c.shallow (λ r. all-read r (each f may r close) (each-keeps may r close) 0 (take i ts)) room)
      (λ ss. ap (λ us. is_shallow room 0 us) (drop-next i ts c.rest c.behind))

  -- ---- `if` (6.8.4.1), whose parts stand among the tokens behind it

  else-by : (may : Bool) (room : ℕ) (b : Bool) (place : Place) (e : Expr) (s : Stmt) (n : ℕ) (t : Token) (ts all_behind : List Token) (after : Place) → is_else t.kind ≡ b → t ∷ ts ≡ drop n all_behind
      → Keeps (is_shallow room 0 (t ∷ ts)) (behind room all_behind) (else_by f may room b place e s n ts after)
  else-by may room false place e s n t ts all_behind after is_t at = ap (λ us. is_shallow room 0 us) at
  else-by may room true place e s n t ts all_behind after is_t at =
      keeps-bind (is_shallow room 0 (t ∷ ts)) (past room ts) (behind room all_behind) (f may room ts after) _
      (keeps-is (is_shallow room 0 (t ∷ ts)) (is_shallow room 0 ts) (past room ts) (f may room ts after)
      (shallow-outside room 0 t ts (keyword-flat t.kind (else-key (keyword_of t.kind) is_t))) (h.at may room ts after))
      (λ x. ap (λ us. is_shallow room 0 us) (drop-on all_behind (t ∷ ts) n (suc (x.1 + 1)) (n + 2 + x.1) at (omega arith)))

  else-keeps : (may : Bool) (room : ℕ) (place : Place) (e : Expr) (s : Stmt) (n : ℕ) (ts all_behind : List Token) (after : Place) → ts ≡ drop n all_behind
      → Keeps (is_shallow room 0 ts) (behind room all_behind) (else_at f may room place e s n ts after)
  else-keeps may room place e s n [] all_behind after at = ap (λ us. is_shallow room 0 us) at
  else-keeps may room place e s n (t ∷ ts) all_behind after at = else-by may room (is_else t.kind) place e s n t ts all_behind after refl at

  branches-keep : (may : Bool) (room : ℕ) (place : Place) (e : Expr) (n : ℕ) (ts all_behind : List Token) (after : Place) → ts ≡ drop n all_behind
      → Keeps (is_shallow room 0 ts) (behind room all_behind) (if_branches f may room place e n ts after)
  branches-keep may room place e n ts all_behind after at =
      keeps-bind (is_shallow room 0 ts) (past room ts) (behind room all_behind) (f may room ts after) _ (h.at may room ts after)
      (λ x. else-keeps may room place e x.0 (n + 1 + x.1) (drop (x.1 + 1) ts) all_behind after (drop-on all_behind ts n (x.1 + 1) (n + 1 + x.1) at (omega arith)))

  -- the tokens behind a closing bracket, which is so many tokens behind the one before its opening one
  drop-closed : (i : ℕ) (o : Token) (ts : List Token) → drop (i + 1) ts ≡ drop (i + 2) (o ∷ ts)
  drop-closed i o ts = let e : suc (i + 1) ≡ i + 2 = omega arith in ap (λ n. drop n (o ∷ ts)) e

  if-keeps : (may : Bool) (room : ℕ) (place : Place) (o : Token) (b : Bracket) (i : Option ℕ) (ts : List Token) (after : Place) → opens o.kind ≡ Some b → closing_from 0 1 ts ≡ i
      → Keeps (is_shallow room 0 (o ∷ ts)) (behind room (o ∷ ts)) (if_at f may room place o.place i ts after)
  if-keeps may room place o b None ts after is_o e = refl
  if-keeps may room place o b (Some i) ts after is_o e =
      let c = closes-at i ts e in
      let condition : (r : ℕ) → Cutting = λ r. expression_of r (take i ts) (place_at (drop i ts) after) in
      keeps-bind (is_shallow room 0 (o ∷ ts)) (λ x. is_shallow room 0 c.rest) (behind room (o ∷ ts)) (inside room o.place condition) _
      (inside-part o.place condition o b ts (take i ts) (λ r. is_shallow r 0 c.rest) is_o c.shallow (λ r. cut-keeps.at r (take i ts) (place_at (drop i ts) after)) room)
      (λ x. keeps-is (is_shallow room 0 c.rest) (is_shallow room 0 (drop (i + 1) ts)) (behind room (o ∷ ts)) (if_branches f may room place x (i + 2) (drop (i + 1) ts) after)
      (ap (λ us. is_shallow room 0 us) (drop-next i ts c.rest c.behind)) (branches-keep may room place x (i + 2) (drop (i + 1) ts) (o ∷ ts) after (drop-closed i o ts)))

  if-by : (may : Bool) (room : ℕ) (place : Place) (b : Option Bracket) (o : Token) (ts : List Token) (after : Place) → opens o.kind ≡ b
      → Keeps (is_shallow room 0 (o ∷ ts)) (behind room (o ∷ ts)) (if_by f may room place b o.place ts after)
  if-by may room place (Some Round) o ts after e = if-keeps may room place o Round (closing_from 0 1 ts) ts after e refl
  if-by may room place _ o ts after e = refl

  if-open : (may : Bool) (room : ℕ) (place : Place) (ts : List Token) (after : Place) → Keeps (is_shallow room 0 ts) (behind room ts) (if_open f may room place ts after)
  if-open may room place [] after = refl
  if-open may room place (o ∷ ts) after = if-by may room place (opens o.kind) o ts after refl

  -- ---- `switch` (6.8.4.2)

  parts-keep : (room : ℕ) (place : Place) (v : Expr) (n : ℕ) (o : Token) (b : Bracket) (j : Option ℕ) (ts all_behind : List Token) (after : Place) → opens o.kind ≡ Some b → closing_from 0 1 ts ≡ j
      → o ∷ ts ≡ drop n all_behind → Keeps (is_shallow room 0 (o ∷ ts)) (behind room all_behind) (switch_parts f room place v o.place (n + 1) j ts after)
  parts-keep room place v n o b None ts all_behind after is_o e at = refl
  parts-keep room place v n o b (Some j) ts all_behind after is_o e at =
      let c = closes-at j ts e in
      let close = place_at (drop j ts) after in
      let list : (r : ℕ) → Result (List _) _ = λ r. all_read (switch_part f r close) 0 (take j ts) in
      keeps-bind (is_shallow room 0 (o ∷ ts)) (λ ps. is_shallow room 0 c.rest) (behind room all_behind) (inside room o.place list) _
      (inside-part o.place list o b ts (take j ts) (λ r. is_shallow r 0 c.rest) is_o c.shallow (λ r. all-read r (switch_part f r close) (part-keeps r close) 0 (take j ts)) room)
      (λ ps. ap (λ us. is_shallow room 0 us) (drop-next j ts c.rest c.behind ∙ drop-on all_behind (o ∷ ts) n (suc (j + 1)) (n + 1 + j + 1) at (omega arith)))

  switch-by : (room : ℕ) (place : Place) (whole : Bool) (value : Cutting) (n : ℕ) (b : Option Bracket) (o : Token) (ts all_behind : List Token) (after : Place) → opens o.kind ≡ b → o ∷ ts ≡ drop n all_behind
      → Keeps whole (λ v. is_shallow room 0 (o ∷ ts)) value → Keeps whole (behind room all_behind) (switch_by f room place value n b o.place ts after)
  switch-by room place whole value n (Some Brace) o ts all_behind after e at got =
      keeps-bind whole (λ v. is_shallow room 0 (o ∷ ts)) (behind room all_behind) value _ got (λ v. parts-keep room place v n o Brace (closing_from 0 1 ts) ts all_behind after e refl at)
  switch-by room place whole value n _ o ts all_behind after e at got = refl

  block-of : (room : ℕ) (place : Place) (whole : Bool) (value : Cutting) (n : ℕ) (ts all_behind : List Token) (after : Place) → ts ≡ drop n all_behind
      → Keeps whole (λ v. is_shallow room 0 ts) value → Keeps whole (behind room all_behind) (switch_block f room place value n ts after)
  block-of room place whole value n [] all_behind after at got = refl
  block-of room place whole value n (o ∷ ts) all_behind after at got = switch-by room place whole value n (opens o.kind) o ts all_behind after refl at got

  switch-keeps : (room : ℕ) (place : Place) (o : Token) (b : Bracket) (i : Option ℕ) (ts : List Token) (after : Place) → opens o.kind ≡ Some b → closing_from 0 1 ts ≡ i
      → Keeps (is_shallow room 0 (o ∷ ts)) (behind room (o ∷ ts)) (switch_at f room place o.place i ts after)
  switch-keeps room place o b None ts after is_o e = refl
  switch-keeps room place o b (Some i) ts after is_o e =
      let c = closes-at i ts e in
      let value : (r : ℕ) → Cutting = λ r. expression_of r (take i ts) (place_at (drop i ts) after) in
      block-of room place (is_shallow room 0 (o ∷ ts)) (inside room o.place value) (i + 2) (drop (i + 1) ts) (o ∷ ts) after (drop-closed i o ts)
      (keeps-rest (is_shallow room 0 (o ∷ ts)) (λ v. is_shallow room 0 (drop (i + 1) ts)) (λ v. is_shallow room 0 c.rest) (inside room o.place value)
      (λ v. ap (λ us. is_shallow room 0 us) (drop-next i ts c.rest c.behind))
      (inside-part o.place value o b ts (take i ts) (λ r. is_shallow r 0 c.rest) is_o c.shallow (λ r. cut-keeps.at r (take i ts) (place_at (drop i ts) after)) room))

  switch-round : (room : ℕ) (place : Place) (b : Option Bracket) (o : Token) (ts : List Token) (after : Place) → opens o.kind ≡ b
      → Keeps (is_shallow room 0 (o ∷ ts)) (behind room (o ∷ ts)) (switch_round f room place b o.place ts after)
  switch-round room place (Some Round) o ts after e = switch-keeps room place o Round (closing_from 0 1 ts) ts after e refl
  switch-round room place _ o ts after e = refl

  switch-open : (room : ℕ) (place : Place) (ts : List Token) (after : Place) → Keeps (is_shallow room 0 ts) (behind room ts) (switch_open f room place ts after)
  switch-open room place [] after = refl
  switch-open room place (o ∷ ts) after = switch-round room place (opens o.kind) o ts after refl

  -- ---- the whole

  empty-or : (b : Bool) (may : Bool) (room : ℕ) (t : Token) (ts : List Token) (after : Place) → is_semicolon t.kind ≡ b → Keeps (is_shallow room 0 (t ∷ ts)) (past room (t ∷ ts)) (unless_empty b may room t ts after)
  empty-or true may room t ts after e = shallow-outside room 0 t ts (semicolon-flat t.kind e)
  empty-or false may room t ts after e = simple-at may room (first_outside is_semicolon 0 0 (t ∷ ts)) (t ∷ ts) after refl

  by-mark : (b : Option Bracket) (may : Bool) (room : ℕ) (t : Token) (ts : List Token) (after : Place) → opens t.kind ≡ b → Keeps (is_shallow room 0 (t ∷ ts)) (past room (t ∷ ts)) (by_mark b f may room t ts after)
  by-mark (Some Brace) may room t ts after e =
      keeps-rest (is_shallow room 0 (t ∷ ts)) (past room (t ∷ ts)) (behind room ts) (block_at f may room t.place (closing_from 0 1 ts) ts after) (past-first room t ts)
      (block-keeps may room t Brace (closing_from 0 1 ts) ts after e refl)
  by-mark _ may room t ts after e = empty-or (is_semicolon t.kind) may room t ts after refl

  -- behind a keyword
  behind-key : (room : ℕ) (t : Token) (ts : List Token) (got : StatementRead) → IsFlat t.kind → Keeps (is_shallow room 0 ts) (behind room ts) got → Keeps (is_shallow room 0 (t ∷ ts)) (past room (t ∷ ts)) got
  behind-key room t ts got flat k =
      keeps-is (is_shallow room 0 (t ∷ ts)) (is_shallow room 0 ts) (past room (t ∷ ts)) got (shallow-outside room 0 t ts flat)
      (keeps-rest (is_shallow room 0 ts) (past room (t ∷ ts)) (behind room ts) got (past-first room t ts) k)

  by-first : (o : Option Keyword) (may : Bool) (room : ℕ) (t : Token) (ts : List Token) (after : Place) → keyword_of t.kind ≡ o → Keeps (is_shallow room 0 (t ∷ ts)) (past room (t ∷ ts)) (by_first o f may room t ts after)
  by-first (Some key.If) may room t ts after e = behind-key room t ts (if_open f may room t.place ts after) (by-keyword t (Some key.If) e refl) (if-open may room t.place ts after)
  by-first (Some key.Switch) may room t ts after e = behind-key room t ts (switch_open f room t.place ts after) (by-keyword t (Some key.Switch) e refl) (switch-open room t.place ts after)
  by-first _ may room t ts after e = by-mark (opens t.kind) may room t ts after refl

  step-keeps : (may : Bool) (room : ℕ) (ts : List Token) (after : Place) → Keeps (is_shallow room 0 ts) (past room ts) (statement_step f may room ts after)
  step-keeps may room [] after = refl
  step-keeps may room (t ∷ ts) after = by-first (keyword_of t.kind) may room t ts after refl

within-keeps : (n : ℕ) (may : Bool) (room : ℕ) (ts : List Token) (after : Place) → Keeps (is_shallow room 0 ts) (past room ts) (statement_within n may room ts after)
within-keeps zero may room ts after = refl
within-keeps (suc n) may room ts after = step-keeps (statement_within n) (record { at = within-keeps n }) may room ts after

read-keeps : Obeys statement_of
unfolding statement_of
read-keeps = record { at = λ may room ts after. within-keeps (length ts + 1) may room ts after }

pub statements-keep : (room : ℕ) (ts : List Token) (after : Place) → Keeps (is_shallow room 0 ts) all (statements room ts after)
statements-keep room ts after = all-read room (each statement_of false room after) (each-keeps statement_of read-keeps false room after) 0 ts
