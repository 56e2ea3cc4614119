-- A cut of an expression is one step, with the cuts of its parts.
use Rattle.std.proofs.Common.{◌≡◌, ℕ, zero, suc, ◌+◌, ◌-◌, ◌==◌, if◌then◌else◌, ◌<◌, ◌≤◌, List, [], ◌∷◌, length, take, drop, Option, Some, None, Err, refl, sym, ap, ◌∙◌, subst, arith, length-take, length-drop, Bool, true, false, add-one}
use Rattle.c_text.specs.declared.place.Place.{Place}
use Rattle.c_text.specs.declared.token.Spelled.{Spelled}
use Rattle.c_text.specs.declared.token.Token.{Token}
use Rattle.c_text.specs.declared.token.TokenKind.{TokenKind}
use Rattle.c_text.specs.declared.token.TokenKind.TheVariants.{Word, Constant as Number, Quoted, Mark, TypeName, Null, Memset}
use Rattle.c_tree.specs.declared.symbol.Bracket.{Bracket}
use Rattle.c_tree.specs.declared.symbol.Bracket.TheVariants.{Round, Square, Brace}
use Rattle.c_tree.specs.declared.expression.Callee.{Callee}
use Rattle.c_tree.specs.declared.expression.UnaryOp.{UnaryOp}
use Rattle.c_tree.specs.Symbol.{name_of, callee_of}
use Rattle.c_tree.specs.Brackets.{opens, is_bracket, closing_from, depth_after, too_deep}
use Rattle.c_tree.specs.Operators.{prefix}
use Rattle.c_tree.specs.TypeName.{spelled_of, kinds_of}
use Rattle.c_tree.specs.ExpressionCut.{Cutter, inside, at_operator, Delimited, put, put_in, parts, cut_all, arguments, Closed, closed_at, closed_by, closed, call_expression, element, behind_name, operand_named, bracketed, cast, round_by, round, at_mark, primary, prefixed, operand_of, cut_at, loosest, expression_step, expression_within, expression_of}

-- two cutters give the same for each list of fewer tokens
pub record Agree (n : ℕ) (f g : Cutter) : Type 0 where
  pub at : (room : ℕ) (ts : List Token) (after : Place) → length ts < n → f room ts after ≡ g room ts after

-- ---- the parts between commas are no longer than the whole

abbrev AllWithin : ℕ → List Delimited → Type 0
AllWithin n [] = Unit {0}
AllWithin n (p ∷ ps) = (length p.0 ≤ n) × AllWithin n ps

within-more : (n : ℕ) (ps : List Delimited) → AllWithin n ps → AllWithin (n + 1) ps
within-more n [] h = h
within-more n (p ∷ ps) h = (omega (arith, h.0), within-more n ps h.1)

put-within : (n : ℕ) (t : Token) (ps : List Delimited) → AllWithin n ps → AllWithin (n + 1) (put t ps)
put-within n t [] h = h
put-within n t (p ∷ ps) h = (omega (arith, h.0), within-more n ps h.1)

put_in-within : (n : ℕ) (comma : Bool) (t : Token) (ps : List Delimited) → AllWithin n ps → AllWithin (n + 1) (put_in comma t ps)
put_in-within n true t ps h = (omega arith, within-more n ps h)
put_in-within n false t ps h = put-within n t ps h

parts-within : (after : Place) (depth : ℕ) (ts : List Token) → AllWithin (length ts) (parts after depth ts)
parts-within after depth [] = (omega arith, tt)
parts-within after depth (t ∷ ts) =
    subst (λ n. AllWithin n (parts after depth (t ∷ ts))) (add-one (length ts)) (put_in-within (length ts) _ t (parts after (depth_after t.kind depth) ts) (parts-within after (depth_after t.kind depth) ts))

-- ---- what stands in brackets is shorter

abbrev pub Fits : ℕ → Option Closed → Type 0
Fits n None = Unit {0}
Fits n (Some c) = length c.inner < n

closed_at-fits : (n : ℕ) (inner rest : List Token) → length inner < n → Fits n (closed_at inner rest)
closed_at-fits n inner [] le = tt
closed_at-fits n inner (close ∷ []) le = le
closed_at-fits n inner (close ∷ _ ∷ _) le = tt

closed_by-fits : (n : ℕ) (at : Option ℕ) (ts : List Token) → length ts ≤ n → Fits n (closed_by at ts)
closed_by-fits n None ts le = tt
closed_by-fits n (Some at) ts le = shorter (drop at ts) refl
  where
    shorter : (rest : List Token) → drop at ts ≡ rest → Fits n (closed_at (take at ts) rest)
    shorter [] e = tt
    shorter (close ∷ []) e = omega (arith, ap length e, length-take at ts, length-drop at ts)
    shorter (close ∷ _ ∷ _) e = tt

pub closed-fits : (n : ℕ) (ts : List Token) → length ts ≤ n → Fits n (closed ts)
closed-fits n ts le = closed_by-fits n (closing_from 0 1 ts) ts le

-- ---- each form of a cut looks at shorter lists alone

module _ (f g : Cutter) (n : ℕ) (h : Agree n f g) where
  cut_all-same : (room m : ℕ) (ps : List Delimited) → m < n → AllWithin m ps → cut_all f room ps ≡ cut_all g room ps
  cut_all-same room m [] le w = refl
  cut_all-same room m (p ∷ ps) le w = rw (h.at room p.0 p.1 (omega (arith, w.0)), cut_all-same room m ps le w.1) refl

  arguments-same : (room : ℕ) (ts : List Token) (after : Place) → length ts < n → arguments f room ts after ≡ arguments g room ts after
  arguments-same room [] after le = refl
  arguments-same room (t ∷ ts) after le = cut_all-same room (length (t ∷ ts)) (parts after 0 (t ∷ ts)) le (parts-within after 0 (t ∷ ts))

  pub inside-cut : (room : ℕ) (place : Place) (ts : List Token) (after : Place) → length ts < n
      → inside room place (λ r. f r ts after) ≡ inside room place (λ r. g r ts after)
  inside-cut room place ts after le = ap (λ part. if room == 0 then Err (too_deep place) else part) (h.at (room - 1) ts after le)

  inside-arguments : (room : ℕ) (place : Place) (ts : List Token) (after : Place) → length ts < n
      → inside room place (λ r. arguments f r ts after) ≡ inside room place (λ r. arguments g r ts after)
  inside-arguments room place ts after le = ap (λ part. if room == 0 then Err (too_deep place) else part) (arguments-same (room - 1) ts after le)

  at_operator-same : (room : ℕ) (left rest : List Token) (after : Place) → length left + length rest ≤ n → at_operator f room left rest after ≡ at_operator g room left rest after
  at_operator-same room left [] after le = refl
  at_operator-same room left (t ∷ right) after le = rw (h.at room left t.place (omega arith), h.at room right after (omega arith)) refl

  call_expression-same : (room : ℕ) (place : Place) (name : Option Callee) (o : Place) (c : Option Closed) → Fits n c → call_expression f room place name o c ≡ call_expression g room place name o c
  call_expression-same room place (Some name) o (Some c) le = rw (inside-arguments room o c.inner c.close le) refl
  call_expression-same room place (Some name) o None le = refl
  call_expression-same room place None o c le = refl

  element-same : (room : ℕ) (place : Place) (name : Option (List ℕ)) (o : Place) (c : Option Closed) → Fits n c → element f room place name o c ≡ element g room place name o c
  element-same room place (Some name) o (Some c) le = rw (inside-cut room o c.inner c.close le) refl
  element-same room place (Some name) o None le = refl
  element-same room place None o c le = refl

  bracketed-same : (room : ℕ) (place : Place) (c : Option Closed) → Fits n c → bracketed f room place c ≡ bracketed g room place c
  bracketed-same room place (Some c) le = rw (inside-cut room place c.inner c.close le) refl
  bracketed-same room place None le = refl

  cast-same : (room : ℕ) (place : Place) (to : Spelled) (ts : List Token) (after : Place) → length ts < n → cast f room place to ts after ≡ cast g room place to ts after
  cast-same room place to ts after le = rw (h.at room ts after le) refl

  behind_name-same : (room : ℕ) (b : Option Bracket) (t o : Token) (ts : List Token) → length ts ≤ n → behind_name f room b t o ts ≡ behind_name g room b t o ts
  behind_name-same room (Some Round) t o ts le = call_expression-same room t.place (callee_of t.kind) o.place (closed ts) (closed-fits n ts le)
  behind_name-same room (Some Square) t o ts le = element-same room t.place (name_of t.kind) o.place (closed ts) (closed-fits n ts le)
  behind_name-same room (Some Brace) t o ts le = refl
  behind_name-same room None t o ts le = refl

  operand_named-same : (room : ℕ) (t : Token) (ts : List Token) → length ts ≤ n → operand_named f room t ts ≡ operand_named g room t ts
  operand_named-same room t [] le = refl
  operand_named-same room t (o ∷ ts) le = behind_name-same room (opens o.kind) t o ts (omega arith)

  round_by-same : (room : ℕ) (place : Place) (to : Option Spelled) (at : ℕ) (ts : List Token) (after : Place) → length ts < n
      → round_by f room place to at ts after ≡ round_by g room place to at ts after
  round_by-same room place (Some to) at ts after le = cast-same room place to (drop (at + 1) ts) after (omega (arith, length-drop (at + 1) ts))
  round_by-same room place None at ts after le = bracketed-same room place (closed_at (take at ts) (drop at ts)) (closed_at-fits n (take at ts) (drop at ts) (omega (arith, length-take at ts)))

  round-same : (room : ℕ) (place : Place) (at : Option ℕ) (ts : List Token) (after : Place) → length ts < n → round f room place at ts after ≡ round g room place at ts after
  round-same room place None ts after le = refl
  round-same room place (Some at) ts after le = round_by-same room place (spelled_of (kinds_of (take at ts))) at ts after le

  at_mark-same : (room : ℕ) (b : Bool) (place : Place) (ts : List Token) (after : Place) → length ts < n → at_mark f room b place ts after ≡ at_mark g room b place ts after
  at_mark-same room true place ts after le = round-same room place (closing_from 0 1 ts) ts after le
  at_mark-same room false place ts after le = refl

  primary-same : (room : ℕ) (kind : TokenKind) (t : Token) (ts : List Token) (after : Place) → length ts < n → primary f room kind t ts after ≡ primary g room kind t ts after
  primary-same room (Number c) t [] after le = refl
  primary-same room (Number c) t (_ ∷ _) after le = refl
  primary-same room Null t [] after le = refl
  primary-same room Null t (_ ∷ _) after le = refl
  primary-same room (Word w) t ts after le = operand_named-same room t ts (omega arith)
  primary-same room Memset t ts after le = operand_named-same room t ts (omega arith)
  primary-same room (Mark m) t ts after le = at_mark-same room (is_bracket Round (opens t.kind)) t.place ts after le
  primary-same room (Quoted q) t ts after le = refl
  primary-same room (TypeName s) t ts after le = refl

  prefixed-same : (room : ℕ) (o : Option UnaryOp) (t : Token) (ts : List Token) (after : Place) → length ts < n → prefixed f room o t ts after ≡ prefixed g room o t ts after
  prefixed-same room (Some o) t ts after le = rw (h.at room ts after le) refl
  prefixed-same room None t ts after le = primary-same room t.kind t ts after le

  alone-same : (room : ℕ) (ts : List Token) (after : Place) → length ts ≤ n → operand_of f room ts after ≡ operand_of g room ts after
  alone-same room [] after le = refl
  alone-same room (t ∷ ts) after le = prefixed-same room (prefix t.kind) t ts after (omega arith)

  cut_at-same : (room : ℕ) (o : Option ℕ) (ts : List Token) (after : Place) → length ts ≤ n → cut_at f room o ts after ≡ cut_at g room o ts after
  cut_at-same room (Some i) ts after le = at_operator-same room (take i ts) (drop i ts) after (omega (arith, length-take i ts, length-drop i ts))
  cut_at-same room None ts after le = alone-same room ts after le

  pub expression_step-same : (room : ℕ) (ts : List Token) (after : Place) → length ts ≤ n → expression_step f room ts after ≡ expression_step g room ts after
  expression_step-same room ts after le = cut_at-same room (loosest ts) ts after le

-- ---- one more cut deep changes nothing, where there are enough

expression_within-enough : (n k room : ℕ) (ts : List Token) (after : Place) → length ts < n → length ts < k → expression_within n room ts after ≡ expression_within k room ts after
expression_within-enough zero k room ts after h i = absurd (omega arith)
expression_within-enough (suc n) zero room ts after h i = absurd (omega arith)
expression_within-enough (suc n) (suc k) room ts after h i =
    expression_step-same (expression_within n) (expression_within k) (length ts) (record { at = λ r us a le. expression_within-enough n k r us a (omega arith) (omega arith) }) room ts after (omega arith)

pub expression_of-step : (room : ℕ) (ts : List Token) (after : Place) → expression_of room ts after ≡ expression_step expression_of room ts after
unfolding expression_of
expression_of-step room ts after =
    rw add-one (expression_step-same (expression_within (length ts)) expression_of (length ts)
    (record { at = λ r us a le. expression_within-enough (length ts) (length us + 1) r us a le (omega arith) }) room ts after (omega arith))

pub expression_of-some : (room : ℕ) (ts : List Token) (after : Place) (i : ℕ) → Some i ≡ loosest ts → expression_of room ts after ≡ at_operator expression_of room (take i ts) (drop i ts) after
expression_of-some room ts after i e = expression_of-step room ts after ∙ ap (λ o. cut_at expression_of room o ts after) (sym e)

pub expression_of-none : (room : ℕ) (ts : List Token) (after : Place) → None ≡ loosest ts → expression_of room ts after ≡ operand_of expression_of room ts after
expression_of-none room ts after e = expression_of-step room ts after ∙ ap (λ o. cut_at expression_of room o ts after) (sym e)
