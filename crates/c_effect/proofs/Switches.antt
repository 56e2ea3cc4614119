-- A switch of groups (ISO/IEC 9899:1999, 6.8.4.2), each of labels, a body and a `break`, with a default behind them: it does the body whose label is met, by a walk from that label on.
use Rattle.std.proofs.Common.{◌≡◌, Bool, true, false, List, [], ◌∷◌, ◌++◌, map, Option, Some, None, refl, sym, ap, ◌∙◌, append_assoc, append-nil, inl, inr, Ok, Err, ℤ, Result}
use Rattle.std.specs.Prelude.{if◌then◌else◌, ◌⊎◌}
use Rattle.std.specs.Ordering.{int_eq}
use Rattle.std.proofs.lemmas.Bool.{false≢true}
use Rattle.std.proofs.lemmas.List.{map-append}
use Rattle.c_text.specs.declared.place.Place.{Place}
use Rattle.c_text.specs.declared.token.IntType.{IntType}
use Rattle.c_tree.specs.declared.expression.Expr.{Expr}
use Rattle.c_tree.specs.declared.statement.Stmt.{Stmt}
use Rattle.c_tree.specs.declared.statement.StmtKind.TheVariants as s
use Rattle.c_tree.specs.declared.statement.SwitchPart.{SwitchPart}
use Rattle.c_tree.specs.declared.statement.SwitchPart.TheVariants as p
use Rattle.c_mem.specs.declared.objects.Object.{Object}
use Rattle.c_widths.specs.Conversion.{convert}
use Rattle.c_operators.specs.declared.value.TypedValue.{TypedValue}
use Rattle.c_operators.specs.Value.{typed}
use Rattle.c_operators.specs.Sign.{in_promoted}
use Rattle.cg_out.specs.Words.{or_else}
use Rattle.c_effect.specs.declared.state.Flow.{Flow}
use Rattle.c_effect.specs.declared.state.Flow.TheVariants.{Next, Broken, Returned}
use Rattle.c_effect.specs.declared.state.Stop.{Stop}
use Rattle.c_effect.specs.Locals.{Block, opened, closed}
use Rattle.c_effect.specs.World.{World}
use Rattle.c_effect.specs.Ending.{Effect, After, after, sequence}
use Rattle.c_effect.specs.Ending as ending
use Rattle.c_effect.specs.Choosing.{Part, effects, is_case, is_default, from_label, chosen, past_break, past_breaks, running}
use Rattle.c_effect.specs.StatementEffect.{effect, effects_of, part, parts_of}
use Rattle.c_effect.proofs.Equations.{stmt, label_part, statement_part, does-Break, does-Switch, part-Label, part-Statement}
use Rattle.c_effect.proofs.Expressions.{Gives}
use Rattle.c_effect.proofs.Statements.{Ends}
use Rattle.c_effect.proofs.Sequences.{sequence-append}

-- ---- the parts of such a switch

-- a body with the labels that lead to it
pub record Group : Type 0 where
  pub labels : List Expr
  pub body : List Stmt

abbrev pub label_parts : Place → List Expr → List SwitchPart
label_parts place [] = []
label_parts place (x ∷ xs) = p.Label (Some x) place ∷ label_parts place xs

abbrev pub body_parts : Place → List Stmt → List SwitchPart
body_parts place body = map p.Statement body ++ p.Statement (stmt place s.Break) ∷ []

-- the last body is the default's
abbrev pub switch_parts : Place → List Stmt → List Group → List SwitchPart
switch_parts place last [] = p.Label None place ∷ body_parts place last
switch_parts place last (g ∷ gs) = label_parts place g.labels ++ (body_parts place g.body ++ switch_parts place last gs)

-- ---- the body that is met

abbrev pub hit : (Option (Option Expr) → Bool) → List Expr → Bool
hit test [] = false
hit test (x ∷ xs) = if test (Some (Some x)) then true else hit test xs

-- of the first group with a label that passes the test, else the last body
abbrev pub met_body : (Option (Option Expr) → Bool) → List Stmt → List Group → List Stmt
met_body test last [] = last
met_body test last (g ∷ gs) = if hit test g.labels then g.body else met_body test last gs

-- a label that gives a number is tested by it, in the type of the switch
pub case-is : (w : World) (v : TypedValue) (locals : List Block) (objects : List Object) (label : Expr) (kind : IntType) (z : ℤ) → Gives w locals objects label kind z
    → is_case w v locals objects (Some (Some label)) ≡ int_eq (convert w.model v.kind z) v.value
case-is w v locals objects label kind z h = rw h.gives refl

-- ---- what the parts mean

labels_meant : List Expr → List Part
labels_meant [] = []
labels_meant (x ∷ xs) = label_part (Some x) ∷ labels_meant xs

plain : World → Stmt → Part
plain w x = statement_part (effect w x)

body_meant : World → Place → List Stmt → List Part
body_meant w place body = map (plain w) body ++ plain w (stmt place s.Break) ∷ []

switch_meant : World → Place → List Stmt → List Group → List Part
switch_meant w place last [] = label_part None ∷ (body_meant w place last ++ [])
switch_meant w place last (g ∷ gs) = labels_meant g.labels ++ (body_meant w place g.body ++ switch_meant w place last gs)

parts-labels : (w : World) (place : Place) (xs : List Expr) → parts_of w (label_parts place xs) ≡ labels_meant xs
unfolding labels_meant
parts-labels w place [] = refl
parts-labels w place (x ∷ xs) = rw (part-Label w (Some x) place, parts-labels w place xs) refl

parts-statements : (w : World) (body : List Stmt) → parts_of w (map p.Statement body) ≡ map (plain w) body
unfolding plain
parts-statements w [] = refl
parts-statements w (x ∷ xs) = rw (part-Statement w x, parts-statements w xs) refl

parts-body : (w : World) (place : Place) (body : List Stmt) → parts_of w (body_parts place body) ≡ body_meant w place body
unfolding body_meant plain
parts-body w place body = map-append (part w) (map p.Statement body) (p.Statement (stmt place s.Break) ∷ []) ∙ rw (parts-statements w body, part-Statement w (stmt place s.Break)) refl

parts-switch : (w : World) (place : Place) (last : List Stmt) (gs : List Group) → parts_of w (switch_parts place last gs) ≡ switch_meant w place last gs
unfolding switch_meant
parts-switch w place last [] = rw (part-Label w None place, parts-body w place last, append-nil (body_meant w place last)) refl
parts-switch w place last (g ∷ gs) =
    map-append (part w) (label_parts place g.labels) (body_parts place g.body ++ switch_parts place last gs)
    ∙ rw (map-append (part w) (body_parts place g.body) (switch_parts place last gs), parts-labels w place g.labels, parts-body w place g.body, parts-switch w place last gs) refl

-- ---- labels that are not met are passed over

tells : (b : Bool) → (b ≡ true) ⊎ (b ≡ false)
tells true = inl refl
tells false = inr refl

hit-first : (test : Option (Option Expr) → Bool) (x : Expr) (xs : List Expr) → test (Some (Some x)) ≡ true → hit test (x ∷ xs) ≡ true
hit-first test x xs a = rw a refl

hit-later : (test : Option (Option Expr) → Bool) (x : Expr) (xs : List Expr) → test (Some (Some x)) ≡ false → hit test (x ∷ xs) ≡ hit test xs
hit-later test x xs a = rw a refl

skip-labels : (test : Option (Option Expr) → Bool) (xs : List Expr) (rest : List Part) → hit test xs ≡ false → from_label test (labels_meant xs ++ rest) ≡ from_label test rest
unfolding labels_meant
skip-labels test [] rest h = refl
skip-labels test (x ∷ xs) rest h = elim (tells (test (Some (Some x)))) [
  | inl a ↦ absurd (false≢true (sym h ∙ hit-first test x xs a))
  | inr a ↦ rw a (skip-labels test xs rest (sym (hit-later test x xs a) ∙ h))
]

skip-statements : (w : World) (test : Option (Option Expr) → Bool) (body : List Stmt) (rest : List Part) → test None ≡ false → from_label test (map (plain w) body ++ rest) ≡ from_label test rest
unfolding plain
skip-statements w test [] rest h = refl
skip-statements w test (x ∷ xs) rest h = rw h (skip-statements w test xs rest h)

skip-body : (w : World) (place : Place) (test : Option (Option Expr) → Bool) (body : List Stmt) (rest : List Part) → test None ≡ false → from_label test (body_meant w place body ++ rest) ≡ from_label test rest
unfolding body_meant plain
skip-body w place test body rest h = rw (append_assoc (map (plain w) body) (plain w (stmt place s.Break) ∷ []) rest) (skip-statements w test body (plain w (stmt place s.Break) ∷ rest) h ∙ rw h refl)

-- ---- from the label that is met, through further labels to the body

record Met (test : Option (Option Expr) → Bool) (xs : List Expr) (rest : List Part) : Type 0 where
  further : List Expr
  is : from_label test (labels_meant xs ++ rest) ≡ Some (labels_meant further ++ rest)

met-first : (test : Option (Option Expr) → Bool) (x : Expr) (xs : List Expr) (rest : List Part) → test (Some (Some x)) ≡ true → Met test (x ∷ xs) rest
unfolding labels_meant
met-first test x xs rest a = record { further = x ∷ xs; is = rw a refl }

met-later : (test : Option (Option Expr) → Bool) (x : Expr) (xs : List Expr) (rest : List Part) → test (Some (Some x)) ≡ false → Met test xs rest → Met test (x ∷ xs) rest
unfolding labels_meant
met-later test x xs rest a r = record { further = r.further; is = rw a r.is }

meets : (test : Option (Option Expr) → Bool) (xs : List Expr) (rest : List Part) → hit test xs ≡ true → Met test xs rest
meets test [] rest h = absurd (false≢true h)
meets test (x ∷ xs) rest h = elim (tells (test (Some (Some x)))) [
  | inl a ↦ met-first test x xs rest a
  | inr a ↦ met-later test x xs rest a (meets test xs rest (sym (hit-later test x xs a) ∙ h))
]

falls : (xs : List Expr) (rest : List Part) (locals : List Block) (objects : List Object) → sequence (effects (labels_meant xs ++ rest)) locals objects ≡ sequence (effects rest) locals objects
unfolding labels_meant
falls [] rest locals objects = refl
falls (x ∷ xs) rest locals objects = falls xs rest locals objects

-- ---- the body, to its `break`

effects-body : (w : World) (body : List Stmt) → effects (map (plain w) body) ≡ effects_of w body
unfolding plain
effects-body w [] = refl
effects-body w (x ∷ xs) = ap (λ r. effect w x ∷ r) (effects-body w xs)

body-then : (w : World) (place : Place) (body : List Stmt) (rest : List Part) (locals : List Block) (objects : List Object)
    → sequence (effects (body_meant w place body ++ rest)) locals objects ≡ ending.then (sequence (effects_of w body) locals objects) (sequence (effect w (stmt place s.Break) ∷ effects rest))
unfolding body_meant plain
body-then w place body rest locals objects =
    rw (append_assoc (map (plain w) body) (plain w (stmt place s.Break) ∷ []) rest, map-append (λ (q : Part). q.effect) (map (plain w) body) (plain w (stmt place s.Break) ∷ rest), effects-body w body)
    (sequence-append (effects_of w body) (effect w (stmt place s.Break) ∷ effects rest) locals objects)

-- as a switch ends, in the block around it
abbrev outside : After → After
outside r = past_breaks (after r.flow (closed r.locals) r.objects)

past-body : (w : World) (place : Place) (rest : List Effect) (flow : Result Flow Stop) (left : List Block) (new : List Object)
    → outside (ending.then (after flow left new) (sequence (effect w (stmt place s.Break) ∷ rest))) ≡ after (past_break flow) (closed left) new
past-body w place rest (Ok Next) left new = rw (does-Break w place left new) refl
past-body w place rest (Ok Broken) left new = refl
past-body w place rest (Ok (Returned x)) left new = refl
past-body w place rest (Err x) left new = refl

runs-body : (w : World) (place : Place) (body : List Stmt) (rest : List Part) (locals left : List Block) (objects new : List Object) (flow : Result Flow Stop)
    → sequence (effects_of w body) (opened locals) objects ≡ after flow left new
    → running (Some (body_meant w place body ++ rest)) locals objects ≡ after (past_break flow) (closed left) new
runs-body w place body rest locals left objects new flow h = rw (body-then w place body rest (opened locals) objects, h) (past-body w place (effects rest) flow left new)

-- ---- the default

no-default : (xs : List Expr) → hit is_default xs ≡ false
no-default [] = refl
no-default (x ∷ xs) = no-default xs

default-found : (w : World) (place : Place) (last : List Stmt) (gs : List Group) → from_label is_default (switch_meant w place last gs) ≡ Some (switch_meant w place last [])
unfolding switch_meant
default-found w place last [] = refl
default-found w place last (g ∷ gs) =
    skip-labels is_default g.labels (body_meant w place g.body ++ switch_meant w place last gs) (no-default g.labels)
    ∙ skip-body w place is_default g.body (switch_meant w place last gs) refl
    ∙ default-found w place last gs

-- ---- the whole

none-met : (w : World) (place : Place) (test : Option (Option Expr) → Bool) (last : List Stmt) → test None ≡ false → test (Some None) ≡ false
    → from_label test (switch_meant w place last []) ≡ None
unfolding switch_meant
none-met w place test last n d = rw d (skip-body w place test last [] n)

runs-last : (w : World) (place : Place) (last : List Stmt) (locals left : List Block) (objects new : List Object) (flow : Result Flow Stop)
    → sequence (effects_of w last) (opened locals) objects ≡ after flow left new
    → running (Some (switch_meant w place last [])) locals objects ≡ after (past_break flow) (closed left) new
unfolding switch_meant
runs-last w place last locals left objects new flow h = runs-body w place last [] locals left objects new flow h

runs-labels : (further : List Expr) (rest : List Part) (locals : List Block) (objects : List Object) → running (Some (labels_meant further ++ rest)) locals objects ≡ running (Some rest) locals objects
runs-labels further rest locals objects = rw (falls further rest (opened locals) objects) refl

runs-group : (w : World) (place : Place) (test : Option (Option Expr) → Bool) (last : List Stmt) (g : Group) (gs : List Group) (locals left : List Block) (objects new : List Object) (flow : Result Flow Stop)
    → hit test g.labels ≡ true → sequence (effects_of w g.body) (opened locals) objects ≡ after flow left new
    → running (or_else (from_label test (switch_meant w place last (g ∷ gs))) (Some (switch_meant w place last []))) locals objects ≡ after (past_break flow) (closed left) new
unfolding switch_meant
runs-group w place test last g gs locals left objects new flow a does =
    let rest = body_meant w place g.body ++ switch_meant w place last gs in
    let m = meets test g.labels rest a in
    rw m.is (runs-labels m.further rest locals objects ∙ runs-body w place g.body (switch_meant w place last gs) locals left objects new flow does)

skip-group : (w : World) (place : Place) (test : Option (Option Expr) → Bool) (last : List Stmt) (g : Group) (gs : List Group) → test None ≡ false → hit test g.labels ≡ false
    → from_label test (switch_meant w place last (g ∷ gs)) ≡ from_label test (switch_meant w place last gs)
unfolding switch_meant
skip-group w place test last g gs n a =
    skip-labels test g.labels (body_meant w place g.body ++ switch_meant w place last gs) a ∙ skip-body w place test g.body (switch_meant w place last gs) n

group-met : (test : Option (Option Expr) → Bool) (last : List Stmt) (g : Group) (gs : List Group) → hit test g.labels ≡ true → met_body test last (g ∷ gs) ≡ g.body
group-met test last g gs a = rw a refl

group-passed : (test : Option (Option Expr) → Bool) (last : List Stmt) (g : Group) (gs : List Group) → hit test g.labels ≡ false → met_body test last (g ∷ gs) ≡ met_body test last gs
group-passed test last g gs a = rw a refl

runs-met : (w : World) (place : Place) (test : Option (Option Expr) → Bool) (last : List Stmt) (gs : List Group) (locals left : List Block) (objects new : List Object) (flow : Result Flow Stop)
    → test None ≡ false → test (Some None) ≡ false
    → sequence (effects_of w (met_body test last gs)) (opened locals) objects ≡ after flow left new
    → running (or_else (from_label test (switch_meant w place last gs)) (Some (switch_meant w place last []))) locals objects ≡ after (past_break flow) (closed left) new
runs-met w place test last [] locals left objects new flow n d does = rw (none-met w place test last n d) (runs-last w place last locals left objects new flow does)
runs-met w place test last (g ∷ gs) locals left objects new flow n d does = elim (tells (hit test g.labels)) [
  | inl a ↦ runs-group w place test last g gs locals left objects new flow a (rw (group-met test last g gs a) at does)
  | inr a ↦ rw (skip-group w place test last g gs n a) (runs-met w place test last gs locals left objects new flow n d (rw (group-passed test last g gs a) at does))
]

-- a switch does what the body that its value meets does
pub switch-does : (w : World) (place at : Place) (value : Expr) (kind : IntType) (z : ℤ) (last : List Stmt) (gs : List Group) (locals left : List Block) (objects new : List Object) (flow : Result Flow Stop)
    → Gives w locals objects value kind z
    → sequence (effects_of w (met_body (is_case w (in_promoted w.model (typed kind z)) locals objects) last gs)) (opened locals) objects ≡ after flow left new
    → Ends w locals objects (stmt place (s.Switch value (switch_parts at last gs))) (past_break flow) (closed left) new
unfolding chosen
switch-does w place at value kind z last gs locals left objects new flow h does =
    record {
      ends = does-Switch w place value (switch_parts at last gs) locals objects
          ∙ rw (h.gives, parts-switch w at last gs, default-found w at last gs)
          (runs-met w at (is_case w (in_promoted w.model (typed kind z)) locals objects) last gs locals left objects new flow refl refl does);
    }
