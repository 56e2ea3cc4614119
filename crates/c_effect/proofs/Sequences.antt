-- Statements one after another (ISO/IEC 9899:1999, 6.8.2): the first, the rest, two lists joined, and a list that does a fold.
use Rattle.std.proofs.Common.{◌≡◌, List, [], ◌∷◌, ◌++◌, map, Option, refl, ap, ◌∙◌, Ok, Err, Result}
use Rattle.std.specs.List.{fold, flat_map, AllByRecursion}
use Rattle.c_tree.specs.declared.statement.Stmt.{Stmt}
use Rattle.c_mem.specs.declared.objects.Object.{Object}
use Rattle.c_operators.specs.declared.value.TypedValue.{TypedValue}
use Rattle.c_effect.specs.declared.state.Flow.{Flow}
use Rattle.c_effect.specs.declared.state.Flow.TheVariants.{Next, Broken, Returned}
use Rattle.c_effect.specs.declared.state.Stop.{Stop}
use Rattle.c_effect.specs.Locals.{Block}
use Rattle.c_effect.specs.World.{World}
use Rattle.c_effect.specs.Ending.{Effect, after, then, sequence}
use Rattle.c_effect.specs.StatementEffect.{effect, effects_of}
use Rattle.c_effect.proofs.Statements.{Ends}

-- ---- the first statement

module _ (w : World) (locals : List Block) (objects : List Object) where
  -- it goes on
  pub sequence-first : (x : Stmt) (xs : List Stmt) (left : List Block) (new : List Object) → Ends w locals objects x (Ok Next) left new
      → sequence (effects_of w (x ∷ xs)) locals objects ≡ sequence (effects_of w xs) left new
  sequence-first x xs left new h = rw h.ends refl

  -- it returns, and the rest does nothing
  pub sequence-last : (x : Stmt) (xs : List Stmt) (value : Option TypedValue) (left : List Block) (new : List Object) → Ends w locals objects x (Ok (Returned value)) left new
      → sequence (effects_of w (x ∷ xs)) locals objects ≡ after (Ok (Returned value)) left new
  sequence-last x xs value left new h = rw h.ends refl

  pub sequence-broken : (x : Stmt) (xs : List Stmt) (left : List Block) (new : List Object) → Ends w locals objects x (Ok Broken) left new
      → sequence (effects_of w (x ∷ xs)) locals objects ≡ after (Ok Broken) left new
  sequence-broken x xs left new h = rw h.ends refl

  -- it is undefined
  pub sequence-stops : (x : Stmt) (xs : List Stmt) (stop : Stop) (left : List Block) (new : List Object) → Ends w locals objects x (Err stop) left new
      → sequence (effects_of w (x ∷ xs)) locals objects ≡ after (Err stop) left new
  sequence-stops x xs stop left new h = rw h.ends refl

-- ---- two lists

pub effects-append : (w : World) (xs ys : List Stmt) → effects_of w (xs ++ ys) ≡ effects_of w xs ++ effects_of w ys
effects-append w [] ys = refl
effects-append w (x ∷ xs) ys = ap (λ rest. effect w x ∷ rest) (effects-append w xs ys)

then-assoc : (flow : Result Flow Stop) (locals : List Block) (objects : List Object) (f g h : Effect)
    → ((locals : List Block) (objects : List Object) → f locals objects ≡ then (g locals objects) h) → then (after flow locals objects) f ≡ then (then (after flow locals objects) g) h
then-assoc (Ok Next) locals objects f g h e = e locals objects
then-assoc (Ok Broken) locals objects f g h e = refl
then-assoc (Ok (Returned x)) locals objects f g h e = refl
then-assoc (Err x) locals objects f g h e = refl

pub sequence-append : (xs ys : List Effect) (locals : List Block) (objects : List Object) → sequence (xs ++ ys) locals objects ≡ then (sequence xs locals objects) (sequence ys)
sequence-append [] ys locals objects = refl
sequence-append (x ∷ xs) ys locals objects =
    let r = x locals objects in
    then-assoc r.flow r.locals r.objects (sequence (xs ++ ys)) (sequence xs) (sequence ys) (λ l o. sequence-append xs ys l o)

-- the first list goes on, and the second does the rest
pub sequence-through : (w : World) (xs ys : List Stmt) (locals left : List Block) (objects new : List Object) → sequence (effects_of w xs) locals objects ≡ after (Ok Next) left new
    → sequence (effects_of w (xs ++ ys)) locals objects ≡ sequence (effects_of w ys) left new
sequence-through w xs ys locals left objects new h = rw (effects-append w xs ys, sequence-append (effects_of w xs) (effects_of w ys) locals objects, h) refl

-- ---- a list that does a fold: each element changes a state by a step, and the state says what the locals hold and what the objects are

module _ {X S : Type 0} (w : World) (locals : S → List Block) (objects : S → List Object) (step : S → X → S) (Inv : S → Type 0) where
  -- an element is one statement
  pub record Does (stmt_of : X → Stmt) (x : X) : Type 0 where
    pub does : (state : S) → Inv state → effect w (stmt_of x) (locals state) (objects state) ≡ after (Ok Next) (locals (step state x)) (objects (step state x))
    pub keeps : (state : S) → Inv state → Inv (step state x)

  pub sequence-does : (stmt_of : X → Stmt) (xs : List X) → AllByRecursion (Does stmt_of) xs → (state : S) → Inv state
      → sequence (effects_of w (map stmt_of xs)) (locals state) (objects state) ≡ after (Ok Next) (locals (fold step state xs)) (objects (fold step state xs))
  sequence-does stmt_of [] h state ok = refl
  sequence-does stmt_of (x ∷ xs) h state ok = rw (h.0.does state ok) (sequence-does stmt_of xs h.1 (step state x) (h.0.keeps state ok))

  -- an element is several statements
  pub record Runs (stmts_of : X → List Stmt) (x : X) : Type 0 where
    pub runs : (state : S) → Inv state → sequence (effects_of w (stmts_of x)) (locals state) (objects state) ≡ after (Ok Next) (locals (step state x)) (objects (step state x))
    pub keeps : (state : S) → Inv state → Inv (step state x)

  pub sequence-runs : (stmts_of : X → List Stmt) (xs : List X) → AllByRecursion (Runs stmts_of) xs → (state : S) → Inv state
      → sequence (effects_of w (flat_map stmts_of xs)) (locals state) (objects state) ≡ after (Ok Next) (locals (fold step state xs)) (objects (fold step state xs))
  sequence-runs stmts_of [] h state ok = refl
  sequence-runs stmts_of (x ∷ xs) h state ok =
      sequence-through w (stmts_of x) (flat_map stmts_of xs) (locals state) (locals (step state x)) (objects state) (objects (step state x)) (h.0.runs state ok)
      ∙ sequence-runs stmts_of xs h.1 (step state x) (h.0.keeps state ok)
