-- Calls (ISO/IEC 9899:1999, 6.5.2.2 and 6.9.1): from how the statements of a body end to what a call gives, from outside and within a unit.
use Rattle.std.proofs.Common.{◌≡◌, ℕ, List, [], ◌∷◌, map, Option, Some, None, refl, ap, ◌∙◌, Ok, Err, ℤ}
use Rattle.c_text.specs.declared.place.Place.{Place}
use Rattle.c_text.specs.declared.token.IntType.{IntType}
use Rattle.c_text.specs.declared.token.Spelled.{Spelled}
use Rattle.c_tree.specs.declared.expression.Callee.TheVariants.{Name}
use Rattle.c_tree.specs.declared.expression.Expr.{Expr}
use Rattle.c_tree.specs.declared.expression.ExprKind.TheVariants as k
use Rattle.c_tree.specs.declared.item.CType.TheVariants as c
use Rattle.c_tree.specs.declared.item.Function.{Function}
use Rattle.c_tree.specs.declared.item.Item.{Item}
use Rattle.c_tree.specs.declared.statement.Stmt.{Stmt}
use Rattle.c_tree.specs.declared.statement.StmtKind.TheVariants as s
use Rattle.c_mem.specs.declared.undefined.Undefined.TheVariants.{NoValue}
use Rattle.c_mem.specs.declared.objects.Object.{Object}
use Rattle.c_widths.specs.DataModel.{DataModel}
use Rattle.c_widths.specs.IntegerType.{type_of}
use Rattle.c_widths.specs.Conversion.{convert}
use Rattle.c_operators.specs.declared.value.TypedValue.{TypedValue}
use Rattle.c_operators.specs.Value.{typed}
use Rattle.cg_out.specs.Words.{look_up}
use Rattle.c_types.specs.Setting.{structs, definitions}
use Rattle.c_effect.specs.declared.state.Arg.{Arg}
use Rattle.c_effect.specs.declared.state.Flow.{Flow}
use Rattle.c_effect.specs.declared.state.Flow.TheVariants.{Next, Returned}
use Rattle.c_effect.specs.declared.state.Stop.{Stop}
use Rattle.c_effect.specs.Locals.{Block}
use Rattle.c_effect.specs.World.{World, world, no_calls, stop}
use Rattle.c_effect.specs.ExpressionValue.{values_of}
use Rattle.c_effect.specs.Ending.{after, sequence}
use Rattle.c_effect.specs.StatementEffect.{effects_of}
use Rattle.c_effect.specs.FunctionCall.{with_params, run_in, Ended, ended, unit_calls, unit_world, number_arg}
use Rattle.c_effect.proofs.Equations.{node, stmt, at-Call, does-Call}
use Rattle.c_effect.proofs.Expressions.{Gives}
use Rattle.c_effect.proofs.Statements.{Ends, ends-Return}
use Rattle.c_effect.proofs.Sequences.{sequence-last}

-- ---- a call by name, in any world

module _ (w : World) (locals : List Block) (objects : List Object) where
  pub record AllGive (args : List Expr) (xs : List TypedValue) : Type 0 where
    pub give : values_of w args locals objects ≡ Ok xs

  pub give-nil : AllGive [] []
  give-nil = record { give = refl }

  pub give-cons : (x : Expr) (args : List Expr) (kind : IntType) (z : ℤ) (xs : List TypedValue) → Gives w locals objects x kind z → AllGive args xs → AllGive (x ∷ args) (typed kind z ∷ xs)
  give-cons x args kind z xs h g = record { give = rw (h.gives, g.give) refl }

  pub gives-Call : (p : Place) (f : List ℕ) (args : List Expr) (xs : List TypedValue) (kind : IntType) (z : ℤ)
      → AllGive args xs → w.calls p f xs ≡ Ok (Some (typed kind z)) → Gives w locals objects (node p (k.Call (Name f) args)) kind z
  gives-Call p f args xs kind z h g = record { gives = at-Call w p (Name f) args locals objects ∙ rw (h.give, g) refl }

  -- its value, or none, is dropped
  pub ends-Call : (p : Place) (f : List ℕ) (args : List Expr) (xs : List TypedValue) (v : Option TypedValue)
      → AllGive args xs → w.calls p f xs ≡ Ok v → Ends w locals objects (stmt p (s.Call (Name f) args)) (Ok Next) locals objects
  ends-Call p f args xs v h g = record { ends = does-Call w p (Name f) args locals objects ∙ rw (h.give, g) refl }

-- ---- a body that is run: its statements end, and with them the call

-- the locals that a body begins with
abbrev pub parameters : DataModel → Function → List Arg → List Block
parameters m f args = with_params m f.params args [] ∷ []

module _ (w : World) (f : Function) (body : List Stmt) (args : List Arg) (objects new : List Object) (has : f.body ≡ Some body) where
  -- they return a value, which is converted
  pub runs-returned : (to : Spelled) (x : TypedValue) (left : List Block) → f.returns ≡ c.Integer to
      → sequence (effects_of w body) (parameters w.model f args) objects ≡ after (Ok (Returned (Some x))) left new
      → run_in w f args objects ≡ ended (Ok (Some (typed (type_of w.model to) (convert w.model (type_of w.model to) x.value)))) new
  unfolding run_in
  runs-returned to x left r h = rw (has, h, r) refl

  -- a function without a value comes to its end, by a `return` or not
  pub runs-through : (flow : Flow) (left : List Block) → f.returns ≡ c.Void
      → sequence (effects_of w body) (parameters w.model f args) objects ≡ after (Ok flow) left new
      → run_in w f args objects ≡ ended (Ok None) new
  unfolding run_in
  runs-through flow left r h = rw (has, h, r) refl

  -- a function with a value comes to its closing brace
  pub runs-out : (to : Spelled) (left : List Block) → f.returns ≡ c.Integer to
      → sequence (effects_of w body) (parameters w.model f args) objects ≡ after (Ok Next) left new
      → run_in w f args objects ≡ ended (Err (stop NoValue f.close)) new
  unfolding run_in
  runs-out to left r h = rw (has, h, r) refl

  -- a statement is undefined
  pub runs-undefined : (at : Stop) (left : List Block)
      → sequence (effects_of w body) (parameters w.model f args) objects ≡ after (Err at) left new
      → run_in w f args objects ≡ ended (Err at) new
  unfolding run_in
  runs-undefined at left h = rw (has, h) refl

-- a body that is one `return x;`
pub runs-return : (w : World) (f : Function) (p : Place) (x : Expr) (args : List Arg) (objects : List Object) (to : Spelled) (kind : IntType) (z y : ℤ)
    → f.body ≡ Some (stmt p (s.Return (Some x)) ∷ []) → f.returns ≡ c.Integer to
    → Gives w (parameters w.model f args) objects x kind z → convert w.model (type_of w.model to) z ≡ y
    → run_in w f args objects ≡ ended (Ok (Some (typed (type_of w.model to) y))) objects
runs-return w f p x args objects to kind z y has r h e =
    runs-returned w f _ args objects objects has to (typed kind z) (parameters w.model f args) r
    (sequence-last w (parameters w.model f args) objects _ [] (Some (typed kind z)) _ objects (ends-Return w (parameters w.model f args) objects p x kind z h))
    ∙ rw e refl

-- ---- calls of a unit's own functions: without objects, and in a world where they call nothing

pub calls-defined : (m : DataModel) (items : List Item) (p : Place) (name : List ℕ) (args : List TypedValue) (f : Function) (v : Option TypedValue) (left : List Object)
    → look_up name (definitions items) ≡ Some f → run_in (world m (structs items) no_calls) f (map number_arg args) [] ≡ ended (Ok v) left
    → unit_calls m items p name args ≡ Ok v
unfolding unit_calls
calls-defined m items p name args f v left d h = rw d (ap Ended.gives h)

-- such a call in an expression
pub gives-call-of : (m : DataModel) (items : List Item) (locals : List Block) (objects left : List Object) (p : Place) (name : List ℕ) (args : List Expr) (xs : List TypedValue) (f : Function) (kind : IntType) (z : ℤ)
    → look_up name (definitions items) ≡ Some f → AllGive (unit_world m items) locals objects args xs
    → run_in (world m (structs items) no_calls) f (map number_arg xs) [] ≡ ended (Ok (Some (typed kind z))) left
    → Gives (unit_world m items) locals objects (node p (k.Call (Name name) args)) kind z
gives-call-of m items locals objects left p name args xs f kind z d given h =
    gives-Call (unit_world m items) locals objects p name args xs kind z given (calls-defined m items p name xs f (Some (typed kind z)) left d h)
