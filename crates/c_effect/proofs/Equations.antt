-- What each form of expressions, of statements and of parts of a switch means, in a world, at a place, locals and objects (ISO/IEC 9899:1999, 6.5 and 6.8).
use Rattle.std.proofs.Common.{◌≡◌, ℕ, List, Option, Some, None, refl, sym, ap, ◌∙◌, Ok}
use Rattle.c_text.specs.declared.place.Place.{Place}
use Rattle.c_text.specs.declared.token.Constant.{Constant}
use Rattle.c_text.specs.declared.token.Spelled.{Spelled}
use Rattle.c_tree.specs.declared.expression.Callee.{Callee}
use Rattle.c_tree.specs.declared.expression.Expr.{Expr, fold_out-Expr}
use Rattle.c_tree.specs.declared.expression.ExprKind.{ExprKind, fold-roll-ExprKind}
use Rattle.c_tree.specs.declared.expression.ExprKind.TheOpen.{ExprKind-F}
use Rattle.c_tree.specs.declared.expression.ExprKind.TheVariants as k
use Rattle.c_tree.specs.declared.expression.UnaryOp.{UnaryOp}
use Rattle.c_tree.specs.declared.expression.BinaryOp.{BinaryOp}
use Rattle.c_tree.specs.declared.statement.Stmt.{Stmt, fold_out-Stmt}
use Rattle.c_tree.specs.declared.statement.StmtKind.{StmtKind, fold-roll-StmtKind}
use Rattle.c_tree.specs.declared.statement.StmtKind.TheOpen.{StmtKind-F}
use Rattle.c_tree.specs.declared.statement.StmtKind.TheVariants as s
use Rattle.c_tree.specs.declared.statement.SwitchPart.{SwitchPart, SwitchPart-F, fold-roll-SwitchPart}
use Rattle.c_tree.specs.declared.statement.SwitchPart.TheVariants as p
use Rattle.c_tree.specs.declared.statement.AssignOp.{AssignOp}
use Rattle.c_mem.specs.declared.objects.Object.{Object}
use Rattle.c_mem.specs.declared.objects.Pointer.TheVariants.{Null}
use Rattle.c_operators.specs.declared.value.Value.TheVariants.{Integer, Pointer as pointer}
use Rattle.c_operators.specs.Value.{typed, number_of}
use Rattle.c_operators.specs.Sign.{signed, constant}
use Rattle.c_widths.specs.IntegerType.{type_of}
use Rattle.c_widths.specs.Conversion.{convert}
use Rattle.cg_out.specs.Words.{◌>>=◌}
use Rattle.c_effect.specs.declared.state.Flow.TheVariants.{Next, Broken}
use Rattle.c_effect.specs.Locals.{Block, read_local}
use Rattle.c_effect.specs.World.{World, shown_at}
use Rattle.c_effect.specs.Loading.{element, member}
use Rattle.c_effect.specs.ExpressionValue as v
use Rattle.c_effect.specs.Ending.{Effect, after, goes_on, sequence, in_block}
use Rattle.c_effect.specs.Storing.{operator_of, into_local, into_element, into_member, assignment, declaration}
use Rattle.c_effect.specs.Choosing.{Part, branch, switch}
use Rattle.c_effect.specs.StatementEffect as e

abbrev pub node : Place → ExprKind → Expr
node place kind = record { place = place; kind = kind }

abbrev pub stmt : Place → StmtKind → Stmt
stmt place kind = record { place = place; kind = kind }

-- a label does nothing
abbrev pub label_part : Option Expr → Part
label_part value = record { label = Some value; effect = goes_on }

abbrev pub statement_part : Effect → Part
statement_part effect = record { label = None; effect = effect }

module _ (w : World) where
  -- the meaning of the kind, at the place
  value-is : (x : Expr) → v.value w x ≡ v.kind_value w x.kind x.place
  value-is x = fold_out-Expr (Place → v.Meaning) v.Meaning (v.kind_step w) v.expr_step x

  effect-is : (x : Stmt) → e.effect w x ≡ e.kind_effect w x.kind x.place
  effect-is x = fold_out-Stmt (Place → Effect) Part Effect (e.kind_step w) e.part_step e.stmt_step x

  -- ---- expressions

  pub at-Constant : (place : Place) (c : Constant) (locals : List Block) (objects : List Object) → v.value w (node place (k.Constant c)) locals objects ≡ v.integer (shown_at place (constant w.model c))
  at-Constant place c locals objects =
      ap (λ f. f locals objects) (value-is (node place (k.Constant c)))
      ∙ ap (λ f. f place locals objects) (ap (v.kind_value w) (sym (k.rolls-Constant c)) ∙ fold-roll-ExprKind (Place → v.Meaning) v.Meaning (v.kind_step w) v.expr_step (ExprKind-F.Constant c))

  pub at-Name : (place : Place) (name : List ℕ) (locals : List Block) (objects : List Object) → v.value w (node place (k.Name name)) locals objects ≡ shown_at place (read_local name locals)
  at-Name place name locals objects =
      ap (λ f. f locals objects) (value-is (node place (k.Name name)))
      ∙ ap (λ f. f place locals objects) (ap (v.kind_value w) (sym (k.rolls-Name name)) ∙ fold-roll-ExprKind (Place → v.Meaning) v.Meaning (v.kind_step w) v.expr_step (ExprKind-F.Name name))

  pub at-Null : (place : Place) (locals : List Block) (objects : List Object) → v.value w (node place k.Null) locals objects ≡ Ok (pointer Null)
  at-Null place locals objects =
      ap (λ f. f locals objects) (value-is (node place k.Null))
      ∙ ap (λ f. f place locals objects) (ap (v.kind_value w) (sym k.rolls-Null) ∙ fold-roll-ExprKind (Place → v.Meaning) v.Meaning (v.kind_step w) v.expr_step ExprKind-F.Null)

  pub at-Member : (place : Place) (base : List ℕ) (field : List ℕ) (locals : List Block) (objects : List Object) → v.value w (node place (k.Member base field)) locals objects ≡ v.integer (shown_at place (member w base field locals objects))
  at-Member place base field locals objects =
      ap (λ f. f locals objects) (value-is (node place (k.Member base field)))
      ∙ ap (λ f. f place locals objects) (ap (v.kind_value w) (sym (k.rolls-Member base field)) ∙ fold-roll-ExprKind (Place → v.Meaning) v.Meaning (v.kind_step w) v.expr_step (ExprKind-F.Member base field))

  pub at-Element : (place : Place) (base : List ℕ) (index : Expr) (locals : List Block) (objects : List Object) → v.value w (node place (k.Element base index)) locals objects ≡ (v.value w index locals objects >>= (λ i. v.integer (shown_at place (element base (number_of i).value locals objects))))
  at-Element place base index locals objects =
      ap (λ f. f locals objects) (value-is (node place (k.Element base index)))
      ∙ ap (λ f. f place locals objects) (ap (v.kind_value w) (sym (k.rolls-Element base index)) ∙ fold-roll-ExprKind (Place → v.Meaning) v.Meaning (v.kind_step w) v.expr_step (ExprKind-F.Element base index))

  pub at-Call : (place : Place) (function : Callee) (args : List Expr) (locals : List Block) (objects : List Object) → v.value w (node place (k.Call function args)) locals objects ≡ (v.values_of w args locals objects >>= (λ xs. v.called w place function xs >>= (λ y. v.integer (v.given place y))))
  at-Call place function args locals objects =
      ap (λ f. f locals objects) (value-is (node place (k.Call function args)))
      ∙ ap (λ f. f place locals objects) (ap (v.kind_value w) (sym (k.rolls-Call function args)) ∙ fold-roll-ExprKind (Place → v.Meaning) v.Meaning (v.kind_step w) v.expr_step (ExprKind-F.Call function args))

  pub at-Unary : (place : Place) (op : UnaryOp) (x : Expr) (locals : List Block) (objects : List Object) → v.value w (node place (k.Unary op x)) locals objects ≡ (v.value w x locals objects >>= (λ a. v.integer (shown_at place (signed w.model op (number_of a)))))
  at-Unary place op x locals objects =
      ap (λ f. f locals objects) (value-is (node place (k.Unary op x)))
      ∙ ap (λ f. f place locals objects) (ap (v.kind_value w) (sym (k.rolls-Unary op x)) ∙ fold-roll-ExprKind (Place → v.Meaning) v.Meaning (v.kind_step w) v.expr_step (ExprKind-F.Unary op x))

  pub at-Cast : (place : Place) (to : Spelled) (x : Expr) (locals : List Block) (objects : List Object) → v.value w (node place (k.Cast to x)) locals objects ≡ (v.value w x locals objects >>= (λ a. Ok (Integer (typed (type_of w.model to) (convert w.model (type_of w.model to) (number_of a).value)))))
  at-Cast place to x locals objects =
      ap (λ f. f locals objects) (value-is (node place (k.Cast to x)))
      ∙ ap (λ f. f place locals objects) (ap (v.kind_value w) (sym (k.rolls-Cast to x)) ∙ fold-roll-ExprKind (Place → v.Meaning) v.Meaning (v.kind_step w) v.expr_step (ExprKind-F.Cast to x))

  pub at-Binary : (place : Place) (op : BinaryOp) (left : Expr) (right : Expr) (locals : List Block) (objects : List Object) → v.value w (node place (k.Binary op left right)) locals objects ≡ v.integer (v.binary w.model op place (v.value w left) (v.value w right) locals objects)
  at-Binary place op left right locals objects =
      ap (λ f. f locals objects) (value-is (node place (k.Binary op left right)))
      ∙ ap (λ f. f place locals objects) (ap (v.kind_value w) (sym (k.rolls-Binary op left right)) ∙ fold-roll-ExprKind (Place → v.Meaning) v.Meaning (v.kind_step w) v.expr_step (ExprKind-F.Binary op left right))

  pub at-Bracket : (place : Place) (x : Expr) (locals : List Block) (objects : List Object) → v.value w (node place (k.Bracket x)) locals objects ≡ v.value w x locals objects
  at-Bracket place x locals objects =
      ap (λ f. f locals objects) (value-is (node place (k.Bracket x)))
      ∙ ap (λ f. f place locals objects) (ap (v.kind_value w) (sym (k.rolls-Bracket x)) ∙ fold-roll-ExprKind (Place → v.Meaning) v.Meaning (v.kind_step w) v.expr_step (ExprKind-F.Bracket x))

  -- ---- statements

  pub does-Declare : (place : Place) (kind : Spelled) (name : List ℕ) (value : Option Expr) (locals : List Block) (objects : List Object) → e.effect w (stmt place (s.Declare kind name value)) locals objects ≡ declaration w (type_of w.model kind) name value locals objects
  does-Declare place kind name value locals objects =
      ap (λ f. f locals objects) (effect-is (stmt place (s.Declare kind name value)))
      ∙ ap (λ f. f place locals objects) (ap (e.kind_effect w) (sym (s.rolls-Declare kind name value)) ∙ fold-roll-StmtKind (Place → Effect) Part Effect (e.kind_step w) e.part_step e.stmt_step (StmtKind-F.Declare kind name value))

  pub does-Assign : (place : Place) (target : Expr) (op : AssignOp) (value : Expr) (locals : List Block) (objects : List Object) → e.effect w (stmt place (s.Assign target op value)) locals objects ≡ assignment w target op place value locals objects
  does-Assign place target op value locals objects =
      ap (λ f. f locals objects) (effect-is (stmt place (s.Assign target op value)))
      ∙ ap (λ f. f place locals objects) (ap (e.kind_effect w) (sym (s.rolls-Assign target op value)) ∙ fold-roll-StmtKind (Place → Effect) Part Effect (e.kind_step w) e.part_step e.stmt_step (StmtKind-F.Assign target op value))

  pub does-Call : (place : Place) (function : Callee) (args : List Expr) (locals : List Block) (objects : List Object) → e.effect w (stmt place (s.Call function args)) locals objects ≡ e.call_of w place function args locals objects
  does-Call place function args locals objects =
      ap (λ f. f locals objects) (effect-is (stmt place (s.Call function args)))
      ∙ ap (λ f. f place locals objects) (ap (e.kind_effect w) (sym (s.rolls-Call function args)) ∙ fold-roll-StmtKind (Place → Effect) Part Effect (e.kind_step w) e.part_step e.stmt_step (StmtKind-F.Call function args))

  pub does-Discard : (place : Place) (name : List ℕ) (locals : List Block) (objects : List Object) → e.effect w (stmt place (s.Discard name)) locals objects ≡ e.discarded name place locals objects
  does-Discard place name locals objects =
      ap (λ f. f locals objects) (effect-is (stmt place (s.Discard name)))
      ∙ ap (λ f. f place locals objects) (ap (e.kind_effect w) (sym (s.rolls-Discard name)) ∙ fold-roll-StmtKind (Place → Effect) Part Effect (e.kind_step w) e.part_step e.stmt_step (StmtKind-F.Discard name))

  pub does-Empty : (place : Place) (locals : List Block) (objects : List Object) → e.effect w (stmt place s.Empty) locals objects ≡ after (Ok Next) locals objects
  does-Empty place locals objects =
      ap (λ f. f locals objects) (effect-is (stmt place s.Empty))
      ∙ ap (λ f. f place locals objects) (ap (e.kind_effect w) (sym s.rolls-Empty) ∙ fold-roll-StmtKind (Place → Effect) Part Effect (e.kind_step w) e.part_step e.stmt_step StmtKind-F.Empty)

  pub does-Block : (place : Place) (list : List Stmt) (locals : List Block) (objects : List Object) → e.effect w (stmt place (s.Block list)) locals objects ≡ in_block (sequence (e.effects_of w list)) locals objects
  does-Block place list locals objects =
      ap (λ f. f locals objects) (effect-is (stmt place (s.Block list)))
      ∙ ap (λ f. f place locals objects) (ap (e.kind_effect w) (sym (s.rolls-Block list)) ∙ fold-roll-StmtKind (Place → Effect) Part Effect (e.kind_step w) e.part_step e.stmt_step (StmtKind-F.Block list))

  pub does-If : (place : Place) (condition : Expr) (taken : Stmt) (locals : List Block) (objects : List Object) → e.effect w (stmt place (s.If condition taken None)) locals objects ≡ branch w condition (e.effect w taken) None locals objects
  does-If place condition taken locals objects =
      ap (λ f. f locals objects) (effect-is (stmt place (s.If condition taken None)))
      ∙ ap (λ f. f place locals objects) (ap (e.kind_effect w) (sym (s.rolls-If condition taken None)) ∙ fold-roll-StmtKind (Place → Effect) Part Effect (e.kind_step w) e.part_step e.stmt_step (StmtKind-F.If condition taken None))

  pub does-IfElse : (place : Place) (condition : Expr) (taken : Stmt) (other : Stmt) (locals : List Block) (objects : List Object) → e.effect w (stmt place (s.If condition taken (Some other))) locals objects ≡ branch w condition (e.effect w taken) (Some (e.effect w other)) locals objects
  does-IfElse place condition taken other locals objects =
      ap (λ f. f locals objects) (effect-is (stmt place (s.If condition taken (Some other))))
      ∙ ap (λ f. f place locals objects) (ap (e.kind_effect w) (sym (s.rolls-If condition taken (Some other))) ∙ fold-roll-StmtKind (Place → Effect) Part Effect (e.kind_step w) e.part_step e.stmt_step (StmtKind-F.If condition taken (Some other)))

  pub does-Return : (place : Place) (value : Option Expr) (locals : List Block) (objects : List Object) → e.effect w (stmt place (s.Return value)) locals objects ≡ e.returned w value locals objects
  does-Return place value locals objects =
      ap (λ f. f locals objects) (effect-is (stmt place (s.Return value)))
      ∙ ap (λ f. f place locals objects) (ap (e.kind_effect w) (sym (s.rolls-Return value)) ∙ fold-roll-StmtKind (Place → Effect) Part Effect (e.kind_step w) e.part_step e.stmt_step (StmtKind-F.Return value))

  pub does-Break : (place : Place) (locals : List Block) (objects : List Object) → e.effect w (stmt place s.Break) locals objects ≡ after (Ok Broken) locals objects
  does-Break place locals objects =
      ap (λ f. f locals objects) (effect-is (stmt place s.Break))
      ∙ ap (λ f. f place locals objects) (ap (e.kind_effect w) (sym s.rolls-Break) ∙ fold-roll-StmtKind (Place → Effect) Part Effect (e.kind_step w) e.part_step e.stmt_step StmtKind-F.Break)

  pub does-Switch : (place : Place) (value : Expr) (parts : List SwitchPart) (locals : List Block) (objects : List Object) → e.effect w (stmt place (s.Switch value parts)) locals objects ≡ switch w value (e.parts_of w parts) locals objects
  does-Switch place value parts locals objects =
      ap (λ f. f locals objects) (effect-is (stmt place (s.Switch value parts)))
      ∙ ap (λ f. f place locals objects) (ap (e.kind_effect w) (sym (s.rolls-Switch value parts)) ∙ fold-roll-StmtKind (Place → Effect) Part Effect (e.kind_step w) e.part_step e.stmt_step (StmtKind-F.Switch value parts))

  -- ---- assignments, by their targets

  pub assigns-Name : (at : Place) (name : List ℕ) (op : AssignOp) (place : Place) (value : Expr) (locals : List Block) (objects : List Object)
      → assignment w (node at (k.Name name)) op place value locals objects ≡ into_local w name at (operator_of op) place value locals objects
  unfolding assignment
  assigns-Name at name op place value locals objects = rw (k.outs-Name name) refl

  pub assigns-Element : (at : Place) (base : List ℕ) (index : Expr) (op : AssignOp) (place : Place) (value : Expr) (locals : List Block) (objects : List Object)
      → assignment w (node at (k.Element base index)) op place value locals objects ≡ into_element w base index at (operator_of op) place value locals objects
  unfolding assignment
  assigns-Element at base index op place value locals objects = rw (k.outs-Element base index) refl

  pub assigns-Member : (at : Place) (base field : List ℕ) (op : AssignOp) (place : Place) (value : Expr) (locals : List Block) (objects : List Object)
      → assignment w (node at (k.Member base field)) op place value locals objects ≡ into_member w base field at (operator_of op) place value locals objects
  unfolding assignment
  assigns-Member at base field op place value locals objects = rw (k.outs-Member base field) refl

  -- ---- parts of a switch

  pub part-Label : (value : Option Expr) (place : Place) → e.part w (p.Label value place) ≡ label_part value
  part-Label value place = ap (e.part w) (sym (p.rolls-Label value place)) ∙ fold-roll-SwitchPart (Place → Effect) Part Effect (e.kind_step w) e.part_step e.stmt_step (SwitchPart-F.Label value place)

  pub part-Statement : (x : Stmt) → e.part w (p.Statement x) ≡ statement_part (e.effect w x)
  part-Statement x = ap (e.part w) (sym (p.rolls-Statement x)) ∙ fold-roll-SwitchPart (Place → Effect) Part Effect (e.kind_step w) e.part_step e.stmt_step (SwitchPart-F.Statement x)

pub ruleset values = (at-Constant, at-Name, at-Null, at-Member, at-Element, at-Call, at-Unary, at-Cast, at-Binary, at-Bracket)

pub ruleset effects = (does-Declare, does-Assign, does-Call, does-Discard, does-Empty, does-Block, does-If, does-IfElse, does-Return, does-Break, does-Switch)

-- all of them
pub ruleset meanings = (values, effects, assigns-Name, assigns-Element, assigns-Member, part-Label, part-Statement)
