-- An operator's value, once that of its left side is there.
use Rattle.std.proofs.Common.{◌≡◌, List, Ok, sym, ap, ◌∙◌}
use Rattle.c_text.specs.declared.place.Place.{Place}
use Rattle.c_tree.specs.declared.expression.BinaryOp.{BinaryOp}
use Rattle.c_tree.specs.declared.expression.Expr.{Expr}
use Rattle.c_tree.specs.declared.expression.ExprKind.{ExprKind, fold-roll-ExprKind}
use Rattle.c_tree.specs.declared.expression.ExprKind.TheOpen.{ExprKind-F}
use Rattle.c_tree.specs.declared.expression.ExprKind.TheVariants as k
use Rattle.c_mem.specs.declared.objects.Object.{Object}
use Rattle.c_operators.specs.declared.value.Value.{Value}
use Rattle.c_effect.specs.Locals.{Block}
use Rattle.c_effect.specs.World.{World}
use Rattle.c_effect.specs.ExpressionValue.{Meaning, value, kind_value, kind_step, expr_step, integer, joined}
use Rattle.cg_out.specs.Words.{◌>>=◌}

module _ (w : World) where
  binary-is : (op : BinaryOp) (l r : Expr) → kind_value w (k.Binary op l r) ≡ kind_step w (ExprKind-F.Binary op (value w l) (value w r))
  binary-is op l r = ap (kind_value w) (sym (k.rolls-Binary op l r)) ∙ fold-roll-ExprKind (Place → Meaning) Meaning (kind_step w) expr_step (ExprKind-F.Binary op l r)

  pub binary-by : (kind : ExprKind) (op : BinaryOp) (l r : Expr) (place : Place) (locals : List Block) (objects : List Object) (a : Value)
      → kind ≡ k.Binary op l r → value w l locals objects ≡ Ok a
      → kind_value w kind place locals objects ≡ integer (joined w.model op place a (value w r) locals objects)
  binary-by kind op l r place locals objects a is h =
      ap (λ n. kind_value w n place locals objects) is
      ∙ ap (λ f. f place locals objects) (binary-is op l r)
      ∙ ap (λ x. integer (x >>= (λ b. joined w.model op place b (value w r) locals objects))) h
