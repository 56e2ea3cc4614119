-- A pointer of a local that is compared with NULL (ISO/IEC 9899:1999, 6.5.9).
use Rattle.std.proofs.Common.{◌≡◌, ℕ, false, List, ◌∙◌, refl, Ok, Err, pos}
use Rattle.c_text.specs.declared.place.Place.{Place}
use Rattle.c_text.specs.declared.token.IntType.TheVariants as t
use Rattle.c_tree.specs.declared.expression.Expr.{Expr}
use Rattle.c_tree.specs.declared.expression.ExprKind.TheVariants as k
use Rattle.c_tree.specs.declared.expression.BinaryOp.{BinaryOp}
use Rattle.c_tree.specs.declared.expression.BinaryOp.TheVariants as o
use Rattle.c_mem.specs.declared.undefined.Undefined.TheVariants.{OutOfBounds}
use Rattle.c_mem.specs.declared.objects.Object.{Object}
use Rattle.c_mem.specs.declared.objects.Pointer.{Pointer}
use Rattle.c_mem.specs.declared.objects.Pointer.TheVariants.{Null, Stray, At}
use Rattle.c_operators.specs.declared.value.Value.TheVariants.{Pointer as pointer}
use Rattle.c_operators.specs.PointerEquality.{compared}
use Rattle.c_effect.specs.Locals.{Block, read_local}
use Rattle.c_effect.specs.World.{World, stop, shown_at}
use Rattle.c_effect.specs.ExpressionValue.{value, integer, is_logical}
use Rattle.c_effect.proofs.Equations.{node, at-Binary, at-Name, at-Null}
use Rattle.c_effect.proofs.Expressions.{Gives}

module _ (w : World) (locals : List Block) (objects : List Object) (p q r : Place) (name : List ℕ) where
  -- `name == NULL`, and the same with another operator
  abbrev pub beside_null : BinaryOp → Expr
  beside_null op = node p (k.Binary op (node q (k.Name name)) (node r k.Null))

  pub compares-null : (op : BinaryOp) (at : Pointer) → is_logical op ≡ false → read_local name locals ≡ Ok (pointer at)
      → value w (beside_null op) locals objects ≡ integer (shown_at p (compared op at Null))
  compares-null op at plain h = at-Binary w p op _ _ locals objects ∙ rw (at-Name w q name locals objects, at-Null w r locals objects, h, plain) refl

  pub null-is-null : read_local name locals ≡ Ok (pointer Null) → Gives w locals objects (beside_null o.Equal) t.Int (pos 1)
  null-is-null h = record { gives = compares-null o.Equal Null refl h }

  pub object-is-not-null : (n : ℕ) → read_local name locals ≡ Ok (pointer (At n)) → Gives w locals objects (beside_null o.Equal) t.Int (pos 0)
  object-is-not-null n h = record { gives = compares-null o.Equal (At n) refl h }

  pub stray-stops : read_local name locals ≡ Ok (pointer Stray) → value w (beside_null o.Equal) locals objects ≡ Err (stop OutOfBounds p)
  stray-stops h = compares-null o.Equal Stray refl h
