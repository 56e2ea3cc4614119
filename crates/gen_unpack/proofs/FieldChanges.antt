-- An assignment that changes a field of a struct by an operator (ISO/IEC 9899:1999, 6.5.16.2).
use Rattle.std.proofs.Common.{◌≡◌, ℕ, ◌<◌, true, List, length, Some, ◌∙◌, refl, arith, Ok, ℤ}
use Rattle.std.specs.Prelude.{slice_get, slice_set, nat_lt}
use Rattle.std.proofs.lemmas.Bool.Decides.{nat_tests}
use Rattle.std.proofs.lemmas.Option.{slice_get_within}
use Rattle.c_text.specs.declared.place.Place.{Place}
use Rattle.c_text.specs.declared.token.IntType.{IntType}
use Rattle.c_tree.specs.declared.expression.BinaryOp.{BinaryOp}
use Rattle.c_tree.specs.declared.expression.Expr.{Expr}
use Rattle.c_tree.specs.declared.expression.ExprKind.TheVariants as k
use Rattle.c_tree.specs.declared.statement.AssignOp.{AssignOp}
use Rattle.c_tree.specs.declared.statement.StmtKind.TheVariants as s
use Rattle.c_mem.specs.declared.objects.Object.{Object}
use Rattle.c_mem.specs.declared.objects.Object.TheVariants.{Fields}
use Rattle.c_mem.specs.Cells.{CellsOf}
use Rattle.c_widths.specs.Conversion.{convert}
use Rattle.c_operators.specs.Value.{typed}
use Rattle.c_operators.specs.Operator.{operate}
use Rattle.c_effect.specs.declared.state.Flow.TheVariants.{Next}
use Rattle.c_effect.specs.Locals.{Block}
use Rattle.c_effect.specs.World.{World}
use Rattle.c_effect.specs.Storing.{operator_of}
use Rattle.c_effect.proofs.Equations.{node, stmt, does-Assign, assigns-Member}
use Rattle.c_effect.proofs.Expressions.{Gives, AtField}
use Rattle.c_effect.proofs.Statements.{Ends}

-- base->field op= right;
pub changes-member : (w : World) (locals : List Block) (objects : List Object) (p at : Place) (base field : List ℕ) (n : ℕ) (tag : List ℕ) (cells : CellsOf ℤ) (i : ℕ) (kind : IntType) (op : AssignOp) (by : BinaryOp)
    (right : Expr) (from to : IntType) (old z x y : ℤ)
    → operator_of op ≡ Some by → AtField w locals objects base field n tag cells i kind → slice_get cells i ≡ Some (Some old) → Gives w locals objects right from z
    → operate w.model by (typed kind old) (typed from z) ≡ Ok (typed to x) → convert w.model kind x ≡ y
    → Ends w locals objects (stmt p (s.Assign (node at (k.Member base field)) op right)) (Ok Next) locals (slice_set objects n (Fields tag (slice_set cells i (Some y))))
changes-member w locals objects p at base field n tag cells i kind op by right from to old z x y is f has h g c =
    let within : i < length cells = slice_get_within cells i (Some old) has in
    let lt : nat_lt i (length cells) ≡ true = grind (arith, nat_tests) in
    record { ends = does-Assign w p _ op right locals objects ∙ rw (assigns-Member w at base field op p right locals objects, h.gives, f.points, f.there, f.is, is, has, g, c, lt) refl }
