-- Prefix operators and casts, which stand before an operand.
use Rattle.std.specs.Prelude.{List, [], ◌∷◌}
use Rattle.c_tree.specs.declared.expression.Expr.{Expr}
use Rattle.c_tree.specs.declared.expression.ExprKind.{ExprKind}
use Rattle.c_tree.specs.declared.expression.ExprKind.TheVariants as k
use Rattle.c_tree.specs.ExpressionCut.{node}
use Rattle.c_expression.specs.declared.prefixes.PrefixKind.{PrefixKind}
use Rattle.c_expression.specs.declared.prefixes.PrefixKind.TheVariants.{Sign, Cast}
use Rattle.c_expression.specs.declared.prefixes.PrefixOp.{PrefixOp}

abbrev pub kind_with : PrefixKind → Expr → ExprKind
kind_with (Sign op) e = k.Unary op e
kind_with (Cast to) e = k.Cast to e

-- an operand with what stands before it
abbrev pub with_prefix : PrefixOp → Expr → Expr
with_prefix p e = node p.place (kind_with p.kind e)

-- with all that stand before it, of which the first is the outermost
abbrev pub with_prefixes : List PrefixOp → Expr → Expr
with_prefixes [] e = e
with_prefixes (p ∷ ps) e = with_prefix p (with_prefixes ps e)
