-- Pointers that are compared (ISO/IEC 9899:1999, 6.5.9): the null pointer equals itself alone, pointers to objects are equal where the objects are one, and a pointer to no object has no value to compare.
use Rattle.std.specs.Prelude.{Bool, true, false, not, ◌==◌, Result, Ok, Err}
use Rattle.c_tree.specs.declared.expression.BinaryOp.{BinaryOp}
use Rattle.c_tree.specs.declared.expression.BinaryOp.TheVariants.{Equal, NotEqual}
use Rattle.c_mem.specs.declared.undefined.Undefined.{Undefined}
use Rattle.c_mem.specs.declared.undefined.Undefined.TheVariants.{OutOfBounds, Indeterminate}
use Rattle.c_mem.specs.declared.objects.Pointer.{Pointer}
use Rattle.c_mem.specs.declared.objects.Pointer.TheVariants.{Null, Stray, At}
use Rattle.c_operators.specs.Value.{Computed, truth_value}

abbrev pub are_equal : Pointer → Pointer → Result Bool Undefined
are_equal Stray q = Err OutOfBounds
are_equal p Stray = Err OutOfBounds
are_equal Null Null = Ok true
are_equal (At m) (At n) = Ok (m == n)
are_equal p q = Ok false

-- no unit without a fault has another operator between pointers
abbrev pub by : BinaryOp → Bool → Computed
by Equal equal = Ok (truth_value equal)
by NotEqual equal = Ok (truth_value (not equal))
by other equal = Err Indeterminate

abbrev pub found : BinaryOp → Result Bool Undefined → Computed
found op (Ok equal) = by op equal
found op (Err kind) = Err kind

abbrev pub compared : BinaryOp → Pointer → Pointer → Computed
compared op p q = found op (are_equal p q)
