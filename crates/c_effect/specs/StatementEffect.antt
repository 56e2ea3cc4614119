-- The effect of a statement (ISO/IEC 9899:1999, 6.8) on locals and objects.
use Rattle.std.specs.Prelude.{ℕ, List, map, Option, Some, None, Ok}
use Rattle.c_text.specs.declared.place.Place.{Place}
use Rattle.c_tree.specs.declared.expression.Callee.{Callee}
use Rattle.c_tree.specs.declared.expression.Callee.TheVariants.{Name, Memset}
use Rattle.c_tree.specs.declared.expression.Expr.{Expr}
use Rattle.c_tree.specs.declared.statement.Stmt.{Stmt, Stmt-F, fold-Stmt}
use Rattle.c_tree.specs.declared.statement.StmtKind.{StmtKind, fold-StmtKind}
use Rattle.c_tree.specs.declared.statement.StmtKind.TheOpen.{StmtKind-F}
use Rattle.c_tree.specs.declared.statement.SwitchPart.{SwitchPart, SwitchPart-F, fold-SwitchPart}
use Rattle.c_widths.specs.IntegerType.{type_of}
use Rattle.c_effect.specs.declared.state.Flow.TheVariants.{Broken, Returned}
use Rattle.c_effect.specs.Locals.{read_local}
use Rattle.c_effect.specs.World.{World, shown_at}
use Rattle.c_effect.specs.ExpressionValue.{number, values_of}
use Rattle.c_effect.specs.Ending.{Effect, after, goes_on, sequence, in_block, with_value}
use Rattle.c_effect.specs.Storing.{assignment, declaration, memset}
use Rattle.c_effect.specs.Choosing.{Part, branch, switch}

-- a call whose value is dropped
abbrev pub called : World → Place → List ℕ → List Expr → Effect
called w place function args locals objects =
    with_value (values_of w args locals objects) locals objects (λ xs.
    with_value (w.calls place function xs) locals objects (λ v. goes_on locals objects))

abbrev pub call_of : World → Place → Callee → List Expr → Effect
call_of w place (Name function) args = called w place function args
call_of w place Memset args = memset w place args

-- `(void)name;` reads an integer
abbrev pub discarded : List ℕ → Place → Effect
discarded name place locals objects =
    with_value (shown_at place (read_local name locals)) locals objects (λ v. goes_on locals objects)

abbrev pub returned : World → Option Expr → Effect
returned w None = λ locals objects. after (Ok (Returned None)) locals objects
returned w (Some e) = λ locals objects.
    with_value (number w e locals objects) locals objects (λ v. after (Ok (Returned (Some v))) locals objects)

abbrev pub broken : Effect
broken locals objects = after (Ok Broken) locals objects

abbrev pub kind_step : World → StmtKind-F (Place → Effect) Part Effect → Place → Effect
kind_step w (StmtKind-F.Declare kind name e) place = declaration w (type_of w.model kind) name e
kind_step w (StmtKind-F.Assign target op e) place = assignment w target op place e
kind_step w (StmtKind-F.Call function args) place = call_of w place function args
kind_step w (StmtKind-F.Discard name) place = discarded name place
kind_step w StmtKind-F.Empty place = goes_on
kind_step w (StmtKind-F.Block list) place = in_block (sequence list)
kind_step w (StmtKind-F.If condition taken other) place = branch w condition taken other
kind_step w (StmtKind-F.Return e) place = returned w e
kind_step w StmtKind-F.Break place = broken
kind_step w (StmtKind-F.Switch e parts) place = switch w e parts

-- a label does nothing
abbrev pub part_step : SwitchPart-F (Place → Effect) Part Effect → Part
part_step (SwitchPart-F.Label e place) = record { label = Some e; effect = goes_on }
part_step (SwitchPart-F.Statement s) = record { label = None; effect = s }

abbrev pub stmt_step : Stmt-F (Place → Effect) Part Effect → Effect
stmt_step s = s.kind s.place

abbrev pub effect : World → Stmt → Effect
effect w = fold-Stmt (Place → Effect) Part Effect (kind_step w) part_step stmt_step

abbrev pub kind_effect : World → StmtKind → Place → Effect
kind_effect w = fold-StmtKind (Place → Effect) Part Effect (kind_step w) part_step stmt_step

abbrev pub part : World → SwitchPart → Part
part w = fold-SwitchPart (Place → Effect) Part Effect (kind_step w) part_step stmt_step

abbrev pub effects_of : World → List Stmt → List Effect
effects_of w = map (effect w)

abbrev pub parts_of : World → List SwitchPart → List Part
parts_of w = map (part w)
