-- Statements that choose (ISO/IEC 9899:1999, 6.8.4).
use Rattle.std.specs.Prelude.{Bool, true, false, if◌then◌else◌, List, [], ◌∷◌, map, Option, Some, None, Result, Ok, Err}
use Rattle.std.specs.Ordering.{int_eq}
use Rattle.c_tree.specs.declared.expression.Expr.{Expr}
use Rattle.c_mem.specs.declared.objects.Object.{Object}
use Rattle.c_operators.specs.declared.value.TypedValue.{TypedValue}
use Rattle.c_operators.specs.Value.{is_true}
use Rattle.c_operators.specs.Sign.{in_promoted}
use Rattle.c_widths.specs.DataModel.{DataModel}
use Rattle.c_widths.specs.Conversion.{convert}
use Rattle.cg_out.specs.Words.{or_else}
use Rattle.c_effect.specs.declared.state.Flow.{Flow}
use Rattle.c_effect.specs.declared.state.Flow.TheVariants.{Next, Broken}
use Rattle.c_effect.specs.declared.state.Stop.{Stop}
use Rattle.c_effect.specs.Locals.{Block}
use Rattle.c_effect.specs.World.{World}
use Rattle.c_effect.specs.ExpressionValue.{value, number}
use Rattle.c_effect.specs.Ending.{After, Effect, after, goes_on, sequence, in_block, with_value}

-- ---- `if`

abbrev pub otherwise : Option Effect → Effect
otherwise None = goes_on
otherwise (Some other) = other

abbrev pub branch : World → Expr → Effect → Option Effect → Effect
branch w condition taken other locals objects =
    with_value (value w condition locals objects) locals objects (λ v.
    if is_true v then taken locals objects else otherwise other locals objects)

-- ---- `switch`

-- what stands at its own level: the value of a label, where it is one and no `default`, and what it does
pub record Part : Type 0 where
  pub label : Option (Option Expr)
  pub effect : Effect

abbrev pub effects : List Part → List Effect
effects parts = map (λ p. p.effect) parts

-- a case's number in the type of the switch is the number that is asked for
abbrev pub is_equal : DataModel → TypedValue → Result TypedValue Stop → Bool
is_equal m v (Ok c) = int_eq (convert m v.kind c.value) v.value
is_equal m v (Err s) = false

abbrev pub is_case : World → TypedValue → List Block → List Object → Option (Option Expr) → Bool
is_case w v locals objects (Some (Some e)) = is_equal w.model v (number w e locals objects)
is_case w v locals objects other = false

abbrev pub is_default : Option (Option Expr) → Bool
is_default (Some None) = true
is_default other = false

-- the parts from the first label on that passes a test
abbrev pub from_label : (Option (Option Expr) → Bool) → List Part → Option (List Part)
from_label test [] = None
from_label test (p ∷ ps) = if test p.label then Some (p ∷ ps) else from_label test ps

-- from the equal case on, else from the default on
unfoldable pub chosen : World → TypedValue → List Block → List Object → List Part → Option (List Part)
chosen w v locals objects parts = or_else (from_label (is_case w v locals objects) parts) (from_label is_default parts)

-- a `break` ends the switch (6.8.6.3)
abbrev pub past_break : Result Flow Stop → Result Flow Stop
past_break (Ok Broken) = Ok Next
past_break flow = flow

abbrev pub past_breaks : After → After
past_breaks r = after (past_break r.flow) r.locals r.objects

-- through all further labels, in the block of the switch
abbrev pub running : Option (List Part) → Effect
running None = goes_on
running (Some parts) = λ locals objects. past_breaks (in_block (sequence (effects parts)) locals objects)

-- its value is promoted (6.8.4.2p5)
abbrev pub switch : World → Expr → List Part → Effect
switch w e parts locals objects =
    with_value (number w e locals objects) locals objects (λ v.
    running (chosen w (in_promoted w.model v) locals objects parts) locals objects)
