-- What the executor's answers say against what is meant; want of memory is a free answer.
use Rattle.std.specs.Prelude.{◌≡◌, List, Option, Result, Ok, Err}
use Rattle.c_mem.specs.declared.objects.Object.{Object}
use Rattle.c_operators.specs.declared.value.TypedValue.{TypedValue}
use Rattle.c_effect.specs.declared.state.Flow.{Flow}
use Rattle.c_effect.specs.declared.state.Stop.{Stop}
use Rattle.c_effect.specs.Locals.{Block}
use Rattle.c_effect.specs.Ending.{After, after}
use Rattle.c_effect.specs.FunctionCall.{Ended, ended}
use Rattle.c_exec.specs.declared.halt.Halt.{Halt}
use Rattle.c_exec.specs.declared.halt.Halt.TheVariants.{Stopped, Memory}

-- ---- a value

abbrev pub GivesNone : {A : Type 0} → Halt → Result A Stop → Type 0
GivesNone (Stopped stop) meant = meant ≡ Err stop
GivesNone Memory meant = Unit {0}

abbrev pub Gives : {A : Type 0} → Result A Halt → Result A Stop → Type 0
Gives (Ok v) meant = meant ≡ Ok v
Gives (Err h) meant = GivesNone h meant

-- ---- the end of a statement, with the locals and objects after it

abbrev pub EndsEarly : Halt → List Block → List Object → After → Type 0
EndsEarly (Stopped stop) locals objects meant = meant ≡ after (Err stop) locals objects
EndsEarly Memory locals objects meant = Unit {0}

abbrev pub Ends : Result Flow Halt → List Block → List Object → After → Type 0
Ends (Ok flow) locals objects meant = meant ≡ after (Ok flow) locals objects
Ends (Err h) locals objects meant = EndsEarly h locals objects meant

-- ---- the end of a call, with the objects after it

abbrev pub ReturnsNone : Halt → List Object → Ended → Type 0
ReturnsNone (Stopped stop) objects meant = meant ≡ ended (Err stop) objects
ReturnsNone Memory objects meant = Unit {0}

abbrev pub Returns : Result (Option TypedValue) Halt → List Object → Ended → Type 0
Returns (Ok v) objects meant = meant ≡ ended (Ok v) objects
Returns (Err h) objects meant = ReturnsNone h objects meant
