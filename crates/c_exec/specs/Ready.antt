-- What it means that a function is ready for calls.
use Rattle.std.specs.Prelude.{◌≡◌, Option, Some, None, Result, Ok, Err}
use Rattle.c_tree.specs.declared.item.Function.{Function}
use Rattle.c_tree.specs.declared.item.Unit.{Unit as Whole}
use Rattle.c_exec.specs.declared.machine.PrepareFault.{PrepareFault}
use Rattle.c_exec.specs.declared.machine.PrepareFault.TheVariants.{UnknownFunction, Memory}

-- the function is the one that is defined, or none is
abbrev pub Prepares : Result (Whole × Function) PrepareFault → Option Function → Type 0
Prepares (Ok m) defined = defined ≡ Some m.1
Prepares (Err UnknownFunction) defined = defined ≡ None
Prepares (Err Memory) defined = Unit {0}
