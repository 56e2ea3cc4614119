-- What a refused database is told.
use Rattle.std.specs.Prelude.{Option, Some, None}
use Rattle.can_model.specs.Validity.{Fault}
use Rattle.db_check.specs.declared.refusal.CheckFault.{CheckFault}
use Rattle.db_check.specs.declared.refusal.CheckFault.TheVariants as told

-- the fault, where memory did not run out
abbrev pub fault_of : CheckFault → Option Fault
fault_of (told.Fault kind line message signal) = Some (record { kind = kind; line = line; message = message; signal = signal })
fault_of told.Memory = None
