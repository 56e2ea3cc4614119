-- What the answer of a reader says, where memory did not run out.
use Rattle.std.specs.Prelude.{Option, Some, None, Result, Ok, Err}
use Rattle.can_model.specs.declared.database.Database.{Database}
use Rattle.can_model.specs.declared.refusal.TextFault.{TextFault}
use Rattle.can_model.specs.declared.refusal.TextFault.TheVariants as text
use Rattle.db_check.specs.declared.refusal.CheckFault.{CheckFault}
use Rattle.db_check.specs.declared.refusal.CheckFault.TheVariants as check
use Rattle.db_text.specs.DatabaseOfText.{DatabaseRefusal, in_text, in_database}
use Rattle.db_text.specs.declared.fault.DatabaseFault.{DatabaseFault}
use Rattle.db_text.specs.declared.fault.DatabaseFault.TheVariants as fault

abbrev pub answer_of : Result Database DatabaseFault → Option (Result Database DatabaseRefusal)
answer_of (Ok db) = Some (Ok db)
answer_of (Err (fault.Text kind line)) = Some (Err (in_text (record { kind = kind; line = line })))
answer_of (Err (fault.Check kind line message signal)) = Some (Err (in_database (record { kind = kind; line = line; message = message; signal = signal })))
answer_of (Err fault.Memory) = None

-- a fault of a step, as one of all steps
abbrev pub of_text_fault : TextFault → DatabaseFault
of_text_fault (text.Fault kind line) = fault.Text kind line
of_text_fault text.Memory = fault.Memory

abbrev pub of_check_fault : CheckFault → DatabaseFault
of_check_fault (check.Fault kind line message signal) = fault.Check kind line message signal
of_check_fault check.Memory = fault.Memory
