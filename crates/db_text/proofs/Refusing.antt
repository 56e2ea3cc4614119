-- What the refusal of a step says of the text.
use Rattle.std.proofs.Common.{◌≡◌, inl, inr, ℕ, List, Result, Ok, Err, refl}
use Rattle.std.specs.Prelude.{IfSome}
use Rattle.std.specs.Global.{Vec}
use Rattle.can_model.specs.Refusal.{Gives}
use Rattle.can_model.specs.Validity.{IsFirstFault}
use Rattle.can_model.specs.declared.database.Database.{Database}
use Rattle.can_model.specs.declared.refusal.TextKind.{TextKind}
use Rattle.can_model.specs.declared.refusal.TextFault.{TextFault}
use Rattle.can_model.specs.declared.refusal.TextFault.TheVariants as text
use Rattle.dbc_reader.specs.declared.statement.Statement.{Statement}
use Rattle.dbc_reader.specs.Statements.{IsStatementList}
use Rattle.dbc_reader.specs.FirstFault.{IsFirstFault as IsFirstTextFault}
use Rattle.dbc_build.specs.DatabaseOfStatements.{database_of}
use Rattle.db_check.specs.Answer.{fault_of}
use Rattle.db_check.specs.declared.refusal.CheckFault.{CheckFault}
use Rattle.db_check.specs.declared.refusal.CheckFault.TheVariants as check
use Rattle.db_text.specs.DatabaseOfText.{Spells}
use Rattle.db_text.specs.Answer.{answer_of, of_text_fault, of_check_fault}

abbrev FromStatements : TextFault → Result (Vec Statement) TextFault
FromStatements e = Err e

abbrev FromDatabase : TextFault → Result Database TextFault
FromDatabase e = Err e

pub statements_refused : (bytes : List ℕ) (e : TextFault) → ((kind : TextKind) (line : ℕ) → FromStatements e ≡ Err (text.Fault kind line) → IsFirstTextFault bytes (record { kind = kind; line = line }))
    → IfSome (answer_of (Err (of_text_fault e))) (Spells bytes)
statements_refused bytes (text.Fault kind line) h = inl (h kind line refl)
statements_refused bytes text.Memory h = tt

pub database_refused : (bytes : List ℕ) (ss : List Statement) (e : TextFault) → IsStatementList ss bytes → Gives (λ d. d) (FromDatabase e) (database_of ss) → IfSome (answer_of (Err (of_text_fault e))) (Spells bytes)
database_refused bytes ss (text.Fault kind line) s g = inr (record { statements = ss; text_is = s; made_is = g })
database_refused bytes ss text.Memory s g = tt

pub check_refused : (bytes : List ℕ) (ss : List Statement) (db : Database) (e : CheckFault) → IsStatementList ss bytes → database_of ss ≡ Ok db → IfSome (fault_of e) (IsFirstFault db)
    → IfSome (answer_of (Err (of_check_fault e))) (Spells bytes)
check_refused bytes ss db (check.Fault kind line in_message of_signal) s g h = (db, record { statements = ss; text_is = s; made_is = g }, h)
check_refused bytes ss db check.Memory s g h = tt
