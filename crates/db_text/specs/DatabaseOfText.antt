-- The database that a DBC text spells, or why it spells none.
use Rattle.std.specs.Prelude.{◌≡◌, ◌⊎◌, ℕ, List, Result, Ok, Err}
use Rattle.can_model.specs.Refusal.{Refusal}
use Rattle.can_model.specs.Validity.{Fault, IsValid, IsFirstFault}
use Rattle.can_model.specs.declared.database.Database.{Database}
use Rattle.dbc_reader.specs.declared.statement.Statement.{Statement}
use Rattle.dbc_reader.specs.Statements.{IsStatementList}
use Rattle.dbc_reader.specs.FirstFault.{IsFirstFault as IsFirstTextFault}
use Rattle.dbc_build.specs.DatabaseOfStatements.{database_of}

-- why there is no database
pub data DatabaseRefusal : Type 0 where
  in_text : (refusal : Refusal) → DatabaseRefusal
  in_database : (fault : Fault) → DatabaseRefusal

-- the statements that the text is make this database, or this is why they make none
pub record Makes (text : List ℕ) (made : Result Database Refusal) : Type 0 where
  pub statements : List Statement
  pub text_is : IsStatementList statements text
  pub made_is : database_of statements ≡ made

-- a text with a first fault, of its tokens or of its statements, spells none; else it spells the database that its statements make, where that is valid
abbrev pub Spells : List ℕ → Result Database DatabaseRefusal → Type 0
Spells text (Ok db) = Makes text (Ok db) × IsValid db
Spells text (Err (in_text refusal)) = IsFirstTextFault text refusal ⊎ Makes text (Err refusal)
Spells text (Err (in_database fault)) = (db : Database) × Makes text (Ok db) × IsFirstFault db fault
