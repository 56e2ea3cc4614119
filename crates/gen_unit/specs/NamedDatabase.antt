-- What the meaning of a pair rests on.
use Rattle.std.specs.Prelude.{ℕ, Bool, List}
use Rattle.can_model.specs.declared.database.Database.{Database}
use Rattle.name_rules.specs.declared.table.SymbolTable.{SymbolTable}
use Rattle.name_rules.specs.IsIdentifier.{IsIdentifier}
use Rattle.name_rules.specs.Symbols.{AreSymbols}
use Rattle.gen_unit.specs.Small.{AreSmall}

-- the database has this name, an identifier, and these names, with or without pruning; its numbers are constants of C
pub record IsNamedDatabase (name : List ℕ) (db : Database) (names : SymbolTable) : Type 0 where
  pub named : IsIdentifier name
  pub small : AreSmall db.messages
  pub prune : Bool
  pub symbols : AreSymbols db name prune names
