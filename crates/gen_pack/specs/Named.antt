-- The names of a message, as its functions need them.
use Rattle.can_model.specs.declared.database.Message.{Message}
use Rattle.name_rules.specs.declared.table.MessageNames.{MessageNames}
use Rattle.name_rules.specs.Names.{AreApart}
use Rattle.name_rules.specs.Reserved.{is_reserved, is_reserved_local}
use Rattle.name_rules.specs.Symbols.{AllPairs, HasNamesOfSignal, field_names, local_names}

-- each signal has its names, and neither two fields nor two locals have one name
pub record IsNamed (m : Message) (names : MessageNames) : Type 0 where
  pub signals : AllPairs HasNamesOfSignal m.signals names.signals
  pub fields : AreApart is_reserved (field_names names)
  pub locals : AreApart is_reserved_local (local_names names)
