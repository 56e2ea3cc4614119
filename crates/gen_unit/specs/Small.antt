-- Messages whose numbers are constants of C (ISO/IEC 9899:1999, 6.4.4.1).
use Rattle.std.specs.Prelude.{◌^◌, ◌<◌, List}
use Rattle.std.specs.List.{AllByRecursion}
use Rattle.can_model.specs.declared.database.Message.{Message}

pub record IsSmallMessage (m : Message) : Type 0 where
  pub id : m.id < 2 ^ 64
  pub length : m.length < 2 ^ 64

abbrev pub AreSmall : List Message → Type 0
AreSmall ms = AllByRecursion IsSmallMessage ms
