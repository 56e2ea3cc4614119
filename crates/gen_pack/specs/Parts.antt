-- The signals of a message as its functions' statements need them: with their indices and their names.
use Rattle.std.specs.Prelude.{ℕ, suc, List, [], ◌∷◌}
use Rattle.can_model.specs.declared.database.Message.{Message}
use Rattle.can_model.specs.declared.database.Signal.{Signal}
use Rattle.name_rules.specs.declared.table.MessageNames.{MessageNames}
use Rattle.name_rules.specs.declared.table.SignalNames.{SignalNames}

pub record Part : Type 0 where
  -- in the message, counted from 0
  pub index : ℕ
  pub signal : Signal
  pub names : SignalNames

abbrev pub part : ℕ → Signal → SignalNames → Part
part i s n = record { index = i; signal = s; names = n }

-- from an index on
abbrev pub parts_from : ℕ → List Signal → List SignalNames → List Part
parts_from i (s ∷ ss) (n ∷ ns) = part i s n ∷ parts_from (suc i) ss ns
parts_from i ss ns = []

abbrev pub parts_of : Message → MessageNames → List Part
parts_of m names = parts_from 0 m.signals names.signals
