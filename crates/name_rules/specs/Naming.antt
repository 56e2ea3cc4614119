-- What the functions that name a database's parts promise each other.
use Rattle.std.specs.Prelude.{ℕ, Bool, is_some, if◌then◌else◌, List, [], ◌∷◌, ◌++◌, map, codes, Option}
use Rattle.std.specs.List.{flat_map}
use Rattle.can_model.specs.declared.database.Message.{Message}
use Rattle.can_model.specs.declared.database.Signal.{Signal}
use Rattle.name_rules.specs.declared.table.SignalNames.{SignalNames}
use Rattle.name_rules.specs.Identifier.{identifier_of}
use Rattle.name_rules.specs.Reserved.{is_reserved, is_reserved_local}
use Rattle.name_rules.specs.Picks.{ArePicks}
use Rattle.name_rules.specs.Wanted.{upper, joined, wanted_of_itself, wanted_of_signal}
use Rattle.name_rules.specs.Symbols.{one_or_none, AllPairs, HasNamesOfSignal}

-- the macro of a choice of this identifier, in a signal whose names begin like this
abbrev pub choice_name : List ℕ → List ℕ → List ℕ
choice_name of_signal c = upper (joined of_signal c) ++ codes "_CHOICE"

-- what a message wants at file scope, where its names begin like this
abbrev pub wanted_with : List ℕ → Bool → Message → List (List ℕ)
wanted_with of_message prune m = wanted_of_itself of_message m ++ flat_map (wanted_of_signal prune of_message) m.signals

-- the macro of a message's cycle, where it has one
abbrev pub wanted_of_cycle : List ℕ → Option ℕ → List (List ℕ)
wanted_of_cycle capitals cycle = if is_some cycle then (capitals ++ codes "_CYCLE_TIME_MS") ∷ [] else []

-- the field, where a local variable is made of it
abbrev pub field_with_local : SignalNames → List (List ℕ)
field_with_local s = if is_some s.local then s.field ∷ [] else []

-- signals have these names in a message's struct and in its functions
pub record NamesSignals (signals : List Signal) (names : List SignalNames) : Type 0 where
  pub pairs : AllPairs HasNamesOfSignal signals names
  pub fields : ArePicks is_reserved (map (λ s. identifier_of s.name) signals) (map (λ s. s.field) names)
  pub locals : ArePicks is_reserved_local (flat_map field_with_local names) (flat_map (λ s. one_or_none s.local) names)
