-- The names of a database's C text.
use Rattle.std.specs.Prelude.{◌≡◌, ℕ, Bool, is_some, if◌then◌else◌, List, [], ◌∷◌, ◌++◌, map, length, Option, Some, None}
use Rattle.std.specs.List.{flat_map}
use Rattle.can_model.specs.declared.database.Database.{Database}
use Rattle.can_model.specs.declared.database.Message.{Message}
use Rattle.can_model.specs.declared.database.Signal.{Signal}
use Rattle.name_rules.specs.declared.table.SymbolTable.{SymbolTable}
use Rattle.name_rules.specs.declared.table.MessageNames.{MessageNames}
use Rattle.name_rules.specs.declared.table.SignalNames.{SignalNames}
use Rattle.name_rules.specs.Identifier.{identifier_of}
use Rattle.name_rules.specs.Reserved.{is_reserved, is_reserved_local}
use Rattle.name_rules.specs.Picks.{ArePicks}
use Rattle.name_rules.specs.Wanted.{wanted_names}

-- ---- the names of each place

abbrev pub one_or_none : Option (List ℕ) → List (List ℕ)
one_or_none (Some x) = x ∷ []
one_or_none None = []

abbrev pub file_names_of_signal : SignalNames → List (List ℕ)
file_names_of_signal s = s.range ∷ s.choices

abbrev pub file_names_of_message : MessageNames → List (List ℕ)
file_names_of_message m =
    m.frame_id ∷ m.length ∷ m.extended
    ∷ (one_or_none m.cycle ++ (m.tag ∷ m.pack ∷ m.unpack ∷ m.init ∷ []) ++ flat_map file_names_of_signal m.signals)

-- all names at file scope, in the order in which they are picked
abbrev pub file_names : SymbolTable → List (List ℕ)
file_names t = t.guard ∷ flat_map file_names_of_message t.messages

-- the fields of a message's struct
abbrev pub field_names : MessageNames → List (List ℕ)
field_names m = map (λ s. s.field) m.signals

-- the local variables of a message's functions
abbrev pub local_names : MessageNames → List (List ℕ)
local_names m = flat_map (λ s. one_or_none s.local) m.signals

-- the fields that have a local variable
abbrev pub fields_with_local : MessageNames → List (List ℕ)
fields_with_local m = flat_map (λ s. if is_some s.local then s.field ∷ [] else []) m.signals

-- ---- the names of a database

-- a name of each choice, and one of a local variable where the signal is signed
pub record HasNamesOfSignal (s : Signal) (names : SignalNames) : Type 0 where
  pub local : is_some names.local ≡ s.signed
  pub choices : length names.choices ≡ length s.choices

-- the items stand side by side, pair by pair
abbrev pub AllPairs : {A B : Type 0} → (A → B → Type 0) → List A → List B → Type 0
AllPairs P [] ys = ys ≡ []
AllPairs P (x ∷ xs) [] = ⊥
AllPairs P (x ∷ xs) (y ∷ ys) = P x y × AllPairs P xs ys

-- the fields are the picks of the signals' identifiers, and the local variables those of the fields that have one
pub record HasNamesOfMessage (m : Message) (names : MessageNames) : Type 0 where
  pub cycle : is_some names.cycle ≡ is_some m.cycle
  pub signals : AllPairs HasNamesOfSignal m.signals names.signals
  pub fields : ArePicks is_reserved (map (λ s. identifier_of s.name) m.signals) (field_names names)
  pub locals : ArePicks is_reserved_local (fields_with_local names) (local_names names)

-- the table names each message with its signals, and its names at file scope are the picks of the wanted ones
pub record AreSymbols (db : Database) (name : List ℕ) (prune : Bool) (t : SymbolTable) : Type 0 where
  pub messages : AllPairs HasNamesOfMessage db.messages t.messages
  pub file : ArePicks is_reserved (wanted_names name prune db) (file_names t)
