-- The names that the C text of a database wants at file scope, in the order in which they are picked.
use Rattle.std.specs.Prelude.{ℕ, Bool, is_some, if◌then◌else◌, List, [], ◌∷◌, ◌++◌, map, codes}
use Rattle.std.specs.List.{flat_map}
use Rattle.std.specs.Char.{to_ascii_uppercase}
use Rattle.can_model.specs.declared.database.Database.{Database}
use Rattle.can_model.specs.declared.database.Message.{Message}
use Rattle.can_model.specs.declared.database.Signal.{Signal}
use Rattle.name_rules.specs.Identifier.{identifier_of}
use Rattle.name_rules.specs.Pruning.{pruned}

abbrev pub upper : List ℕ → List ℕ
upper name = map to_ascii_uppercase name

abbrev pub joined : List ℕ → List ℕ → List ℕ
joined a b = a ++ codes "_" ++ b

-- the identifiers of a signal's choices, without their common front where that is asked
abbrev pub choice_identifiers : Bool → Signal → List (List ℕ)
choice_identifiers prune s = if prune then pruned (map (λ c. identifier_of c.name) s.choices) else map (λ c. identifier_of c.name) s.choices

-- of a signal, in a message whose names begin like this: its range check, and the macro of each choice
abbrev pub wanted_of_signal : Bool → List ℕ → Signal → List (List ℕ)
wanted_of_signal prune of_message s =
    (joined of_message (identifier_of s.name) ++ codes "_is_in_range")
    ∷ map (λ c. upper (joined (joined of_message (identifier_of s.name)) c) ++ codes "_CHOICE") (choice_identifiers prune s)

-- of a message whose names begin like this: its macros, its struct and its functions
abbrev pub wanted_of_itself : List ℕ → Message → List (List ℕ)
wanted_of_itself of_message m =
    (upper of_message ++ codes "_FRAME_ID") ∷ (upper of_message ++ codes "_LENGTH") ∷ (upper of_message ++ codes "_IS_EXTENDED")
    ∷ ((if is_some m.cycle then (upper of_message ++ codes "_CYCLE_TIME_MS") ∷ [] else [])
    ++ ((of_message ++ codes "_t") ∷ (of_message ++ codes "_pack") ∷ (of_message ++ codes "_unpack") ∷ (of_message ++ codes "_init") ∷ []))

abbrev pub wanted_of_message : List ℕ → Bool → Message → List (List ℕ)
wanted_of_message name prune m =
    wanted_of_itself (joined name (identifier_of m.name)) m
    ++ flat_map (wanted_of_signal prune (joined name (identifier_of m.name))) m.signals

-- of a database of this name: its include guard, and then those of each message
abbrev pub wanted_names : List ℕ → Bool → Database → List (List ℕ)
wanted_names name prune db = (upper name ++ codes "_H") ∷ flat_map (wanted_of_message name prune) db.messages
