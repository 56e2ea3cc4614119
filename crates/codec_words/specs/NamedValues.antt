-- The values that words give a message's signals: NAME=VALUE each, cut at the last `=`.
use Rattle.std.specs.Prelude.{ℕ, Bool, true, not, ◌&&◌, ◌==◌, if◌then◌else◌, List, [], ◌∷◌, map, length, position, slice_get, Option, Some, None, ℤ, pos, bytes_eq}
use Rattle.std.specs.List.{list_any, range_with_len}
use Rattle.std.specs.Option.{option_map, option_and_then}
use Rattle.can_model.specs.declared.database.Message.{Message}
use Rattle.can_model.specs.declared.database.Signal.{Signal}
use Rattle.can_model.specs.RawValue.{is_field_value}
use Rattle.command_words.specs.CutWord.{cut_at_last}
use Rattle.command_words.specs.NumberWord.{number_in}

-- a number that the field of a signal holds
abbrev pub held_by : Signal → ℤ → Option ℤ
held_by s v = if is_field_value s.length s.signed v then Some v else None

-- the index of the signal of this name, and the number that a text spells, where its field holds it
abbrev pub given_by : Message → List ℕ → List ℕ → Option (ℕ × ℤ)
given_by m name text =
    option_and_then (λ i. option_and_then (λ s. option_map (λ v. (i, v)) (option_and_then (held_by s) (number_in text))) (slice_get m.signals i))
    (position (λ s. bytes_eq s.name name) m.signals)

-- the index and the value that a word gives, if it gives one
abbrev pub pair_of : Message → List ℕ → Option (ℕ × ℤ)
pair_of m word = option_and_then (λ parts. given_by m parts.0 parts.1) (cut_at_last 61 word)

-- those of all words, if each gives one
abbrev pub pairs_of : Message → List (List ℕ) → Option (List (ℕ × ℤ))
pairs_of m [] = Some []
pairs_of m (word ∷ words) = option_and_then (λ p. option_map (λ ps. p ∷ ps) (pairs_of m words)) (pair_of m word)

-- no signal has two values
abbrev pub are_apart : List (ℕ × ℤ) → Bool
are_apart [] = true
are_apart (p ∷ ps) = not (list_any (λ q. q.0 == p.0) ps) && are_apart ps

-- the value of the signal of this index, 0 where it has none
abbrev pub value_for : List (ℕ × ℤ) → ℕ → ℤ
value_for [] i = pos 0
value_for (p ∷ ps) i = if p.0 == i then p.1 else value_for ps i

-- the values of all signals, in the order of the message; none where a word is wrong or a signal is named twice
abbrev pub values_of : Message → List (List ℕ) → Option (List ℤ)
values_of m words =
    option_and_then (λ ps. if are_apart ps then Some (map (value_for ps) (range_with_len 0 (length m.signals))) else None) (pairs_of m words)
