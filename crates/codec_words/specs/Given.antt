-- Values of signals that words set one by one, and the lines of those that are there.
use Rattle.std.specs.Prelude.{ℕ, List, [], ◌∷◌, Option, Some, None, ℤ, slice_get, slice_set}
use Rattle.std.specs.Option.{option_and_then}
use Rattle.can_model.specs.declared.database.Message.{Message}
use Rattle.can_model.specs.declared.database.Signal.{Signal}
use Rattle.codec_words.specs.NamedValues.{pair_of}
use Rattle.codec_words.specs.Reports.{value_line}

-- the signal of this index has its value now, where it had none
abbrev pub given_once : List (Option ℤ) → ℕ → ℤ → Option (Option ℤ) → Option (List (Option ℤ))
given_once values i v (Some None) = Some (slice_set values i (Some v))
given_once values i v other = None

-- behind one word
abbrev pub with_word : Message → List ℕ → List (Option ℤ) → Option (List (Option ℤ))
with_word m word values = option_and_then (λ p. given_once values p.0 p.1 (slice_get values p.0)) (pair_of m word)

-- behind several
abbrev pub with_words : Message → List (List ℕ) → List (Option ℤ) → Option (List (Option ℤ))
with_words m [] values = Some values
with_words m (word ∷ words) values = option_and_then (with_words m words) (with_word m word values)

-- the line of a signal that has a value
abbrev pub line_of : Signal → Option ℤ → List ℕ
line_of s None = []
line_of s (Some v) = value_line s v
