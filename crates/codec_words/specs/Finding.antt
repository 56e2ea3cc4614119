-- The message that a word means.
use Rattle.std.specs.Prelude.{ℕ, ◌+◌, ◌^◌, Bool, false, if◌then◌else◌, List, Option, Some, None, ℤ, pos, bytes_eq}
use Rattle.std.specs.List.{find}
use Rattle.std.specs.Ordering.{int_eq}
use Rattle.can_model.specs.declared.database.Message.{Message}
use Rattle.command_words.specs.NumberWord.{number_in}

abbrev pub message_named : List ℕ → List Message → Option Message
message_named name messages = find (λ m. bytes_eq m.name name) messages

-- the number of a message's statement: its frame id, with bit 31 where the frame is extended
abbrev pub number_of : Message → ℕ
number_of m = if m.extended then m.id + 2 ^ 31 else m.id

abbrev pub is_number_of : Message → Option ℤ → Bool
is_number_of m None = false
is_number_of m (Some n) = int_eq n (pos (number_of m))

abbrev pub message_numbered : List ℕ → List Message → Option Message
message_numbered word messages = find (λ m. is_number_of m (number_in word)) messages
