-- The faults of the messages, in their order.
use Rattle.std.specs.Prelude.{◌≡◌, ◌<◌, ℕ, Bool, map, take, List, slice_get, IsSomeAnd, IfSome}
use Rattle.can_model.specs.Validity.{Fault}
use Rattle.can_model.specs.declared.database.Message.{Message}
use Rattle.db_check.specs.OfMessage.{IsCleanMessage, IsFirstOfMessage}

-- this message and its signals have no fault
abbrev pub IsCleanAt : List Message → ℕ → Type 0
IsCleanAt ms i = IfSome (slice_get ms i) (λ m. IsCleanMessage (take i ms) m)

-- the first fault of the first message that has one
pub record IsFirstOfMessages (ms : List Message) (f : Fault) : Type 0 where
  pub index : ℕ
  pub there : IsSomeAnd (slice_get ms index) (λ m. IsFirstOfMessage (take index ms) m f)
  pub before : (i : ℕ) → i < index → IsCleanAt ms i

-- a message's name, as an entry of a table
abbrev pub entry_of : Message → List ℕ × Unit {0}
entry_of m = (m.name, tt)

-- the frame of a message: its id, and whether it is of the extended kind
abbrev pub frame_of : Message → ℕ × Bool
frame_of m = (m.id, m.extended)

-- what stands once the first n messages have passed
pub record HavePassed (ms : List Message) (n : ℕ) (names : List (List ℕ × Unit {0})) (frames : List (ℕ × Bool)) : Type 0 where
  pub clean : (i : ℕ) → i < n → IsCleanAt ms i
  pub names_are : names ≡ map entry_of (take n ms)
  pub frames_are : frames ≡ map frame_of (take n ms)
