-- The database of a list of statements: its messages with their signals, and of each what the whole list says.
use Rattle.std.specs.Prelude.{ℕ, ◌%◌, ◌^◌, Bool, not, nat_le, List, [], ◌∷◌, codes, bytes_eq, filter, unwrap_or, Option, Some, None, Result, Ok, Err}
use Rattle.limit_fraction.specs.declared.number.Decimal.{Decimal}
use Rattle.can_model.specs.declared.database.Message.{Message}
use Rattle.can_model.specs.declared.database.Signal.{Signal}
use Rattle.can_model.specs.declared.database.Database.{Database}
use Rattle.can_model.specs.declared.refusal.TextKind.TheVariants.{LateSignal}
use Rattle.can_model.specs.Refusal.{Refusal}
use Rattle.dbc_reader.specs.declared.statement.Statement.{Statement}
use Rattle.dbc_reader.specs.declared.statement.Body.{Body}
use Rattle.dbc_reader.specs.declared.statement.Body.TheVariants as bodies
use Rattle.dbc_build.specs.Facts.{is_message, is_signal, comment_of, attribute_of, choices_of, value_type_of}
use Rattle.dbc_build.specs.Reading.{cycle_attribute, start_attribute, message_name_attribute, signal_name_attribute, long_name, whole_in, cycle_from, initial_from, choices_from, is_float_type, limit_from}

-- the signal of an `SG_` statement of the message with this id
abbrev pub signal_of : List Statement → ℕ → ℕ → List ℕ → ℕ → ℕ → Bool → Bool → Decimal → Decimal → Decimal → Decimal → List ℕ → Signal
signal_of all id line name start len motorola signed factor offset low high unit = record {
  name = long_name name (attribute_of signal_name_attribute (is_signal id name) all);
  start = start;
  length = len;
  motorola = motorola;
  signed = signed;
  is_float = is_float_type (value_type_of id name all);
  factor = factor;
  offset = offset;
  min = limit_from low high low;
  max = limit_from low high high;
  initial = initial_from len signed (whole_in (attribute_of start_attribute (is_signal id name) all));
  choices = choices_from len signed (choices_of id name all);
  unit = unit;
  comment = unwrap_or (comment_of (is_signal id name) all) [];
  parent = None;
  line = line;
}

-- a statement on this line, and the signals behind it: an `SG_` adds one, and a `BO_` ends them
abbrev pub with_signal : List Statement → ℕ → ℕ → Body → List Signal → List Signal
with_signal all id line (bodies.Signal name start len motorola signed factor offset low high unit receivers) more =
    signal_of all id line name start len motorola signed factor offset low high unit ∷ more
with_signal all id line (bodies.Message i name len) more = []
with_signal all id line body more = more

-- the signals of the `SG_` statements up to the next `BO_`, in their order
abbrev pub signals_in : List Statement → ℕ → List Statement → List Signal
signals_in all id [] = []
signals_in all id (s ∷ ss) = with_signal all id s.line s.body (signals_in all id ss)

-- the message of a `BO_` statement with these signals; bit 31 of its id marks an extended frame and is taken off
abbrev pub message_of : List Statement → ℕ → ℕ → List ℕ → ℕ → List Signal → Message
message_of all line id name len signals = record {
  id = id % 2 ^ 31;
  extended = nat_le (2 ^ 31) id;
  name = long_name name (attribute_of message_name_attribute (is_message id) all);
  length = len;
  cycle = cycle_from (whole_in (attribute_of cycle_attribute (is_message id) all));
  comment = unwrap_or (comment_of (is_message id) all) [];
  signals = signals;
  line = line;
}

-- a statement on this line with those behind it, and the messages of these
abbrev pub with_message : List Statement → ℕ → Body → List Statement → List Message → List Message
with_message all line (bodies.Message id name len) rest more = message_of all line id name len (signals_in all id rest) ∷ more
with_message all line body rest more = more

-- the messages of the `BO_` statements, in their order
abbrev pub messages_in : List Statement → List Statement → List Message
messages_in all [] = []
messages_in all (s ∷ ss) = with_message all s.line s.body ss (messages_in all ss)

-- the name of the message that lists the signals of no message
unfoldable pub is_placeholder : List ℕ → Bool
is_placeholder name = bytes_eq name (codes "VECTOR__INDEPENDENT_SIG_MSG")

-- whether a message is another one
abbrev pub is_kept : Message → Bool
is_kept message = not (is_placeholder message.name)

-- a statement on this line, and where the first signal behind it is that no message stands before
abbrev pub with_late : ℕ → Body → Option ℕ → Option ℕ
with_late line (bodies.Signal name start len motorola signed factor offset low high unit receivers) more = Some line
with_late line (bodies.Message id name len) more = None
with_late line body more = more

-- the line of the first `SG_`, where no `BO_` stands before it
abbrev pub late_signal : List Statement → Option ℕ
late_signal [] = None
late_signal (s ∷ ss) = with_late s.line s.body (late_signal ss)

-- the messages, without the placeholder, unless a signal stands before all messages
abbrev pub unless_late : Option ℕ → List Message → Result Database Refusal
unless_late (Some line) messages = Err (record { kind = LateSignal; line = line })
unless_late None messages = Ok (record { messages = filter is_kept messages })

abbrev pub database_of : List Statement → Result Database Refusal
database_of list = unless_late (late_signal list) (messages_in list list)
