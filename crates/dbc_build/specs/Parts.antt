-- What one statement adds to a database.
use Rattle.std.specs.Prelude.{ℕ, Bool, true, false, List, Option, Some, None}
use Rattle.can_model.specs.declared.database.Message.{Message}
use Rattle.can_model.specs.declared.database.Signal.{Signal}
use Rattle.dbc_reader.specs.declared.statement.Statement.{Statement}
use Rattle.dbc_reader.specs.declared.statement.Body.{Body}
use Rattle.dbc_reader.specs.declared.statement.Body.TheVariants as bodies
use Rattle.dbc_build.specs.DatabaseOfStatements.{signal_of, signals_in, message_of}

abbrev pub begins_message : Body → Bool
begins_message (bodies.Message id name len) = true
begins_message body = false

-- the signal of an `SG_` statement
abbrev pub signal_from : List Statement → ℕ → ℕ → Body → Option Signal
signal_from all id line (bodies.Signal name start len motorola signed factor offset low high unit receivers) =
    Some (signal_of all id line name start len motorola signed factor offset low high unit)
signal_from all id line body = None

-- the message of a `BO_` statement, before these statements
abbrev pub message_from : List Statement → ℕ → Body → List Statement → Option Message
message_from all line (bodies.Message id name len) rest = Some (message_of all line id name len (signals_in all id rest))
message_from all line body rest = None
