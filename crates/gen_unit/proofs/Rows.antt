-- Worked values of the definitions, by computation.
use Rattle.std.proofs.Common.{◌≡◌, ℕ, List, [], ◌∷◌, ◌++◌, true, false, refl}
use Rattle.std.specs.Prelude.{codes}
use Rattle.std.specs.declared.option.Option.TheVariants.{None}
use Rattle.can_model.specs.declared.database.Message.{Message}
use Rattle.name_rules.specs.declared.table.SymbolTable.{SymbolTable}
use Rattle.name_rules.specs.declared.table.MessageNames.{MessageNames}
use Rattle.gen_unit.specs.Header.{about}
use Rattle.gen_unit.specs.Macros.{number, in_brackets, macros_of}

abbrev ping : Message
ping = record { id = 291; extended = false; name = codes "Ping"; length = 2; cycle = None; comment = []; signals = []; line = 3 }

abbrev pong : Message
pong = record { id = 1; extended = true; name = codes "Pong"; length = 0; cycle = None; comment = codes "back"; signals = []; line = 4 }

-- the names that a message has, where they begin like this
abbrev named : List ℕ → MessageNames
named front = record {
  frame_id = front ++ codes "_FRAME_ID";
  length = front ++ codes "_LENGTH";
  extended = front ++ codes "_IS_EXTENDED";
  cycle = None;
  tag = [];
  pack = [];
  unpack = [];
  init = [];
  signals = [];
}

abbrev table : SymbolTable
table = record { guard = codes "CAN_H"; messages = named (codes "CAN_PING") ∷ named (codes "CAN_PONG") ∷ [] }

two_messages : macros_of (ping ∷ pong ∷ []) table ≡
    (codes "CAN_H", [])
    ∷ (codes "EINVAL", number 22 10 false ∷ [])
    ∷ (codes "CAN_PING_FRAME_ID", in_brackets (number 291 16 true))
    ∷ (codes "CAN_PING_LENGTH", in_brackets (number 2 10 true))
    ∷ (codes "CAN_PING_IS_EXTENDED", in_brackets (number 0 10 false))
    ∷ (codes "CAN_PONG_FRAME_ID", in_brackets (number 1 16 true))
    ∷ (codes "CAN_PONG_LENGTH", in_brackets (number 0 10 true))
    ∷ (codes "CAN_PONG_IS_EXTENDED", in_brackets (number 1 10 false))
    ∷ []
two_messages = refl

a_comment_follows_a_blank : about pong ≡ codes "Message Pong back"
a_comment_follows_a_blank = refl
