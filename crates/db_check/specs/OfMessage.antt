-- The faults of one message, by the names and the frames of the earlier ones.
use Rattle.std.specs.Prelude.{◌≡◌, ◌⊎◌, ◌==◌, ◌&&◌, ℕ, nat_lt, Bool, true, List, [], length, is_some}
use Rattle.std.specs.List.{list_any}
use Rattle.cg_out.specs.Words.{look_up, same_bool}
use Rattle.can_model.specs.Validity.{message_has, greatest_id, Fault}
use Rattle.can_model.specs.declared.database.Message.{Message}
use Rattle.can_model.specs.declared.check_kind.CheckKind.{CheckKind}
use Rattle.can_model.specs.declared.check_kind.CheckKind.TheVariants.{DuplicateMessageName, DuplicateMessageId, FrameIdRange, MessageTooLong, TooMany}
use Rattle.db_check.specs.Kinds.{IsClean, IsLeast}
use Rattle.db_check.specs.OfSignals.{AreClean, IsFirstOfSignals}

-- the message itself has a fault of this kind
abbrev pub Has : List Message → Message → CheckKind → Type 0
Has before m k = message_has before m k ≡ true

-- neither the message nor a signal of it has a fault
pub record IsCleanMessage (before : List Message) (m : Message) : Type 0 where
  pub own : IsClean (Has before m)
  pub signals : AreClean m

-- the first fault of the message itself, or else of its signals
abbrev pub IsFirstOfMessage : List Message → Message → Fault → Type 0
IsFirstOfMessage before m f =
    (IsLeast (Has before m) f.kind × (f ≡ record { kind = f.kind; line = m.line; message = m.name; signal = [] }))
    ⊎ (IsClean (Has before m) × IsFirstOfSignals m f)

-- the message itself has a fault of this kind, where each earlier name has an entry and these are the earlier frames
abbrev pub Shows : List (List ℕ × Unit {0}) → List (ℕ × Bool) → Message → CheckKind → Type 0
Shows names frames m DuplicateMessageName = is_some (look_up m.name names) ≡ true
Shows names frames m DuplicateMessageId = list_any (λ f. f.0 == m.id && same_bool f.1 m.extended) frames ≡ true
Shows names frames m FrameIdRange = nat_lt (greatest_id m.extended) m.id ≡ true
Shows names frames m MessageTooLong = nat_lt 2048 m.length ≡ true
Shows names frames m TooMany = nat_lt 4096 (length m.signals) ≡ true
Shows names frames m kind = ⊥
