-- The raw values of two bytes, and the fields that hold them: the premises are met, and the values are those of two's complement.
use Rattle.std.proofs.Common.{◌≡◌, ℕ, Bool, true, false, [], ◌∷◌, List, Some, None, pos, negsuc, refl, arith}
use Rattle.std.specs.Prelude.{codes}
use Rattle.limit_fraction.specs.Decimal.{zero_decimal}
use Rattle.can_model.specs.declared.database.Message.{Message}
use Rattle.can_model.specs.declared.database.Signal.{Signal}
use Rattle.can_model.specs.Frame.{AreRawValues}
use Rattle.gen_unpack.specs.Unpacks.{AreBytesOf, with_raw}
use Rattle.gen_unpack.proofs.RawFields.{raw_of, all-raw}

-- a signal of this place, length and form, without a parent
abbrev signal : ℕ → ℕ → Bool → Bool → Signal
signal start length motorola signed = record {
  name = [];
  start = start;
  length = length;
  motorola = motorola;
  signed = signed;
  is_float = false;
  factor = zero_decimal;
  offset = zero_decimal;
  min = None;
  max = None;
  initial = None;
  choices = [];
  unit = [];
  comment = [];
  parent = None;
  line = 2;
}

-- eight bits without a sign, and behind them four with one, each from its most significant bit on
abbrev message : Message
message = record {
  id = 1;
  extended = false;
  name = codes "Ping";
  length = 2;
  cycle = None;
  comment = [];
  signals = signal 7 8 true false ∷ signal 11 4 true true ∷ [];
  line = 1;
}

-- 07 3d
abbrev frame : List ℕ
frame = 7 ∷ 61 ∷ []

are-bytes : AreBytesOf message.length frame
are-bytes = record { size = refl; are_bytes = (omega arith, (omega arith, tt)) }

-- 7, and -3 of the low four bits
values : raw_of frame message.signals ≡ Some (pos 7) ∷ Some (negsuc 2) ∷ []
values = refl

are-raw : AreRawValues message frame (raw_of frame message.signals)
are-raw = all-raw frame message (refl, (refl, tt))

-- both fields hold theirs, and a field without a signal stays
fields : with_raw (raw_of frame message.signals) (None ∷ Some (pos 5) ∷ Some (pos 9) ∷ []) ≡ Some (pos 7) ∷ Some (negsuc 2) ∷ Some (pos 9) ∷ []
fields = refl

-- so does that of a signal without a raw value
stays : with_raw (None ∷ Some (pos 1) ∷ []) (Some (pos 5) ∷ None ∷ []) ≡ Some (pos 5) ∷ Some (pos 1) ∷ []
stays = refl
