-- Worked values of the definitions, by computation.
use Rattle.std.proofs.Common.{◌≡◌, ℕ, Bool, true, false, [], ◌∷◌, pos, negsuc, refl}
use Rattle.std.specs.Prelude.{codes, None}
use Rattle.limit_fraction.specs.Decimal.{zero_decimal}
use Rattle.can_model.specs.declared.database.Message.{Message}
use Rattle.can_model.specs.declared.database.Signal.{Signal}
use Rattle.can_model.specs.declared.check_kind.CheckKind.TheVariants.{DuplicateMessageId, FrameIdRange}
use Rattle.can_model.specs.RawValue.{is_raw}
use Rattle.can_model.specs.Place.{place_of}
use Rattle.can_model.specs.Active.{IsActive}
use Rattle.can_model.specs.Frame.{value_in}
use Rattle.can_model.specs.Validity.{message_has}

-- a signal of this place, length and form; of all else nothing is said
abbrev signal : ℕ → ℕ → Bool → Bool → Signal
signal start len motorola signed = record {
  name = [];
  start = start;
  length = len;
  motorola = motorola;
  signed = signed;
  is_float = false;
  factor = zero_decimal;
  offset = zero_decimal;
  min = None;
  max = None;
  initial = None;
  choices = [];
  unit = [];
  comment = [];
  parent = None;
  line = 1;
}

-- ---- places

-- twelve bits from place 0 on, the most significant first: the others are those of the next byte from its top on
abbrev temperature : Signal
temperature = signal 0 12 true true

abbrev radius : Signal
radius = signal 6 6 true false

-- ten bits from place 6 up
abbrev level : Signal
level = signal 6 10 false false

top_of_motorola : place_of temperature 11 ≡ 0
top_of_motorola = refl

next_of_motorola : place_of temperature 10 ≡ 15
next_of_motorola = refl

least_of_motorola : place_of temperature 0 ≡ 21
least_of_motorola = refl

least_of_intel : place_of level 0 ≡ 6
least_of_intel = refl

top_of_intel : place_of level 9 ≡ 15
top_of_intel = refl

-- ---- values

-- the bytes c0 06 e0: 1, 32 and 55
radius_of_bytes : value_in (192 ∷ 6 ∷ 224 ∷ []) radius ≡ pos 32
radius_of_bytes = refl

temperature_of_bytes : value_in (192 ∷ 6 ∷ 224 ∷ []) temperature ≡ pos 55
temperature_of_bytes = refl

-- the bytes 01 ff e0: -1
negative_of_bytes : value_in (1 ∷ 255 ∷ 224 ∷ []) temperature ≡ negsuc 0
negative_of_bytes = refl

least_raw : is_raw 12 true (negsuc 2047) ≡ true
least_raw = refl

below_raw : is_raw 12 true (negsuc 2048) ≡ false
below_raw = refl

greatest_raw : is_raw 64 false (pos 18446744073709551615) ≡ true
greatest_raw = refl

none_of_no_bits : is_raw 0 false (pos 0) ≡ false
none_of_no_bits = refl

none_of_65_bits : is_raw 65 false (pos 0) ≡ false
none_of_65_bits = refl

-- ---- messages

abbrev message : ℕ → Bool → Message
message id extended = record { id = id; extended = extended; name = codes "A"; length = 8; cycle = None; comment = []; signals = level ∷ []; line = 1 }

same_id_in_other_frames : message_has (message 5 true ∷ []) (message 5 false) DuplicateMessageId ≡ false
same_id_in_other_frames = refl

id_of_12_bits : message_has [] (message 2048 false) FrameIdRange ≡ true
id_of_12_bits = refl

id_of_29_bits : message_has [] (message 536870911 true) FrameIdRange ≡ false
id_of_29_bits = refl

-- a signal without a parent is active, whatever the values are
active_alone : IsActive (message 5 false) [] 0
active_alone = (1, tt)
