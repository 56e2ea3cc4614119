-- Worked faults, each by computation.
use Rattle.std.proofs.Common.{◌≡◌, inl, inr, ℕ, zero, suc, ◌≤◌, Bool, true, false, List, [], ◌∷◌, None, refl, arith, lit<, lit≤}
use Rattle.std.specs.Prelude.{codes}
use Rattle.limit_fraction.specs.Decimal.{zero_decimal}
use Rattle.can_model.specs.CheckRefusal.{check_number}
use Rattle.can_model.specs.Place.{HasPlace, SharePlace}
use Rattle.can_model.specs.Validity.{Fault, Position, messages, signals, message, signal, IsFault, IsFirstFault, IsNoLater, pair_of, message_has, same_frame, SignalHas}
use Rattle.can_model.specs.declared.database.Database.{Database}
use Rattle.can_model.specs.declared.database.Message.{Message}
use Rattle.can_model.specs.declared.database.Signal.{Signal}
use Rattle.can_model.specs.declared.check_kind.CheckKind.{CheckKind}
use Rattle.can_model.specs.declared.check_kind.CheckKind.TheVariants.{DuplicateMessageName, DuplicateMessageId, FrameIdRange, MessageTooLong, TooMany, DuplicateSignalName, SignalLength, SignalOutside, Overlap, MuxParentUnknown, MuxIdRange, FloatSignal, ScaleTooWide, ExtendedMultiplexing, MuxCycle}

-- a signal of this name, start and length
abbrev plain : List ℕ → ℕ → ℕ → Bool → Signal
plain name start length motorola = record {
  name = name;
  start = start;
  length = length;
  motorola = motorola;
  signed = false;
  is_float = false;
  factor = zero_decimal;
  offset = zero_decimal;
  min = None;
  max = None;
  initial = None;
  choices = [];
  unit = [];
  comment = [];
  parent = None;
  line = 2;
}

-- a message of this name, id and length
abbrev standard : List ℕ → ℕ → ℕ → List Signal → Message
standard name id length carried = record {
  id = id;
  extended = false;
  name = name;
  length = length;
  cycle = None;
  comment = [];
  signals = carried;
  line = 1;
}

-- ---- places

-- the ninth bit of a Motorola signal that begins at place 7 is at place 15, behind the only byte
motorola_outside : SignalHas (standard (codes "m") 1 1 (plain (codes "s") 7 9 true ∷ [])) 0 (plain (codes "s") 7 9 true) SignalOutside
motorola_outside = (15, (refl, (0, lit< tt, refl)), lit≤ tt)

-- Intel from place 4 on and Motorola from place 7 down share place 5
share_a_place : SharePlace (plain (codes "a") 4 8 false) (plain (codes "b") 7 8 true)
share_a_place = (5, (refl, (1, lit< tt, refl)), (refl, (5, lit< tt, refl)))

-- a signal of no bits has no place, and so shares none
no_bits : (p : ℕ) → ¬ HasPlace (plain (codes "s") 0 0 false) p
no_bits p (bits, h) = cc

-- ---- frames

same_id : message_has (standard (codes "a") 5 8 [] ∷ []) (standard (codes "b") 5 8 []) DuplicateMessageId ≡ true
same_id = refl

-- an extended frame of the same id is another frame
other_kind : same_frame (standard (codes "a") 5 8 []) (record (standard (codes "b") 5 8 []) { extended = true }) ≡ false
other_kind = refl

greatest_standard : message_has [] (standard (codes "a") 2047 8 []) FrameIdRange ≡ false
greatest_standard = refl

one_above : message_has [] (standard (codes "a") 2048 8 []) FrameIdRange ≡ true
one_above = refl

-- ---- the first of two faults

-- a signal of 65 bits in the first message, and a second message of the same name
abbrev two_faults : Database
two_faults = record { messages = standard (codes "m") 1 8 (plain (codes "s") 0 65 false ∷ []) ∷ standard (codes "m") 2 8 [] ∷ [] }

abbrev too_wide : Fault
too_wide = record { kind = SignalLength; line = 2; message = codes "m"; signal = codes "s" }

no_own : (k : CheckKind) → ¬ (message_has [] (standard (codes "m") 1 8 (plain (codes "s") 0 65 false ∷ [])) k ≡ true)
no_own DuplicateMessageName h = cc
no_own DuplicateMessageId h = cc
no_own FrameIdRange h = cc
no_own MessageTooLong h = cc
no_own TooMany h = cc
no_own DuplicateSignalName h = cc
no_own SignalLength h = cc
no_own SignalOutside h = cc
no_own Overlap h = cc
no_own MuxParentUnknown h = cc
no_own MuxIdRange h = cc
no_own FloatSignal h = cc
no_own ScaleTooWide h = cc
no_own ExtendedMultiplexing h = cc
no_own MuxCycle h = cc

least : (k : CheckKind) → SignalHas (standard (codes "m") 1 8 (plain (codes "s") 0 65 false ∷ [])) 0 (plain (codes "s") 0 65 false) k → 15 ≤ check_number k
least DuplicateMessageName h = absurd h
least DuplicateMessageId h = absurd h
least DuplicateSignalName h = absurd (cc)
least FrameIdRange h = absurd h
least MessageTooLong h = absurd h
least SignalLength h = lit≤ tt
least SignalOutside h = lit≤ tt
least Overlap h = lit≤ tt
least MuxParentUnknown h = lit≤ tt
least MuxIdRange h = lit≤ tt
least FloatSignal h = lit≤ tt
least ScaleTooWide h = lit≤ tt
least TooMany h = lit≤ tt
least ExtendedMultiplexing h = lit≤ tt
least MuxCycle h = lit≤ tt

none_earlier : (q : Position) (g : Fault) → IsFault two_faults q g → IsNoLater (1, 1) 15 (pair_of q) (check_number g.kind)
none_earlier messages g h = absurd h
none_earlier signals g h = absurd h
none_earlier (message zero) g h = absurd (no_own g.kind h.0)
none_earlier (message (suc i)) g h = inl (omega arith)
none_earlier (signal zero zero) g h = inr (refl, inr (refl, least g.kind h.0))
none_earlier (signal zero (suc j)) g h = absurd h
none_earlier (signal (suc i) j) g h = inl (omega arith)

-- the signal is told, since its message comes first
signal_told : IsFirstFault two_faults too_wide
signal_told = record { position = signal 0 0; there = (refl, refl); first = none_earlier }
