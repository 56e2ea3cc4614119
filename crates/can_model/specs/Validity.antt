-- When a database is valid, and the first of its faults where it is not.
use Rattle.std.specs.Prelude.{◌≡◌, ◌≢◌, ◌⊎◌, ℕ, zero, suc, ◌*◌, ◌<◌, ◌≤◌, Bool, true, false, not, ◌&&◌, ◌||◌, ◌==◌, nat_lt, if◌then◌else◌, List, [], map, length, take, ℤ, pos, bytes_eq, flat_map, Some, None, slice_get, IsSomeAnd}
use Rattle.std.specs.List.{list_any}
use Rattle.cg_out.specs.Words.{same_bool}
use Rattle.limit_fraction.specs.Decimal.{number_of}
use Rattle.limit_fraction.specs.Unit.{IsTooWide}
use Rattle.can_model.specs.declared.database.Database.{Database}
use Rattle.can_model.specs.declared.database.Message.{Message}
use Rattle.can_model.specs.declared.database.Signal.{Signal}
use Rattle.can_model.specs.declared.database.MuxRange.{MuxRange}
use Rattle.can_model.specs.declared.check_kind.CheckKind.{CheckKind}
use Rattle.can_model.specs.declared.check_kind.CheckKind.TheVariants.{DuplicateMessageName, DuplicateMessageId, DuplicateSignalName, FrameIdRange, MessageTooLong, SignalLength, SignalOutside, Overlap, MuxParentUnknown, MuxIdRange, FloatSignal, ScaleTooWide, TooMany, ExtendedMultiplexing, MuxCycle}
use Rattle.can_model.specs.CheckRefusal.{check_number}
use Rattle.can_model.specs.RawValue.{has_bits, is_raw}
use Rattle.can_model.specs.Place.{HasPlace, SharePlace}
use Rattle.can_model.specs.Active.{lies_in, IsActive}

-- ---- messages

-- both frames have one id and are of one kind
abbrev pub same_frame : Message → Message → Bool
same_frame a b = a.id == b.id && same_bool a.extended b.extended

-- the greatest id of a frame: 11 bits, or 29 where it is extended
abbrev pub greatest_id : Bool → ℕ
greatest_id extended = if extended then 536870911 else 2047

-- a message has this fault, where these messages stand before it
abbrev pub message_has : List Message → Message → CheckKind → Bool
message_has before m DuplicateMessageName = list_any (λ e. bytes_eq e.name m.name) before
message_has before m DuplicateMessageId = list_any (λ e. same_frame e m) before
message_has before m FrameIdRange = nat_lt (greatest_id m.extended) m.id
message_has before m MessageTooLong = nat_lt 2048 m.length
message_has before m TooMany = nat_lt 4096 (length m.signals)
message_has before m kind = false

-- ---- multiplexed signals

-- signal k is the selector of signal i
abbrev pub IsSelectorOf : Message → ℕ → ℕ → Type 0
IsSelectorOf m i k = IsSomeAnd (slice_get m.signals i) (λ s. IsSomeAnd s.parent (λ p. p.selector ≡ Some k))

-- so many steps from a signal to its selector lead from i to k
abbrev pub Leads : Message → ℕ → ℕ → ℕ → Type 0
Leads m zero i k = i ≡ k
Leads m (suc n) i k = (j : ℕ) × IsSelectorOf m i j × Leads m n j k

-- some values of the message's signals make both active
abbrev pub CanBothBeActive : Message → ℕ → ℕ → Type 0
CanBothBeActive m i j =
    (values : List ℤ) × (length values ≡ length m.signals) × IsActive m (map Some values) i × IsActive m (map Some values) j

-- the range ends before it begins, or has an end that is no raw value of the selector
abbrev pub is_outside : Signal → MuxRange → Bool
is_outside s r = nat_lt r.last r.first || not (is_raw s.length s.signed (pos r.first) && is_raw s.length s.signed (pos r.last))

-- more than one value lies in the ranges
abbrev pub HasTwoValues : List MuxRange → Type 0
HasTwoValues ranges = (v : ℤ) × (w : ℤ) × (v ≢ w) × (lies_in ranges v ≡ true) × (lies_in ranges w ≡ true)

-- ---- signals

-- signal j of the message has this fault
abbrev pub SignalHas : Message → ℕ → Signal → CheckKind → Type 0
SignalHas m j s DuplicateSignalName = list_any (λ e. bytes_eq e.name s.name) (take j m.signals) ≡ true
SignalHas m j s SignalLength = has_bits s.length ≡ false
SignalHas m j s SignalOutside = (p : ℕ) × HasPlace s p × (8 * m.length ≤ p)
SignalHas m j s Overlap = (i : ℕ) × (i < j) × IsSomeAnd (slice_get m.signals i) (λ e. SharePlace e s) × CanBothBeActive m i j
SignalHas m j s MuxParentUnknown = IsSomeAnd s.parent (λ p. p.selector ≡ None)
SignalHas m j s MuxIdRange = IsSomeAnd s.parent (λ p. (i : ℕ) × (p.selector ≡ Some i) × IsSomeAnd (slice_get m.signals i) (λ e. list_any (is_outside e) p.ranges ≡ true))
SignalHas m j s FloatSignal = s.is_float ≡ true
SignalHas m j s ScaleTooWide = IsTooWide (number_of s.factor) (number_of s.offset)
SignalHas m j s ExtendedMultiplexing =
    IsSomeAnd s.parent (λ p. HasTwoValues p.ranges ⊎ ((i : ℕ) × (p.selector ≡ Some i) × IsSomeAnd (slice_get m.signals i) (λ e. IsSomeAnd e.parent (λ q. Unit {0}))))
SignalHas m j s MuxCycle = (n : ℕ) × Leads m (suc n) j j
SignalHas m j s kind = ⊥

-- ---- the database

-- where a fault stands, in the order in which faults are told: the number of messages, that of all signals, a message itself, a signal of it
pub data Position : Type 0 where
  messages : Position
  signals : Position
  message : (i : ℕ) → Position
  signal : (i : ℕ) → (j : ℕ) → Position

-- what is told of a fault; names that do not apply are empty
pub record Fault : Type 0 where
  pub kind : CheckKind
  pub line : ℕ
  pub message : List ℕ
  pub signal : List ℕ

abbrev pub all_signals : Database → List Signal
all_signals db = flat_map (λ m. m.signals) db.messages

-- the database has this fault there
abbrev pub IsFault : Database → Position → Fault → Type 0
IsFault db messages f = IsSomeAnd (slice_get db.messages 16384) (λ m. f ≡ record { kind = TooMany; line = m.line; message = []; signal = [] })
IsFault db signals f = IsSomeAnd (slice_get (all_signals db) 32768) (λ s. f ≡ record { kind = TooMany; line = s.line; message = []; signal = [] })
IsFault db (message i) f =
    IsSomeAnd (slice_get db.messages i) (λ m. (message_has (take i db.messages) m f.kind ≡ true) × (f ≡ record { kind = f.kind; line = m.line; message = m.name; signal = [] }))
IsFault db (signal i j) f =
    IsSomeAnd (slice_get db.messages i) (λ m. IsSomeAnd (slice_get m.signals j) (λ s. SignalHas m j s f.kind × (f ≡ record { kind = f.kind; line = s.line; message = m.name; signal = s.name })))

-- a position as a pair of numbers: those of the database come first, then message by message its own and those of its signals
abbrev pub pair_of : Position → ℕ × ℕ
pair_of messages = (0, 0)
pair_of signals = (0, 1)
pair_of (message i) = (suc i, 0)
pair_of (signal i j) = (suc i, suc j)

-- the pair p with the number k comes no later than q with l: by the first, then the second, then the number
abbrev pub IsNoLater : ℕ × ℕ → ℕ → ℕ × ℕ → ℕ → Type 0
IsNoLater p k q l = (p.0 < q.0) ⊎ ((p.0 ≡ q.0) × ((p.1 < q.1) ⊎ ((p.1 ≡ q.1) × (k ≤ l))))

abbrev pub IsValid : Database → Type 0
IsValid db = (p : Position) (f : Fault) → ¬ IsFault db p f

-- a message of a database without a fault
abbrev pub IsOfValidDatabase : Message → Type 0
IsOfValidDatabase m = (db : Database) × (i : ℕ) × IsValid db × (slice_get db.messages i ≡ Some m)

-- the database has this fault, and none comes before it
pub record IsFirstFault (db : Database) (f : Fault) : Type 0 where
  pub position : Position
  pub there : IsFault db position f
  pub first : (q : Position) (g : Fault) → IsFault db q g → IsNoLater (pair_of position) (check_number f.kind) (pair_of q) (check_number g.kind)
