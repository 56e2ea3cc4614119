-- The first fault of a database, from those of its parts.
use Rattle.std.proofs.Common.{◌≡◌, ◌⊎◌, inl, inr, ℕ, suc, ◌<◌, ◌≤◌, List, [], take, Option, Some, None, refl, sym, ap, subst, arith}
use Rattle.std.specs.Prelude.{slice_get, IsSomeAnd}
use native.Mathlib.Decide.{ℕ_discrete, dec_lt}
use Rattle.can_model.specs.CheckRefusal.{check_number}
use Rattle.can_model.specs.Validity.{Fault, Position, messages, signals, message, signal, IsFault, IsValid, IsFirstFault, IsNoLater, pair_of, all_signals, SignalHas}
use Rattle.can_model.specs.declared.database.Database.{Database}
use Rattle.can_model.specs.declared.database.Message.{Message}
use Rattle.can_model.specs.declared.database.Signal.{Signal}
use Rattle.can_model.specs.declared.check_kind.CheckKind.TheVariants.{TooMany}
use Rattle.db_check.specs.Kinds.{IsClean, IsLeast}
use Rattle.db_check.specs.Counts.{AreFew}
use Rattle.db_check.specs.OfSignals as of_signals
use Rattle.db_check.specs.OfSignals.{AreClean, IsFirstOfSignals}
use Rattle.db_check.specs.OfMessage.{Has, IsCleanMessage, IsFirstOfMessage}
use Rattle.db_check.specs.OfMessages.{IsCleanAt, IsFirstOfMessages}
use Rattle.can_model.proofs.Elements.{some_and, and_some, if_some}

none_there : {A : Type 0} (P : A → Type 0) (o : Option A) → o ≡ None → ¬ IsSomeAnd o P
none_there {A} P o e h = by (some_and P o h) where
  by : (x : A) × (o ≡ Some x) × P x → ⊥
  by (x, is, p) = absurd (cc)

-- what a fault at each kind of position says

abbrev pub ManyMessages : Fault → Message → Type 0
ManyMessages g m = g ≡ record { kind = TooMany; line = m.line; message = []; signal = [] }

abbrev pub ManySignals : Fault → Signal → Type 0
ManySignals g s = g ≡ record { kind = TooMany; line = s.line; message = []; signal = [] }

abbrev pub OwnFault : List Message → Fault → Message → Type 0
OwnFault before g m = Has before m g.kind × (g ≡ record { kind = g.kind; line = m.line; message = m.name; signal = [] })

abbrev pub FaultOf : Message → ℕ → Fault → Signal → Type 0
FaultOf m j g s = SignalHas m j s g.kind × (g ≡ record { kind = g.kind; line = s.line; message = m.name; signal = s.name })

abbrev pub SignalFault : Message → ℕ → Fault → Type 0
SignalFault m j g = IsSomeAnd (slice_get m.signals j) (FaultOf m j g)

-- at the message there
at_message : (db : Database) (i : ℕ) (m : Message) (g : Fault) → slice_get db.messages i ≡ Some m → IsFault db (message i) g → Has (take i db.messages) m g.kind
at_message db i m g at fault = by (some_and (OwnFault (take i db.messages) g) (slice_get db.messages i) fault) where
  by : (n : Message) × (slice_get db.messages i ≡ Some n) × OwnFault (take i db.messages) g n → Has (take i db.messages) m g.kind
  by (n, is, (h, e)) = let same : n ≡ m = cc in subst (λ m. Has (take i db.messages) m g.kind) same h

pub at_signal : (db : Database) (i j : ℕ) (m : Message) (g : Fault) → slice_get db.messages i ≡ Some m → IsFault db (signal i j) g → SignalFault m j g
at_signal db i j m g at fault = by (some_and (λ m. SignalFault m j g) (slice_get db.messages i) fault) where
  by : (n : Message) × (slice_get db.messages i ≡ Some n) × SignalFault n j g → SignalFault m j g
  by (n, is, h) = let same : n ≡ m = cc in subst (λ m. SignalFault m j g) same h

clean_signals : (m : Message) (j : ℕ) (g : Fault) → of_signals.IsCleanAt m j → ¬ SignalFault m j g
clean_signals m j g clean fault = by (some_and (FaultOf m j g) (slice_get m.signals j) fault) where
  by : (s : Signal) × (slice_get m.signals j ≡ Some s) × FaultOf m j g s → ⊥
  by (s, is, (h, e)) = if_some (λ s. IsClean (SignalHas m j s)) (slice_get m.signals j) s is clean g.kind h

-- a clean message has no fault at its positions
no_own : (db : Database) (i : ℕ) (g : Fault) → IsCleanAt db.messages i → ¬ IsFault db (message i) g
no_own db i g clean fault = by (some_and (OwnFault (take i db.messages) g) (slice_get db.messages i) fault) where
  by : (m : Message) × (slice_get db.messages i ≡ Some m) × OwnFault (take i db.messages) g m → ⊥
  by (m, is, (h, e)) = (if_some (IsCleanMessage (take i db.messages)) (slice_get db.messages i) m is clean).own g.kind h

no_signals : (db : Database) (i j : ℕ) (g : Fault) → IsCleanAt db.messages i → ¬ IsFault db (signal i j) g
no_signals db i j g clean fault = by (some_and (λ m. SignalFault m j g) (slice_get db.messages i) fault) where
  by : (m : Message) × (slice_get db.messages i ≡ Some m) × SignalFault m j g → ⊥
  by (m, is, h) = clean_signals m j g ((if_some (IsCleanMessage (take i db.messages)) (slice_get db.messages i) m is clean).signals j) h

module _ (db : Database) (few : AreFew db) where
  no_messages : (g : Fault) → ¬ IsFault db messages g
  no_messages g fault = none_there (ManyMessages g) (slice_get db.messages 16384) few.messages fault

  no_all : (g : Fault) → ¬ IsFault db signals g
  no_all g fault = none_there (ManySignals g) (slice_get (all_signals db) 32768) few.signals fault

  pub valid : ((i : ℕ) → IsCleanAt db.messages i) → IsValid db
  valid clean messages g fault = no_messages g fault
  valid clean signals g fault = no_all g fault
  valid clean (message i) g fault = no_own db i g (clean i) fault
  valid clean (signal i j) g fault = no_signals db i j g (clean i) fault

  -- the first message with a fault
  module _ (index : ℕ) (before : (i : ℕ) → i < index → IsCleanAt db.messages i) (m : Message) (at : slice_get db.messages index ≡ Some m) where
    -- a fault of its own
    module _ (f : Fault) (h : IsLeast (Has (take index db.messages) m) f.kind) where
      own_message : (i : ℕ) (g : Fault) → IsFault db (message i) g → Dec (i < index) → Dec (i ≡ index) → IsNoLater (suc index, 0) (check_number f.kind) (suc i, 0) (check_number g.kind)
      own_message i g fault (yes lt) same = absurd (no_own db i g (before i lt) fault)
      own_message i g fault (no nl) (yes e) =
          let has : Has (take index db.messages) m g.kind = at_message db index m g at (subst (λ i. IsFault db (message i) g) e fault) in
          inr (ap suc (sym e), inr (refl, h.least g.kind has))
      own_message i g fault (no nl) (no ne) = inl (omega arith)

      own_signal : (i j : ℕ) (g : Fault) → IsFault db (signal i j) g → Dec (i < index) → Dec (i ≡ index) → IsNoLater (suc index, 0) (check_number f.kind) (suc i, suc j) (check_number g.kind)
      own_signal i j g fault (yes lt) same = absurd (no_signals db i j g (before i lt) fault)
      own_signal i j g fault (no nl) (yes e) = inr (ap suc (sym e), inl (omega arith))
      own_signal i j g fault (no nl) (no ne) = inl (omega arith)

      own_first : (q : Position) (g : Fault) → IsFault db q g → IsNoLater (suc index, 0) (check_number f.kind) (pair_of q) (check_number g.kind)
      own_first messages g fault = absurd (no_messages g fault)
      own_first signals g fault = absurd (no_all g fault)
      own_first (message i) g fault = own_message i g fault (dec_lt i index) (ℕ_discrete i index)
      own_first (signal i j) g fault = own_signal i j g fault (dec_lt i index) (ℕ_discrete i index)

      of_own : f ≡ record { kind = f.kind; line = m.line; message = m.name; signal = [] } → IsFirstFault db f
      of_own e = record {
        position = message index;
        there = and_some (OwnFault (take index db.messages) f) (slice_get db.messages index) m at (h.there, e);
        first = own_first;
      }

    -- a fault of its signals
    module _ (f : Fault) (own : IsClean (Has (take index db.messages) m)) (s : Signal) (h : IsFirstOfSignals m f) (at_s : slice_get m.signals h.index ≡ Some s) (least : IsLeast (SignalHas m h.index s) f.kind) where
      signal_at : (j : ℕ) (g : Fault) → SignalFault m j g → Dec (j < h.index) → Dec (j ≡ h.index) → (suc h.index < suc j) ⊎ ((suc h.index ≡ suc j) × (check_number f.kind ≤ check_number g.kind))
      signal_at j g fault (yes lt) same = absurd (clean_signals m j g (h.before j lt) fault)
      signal_at j g fault (no nl) (yes e) = by (some_and (FaultOf m h.index g) (slice_get m.signals h.index) (subst (λ j. SignalFault m j g) e fault)) where
        by : (t : Signal) × (slice_get m.signals h.index ≡ Some t) × FaultOf m h.index g t → (suc h.index < suc j) ⊎ ((suc h.index ≡ suc j) × (check_number f.kind ≤ check_number g.kind))
        by (t, is, (has, told)) = let same : t ≡ s = cc in inr (ap suc (sym e), least.least g.kind (subst (λ s. SignalHas m h.index s g.kind) same has))
      signal_at j g fault (no nl) (no ne) = inl (omega arith)

      of_message : (i : ℕ) (g : Fault) → IsFault db (message i) g → Dec (i < index) → Dec (i ≡ index) → IsNoLater (suc index, suc h.index) (check_number f.kind) (suc i, 0) (check_number g.kind)
      of_message i g fault (yes lt) same = absurd (no_own db i g (before i lt) fault)
      of_message i g fault (no nl) (yes e) = absurd (own g.kind (at_message db index m g at (subst (λ i. IsFault db (message i) g) e fault)))
      of_message i g fault (no nl) (no ne) = inl (omega arith)

      of_signal : (i j : ℕ) (g : Fault) → IsFault db (signal i j) g → Dec (i < index) → Dec (i ≡ index) → IsNoLater (suc index, suc h.index) (check_number f.kind) (suc i, suc j) (check_number g.kind)
      of_signal i j g fault (yes lt) same = absurd (no_signals db i j g (before i lt) fault)
      of_signal i j g fault (no nl) (yes e) =
          inr (ap suc (sym e), signal_at j g (at_signal db index j m g at (subst (λ i. IsFault db (signal i j) g) e fault)) (dec_lt j h.index) (ℕ_discrete j h.index))
      of_signal i j g fault (no nl) (no ne) = inl (omega arith)

      signal_first : (q : Position) (g : Fault) → IsFault db q g → IsNoLater (suc index, suc h.index) (check_number f.kind) (pair_of q) (check_number g.kind)
      signal_first messages g fault = absurd (no_messages g fault)
      signal_first signals g fault = absurd (no_all g fault)
      signal_first (message i) g fault = of_message i g fault (dec_lt i index) (ℕ_discrete i index)
      signal_first (signal i j) g fault = of_signal i j g fault (dec_lt i index) (ℕ_discrete i index)

      of_its_signals : f ≡ record { kind = f.kind; line = s.line; message = m.name; signal = s.name } → IsFirstFault db f
      of_its_signals e = record {
        position = signal index h.index;
        there = and_some (λ m. SignalFault m h.index f) (slice_get db.messages index) m at
            (and_some (FaultOf m h.index f) (slice_get m.signals h.index) s at_s (least.there, e));
        first = signal_first;
      }

  pub first_of_messages : (f : Fault) → IsFirstOfMessages db.messages f → IsFirstFault db f
  first_of_messages f h = by (some_and (λ m. IsFirstOfMessage (take h.index db.messages) m f) (slice_get db.messages h.index) h.there) where
    in_signals : (m : Message) → slice_get db.messages h.index ≡ Some m → IsClean (Has (take h.index db.messages) m) → (first : IsFirstOfSignals m f)
        → (s : Signal) × (slice_get m.signals first.index ≡ Some s) × (IsLeast (SignalHas m first.index s) f.kind × (f ≡ record { kind = f.kind; line = s.line; message = m.name; signal = s.name })) → IsFirstFault db f
    in_signals m at own first (s, at_s, (least, e)) = of_its_signals h.index h.before m at f own s first at_s least e

    by : (m : Message) × (slice_get db.messages h.index ≡ Some m) × IsFirstOfMessage (take h.index db.messages) m f → IsFirstFault db f
    by (m, at, inl (least, e)) = of_own h.index h.before m at f least e
    by (m, at, inr (own, first)) = in_signals m at own first (some_and (λ s. IsLeast (SignalHas m first.index s) f.kind × (f ≡ record { kind = f.kind; line = s.line; message = m.name; signal = s.name })) (slice_get m.signals first.index) first.there)
