-- A database has at most one first fault, and none where it is valid.
use Rattle.std.proofs.Common.{◌≡◌, ◌⊎◌, inl, inr, ℕ, [], take, Some, refl, ap, subst, ◌∙◌, arith}
use Rattle.std.specs.Prelude.{slice_get, IfSome}
use Rattle.can_model.specs.CheckRefusal.{check_number}
use Rattle.can_model.specs.Validity.{Fault, Position, messages, signals, message, signal, IsFault, IsFirstFault, IsNoLater, pair_of, all_signals}
use Rattle.can_model.specs.declared.database.Database.{Database}
use Rattle.can_model.specs.declared.database.Message.{Message}
use Rattle.can_model.specs.declared.database.Signal.{Signal}
use Rattle.can_model.specs.declared.check_kind.CheckKind.TheVariants.{TooMany}
use Rattle.can_model.proofs.Elements.{some_and}
use Rattle.db_check.proofs.KindOrder.{same_kind}
use Rattle.db_check.specs.Answer.{fault_of}
use Rattle.db_check.specs.declared.refusal.CheckFault.{CheckFault}
use Rattle.db_check.specs.declared.refusal.CheckFault.TheVariants as told
use Rattle.db_check.proofs.FirstFaults.{ManyMessages, ManySignals, OwnFault, FaultOf, SignalFault, at_signal}

module _ (db : Database) where
  same_position : (p q : Position) → (pair_of p).0 ≡ (pair_of q).0 → (pair_of p).1 ≡ (pair_of q).1 → p ≡ q
  same_position messages messages a b = refl
  same_position messages signals a b = absurd (omega arith)
  same_position messages (message i) a b = absurd (omega arith)
  same_position messages (signal i j) a b = absurd (omega arith)
  same_position signals messages a b = absurd (omega arith)
  same_position signals signals a b = refl
  same_position signals (message i) a b = absurd (omega arith)
  same_position signals (signal i j) a b = absurd (omega arith)
  same_position (message i) messages a b = absurd (omega arith)
  same_position (message i) signals a b = absurd (omega arith)
  same_position (message i) (message k) a b = let e : i ≡ k = omega arith in ap message e
  same_position (message i) (signal k l) a b = absurd (omega arith)
  same_position (signal i j) messages a b = absurd (omega arith)
  same_position (signal i j) signals a b = absurd (omega arith)
  same_position (signal i j) (message k) a b = absurd (omega arith)
  same_position (signal i j) (signal k l) a b = let e : i ≡ k = omega arith in let d : j ≡ l = omega arith in ap (λ i. signal i j) e ∙ ap (signal k) d

  both_ways : (p q : ℕ × ℕ) (k l : ℕ) → IsNoLater p k q l → IsNoLater q l p k → (p.0 ≡ q.0) × (p.1 ≡ q.1) × (k ≡ l)
  both_ways p q k l (inl lt) (inl gt) = absurd (omega arith)
  both_ways p q k l (inl lt) (inr (e, h)) = absurd (omega arith)
  both_ways p q k l (inr (e, h)) (inl gt) = absurd (omega arith)
  both_ways p q k l (inr (e, inl lt)) (inr (d, inl gt)) = absurd (omega arith)
  both_ways p q k l (inr (e, inl lt)) (inr (d, inr (same, le))) = absurd (omega arith)
  both_ways p q k l (inr (e, inr (same, le))) (inr (d, inl gt)) = absurd (omega arith)
  both_ways p q k l (inr (e, inr (same, le))) (inr (d, inr (also, ge))) = (e, same, omega arith)

  -- at one position faults of one kind are equal
  one_fault : (p : Position) (f g : Fault) → f.kind ≡ g.kind → IsFault db p f → IsFault db p g → f ≡ g
  one_fault messages f g kinds a b = by (some_and (ManyMessages f) (slice_get db.messages 16384) a) (some_and (ManyMessages g) (slice_get db.messages 16384) b) where
    by : (m : Message) × (slice_get db.messages 16384 ≡ Some m) × (f ≡ record { kind = TooMany; line = m.line; message = []; signal = [] }) → (n : Message) × (slice_get db.messages 16384 ≡ Some n) × (g ≡ record { kind = TooMany; line = n.line; message = []; signal = [] }) → f ≡ g
    by (m, at, e) (n, is, d) = let same : m ≡ n = cc in cc
  one_fault signals f g kinds a b = by (some_and (ManySignals f) (slice_get (all_signals db) 32768) a) (some_and (ManySignals g) (slice_get (all_signals db) 32768) b) where
    by : (m : Signal) × (slice_get (all_signals db) 32768 ≡ Some m) × (f ≡ record { kind = TooMany; line = m.line; message = []; signal = [] }) → (n : Signal) × (slice_get (all_signals db) 32768 ≡ Some n) × (g ≡ record { kind = TooMany; line = n.line; message = []; signal = [] }) → f ≡ g
    by (m, at, e) (n, is, d) = let same : m ≡ n = cc in cc
  one_fault (message i) f g kinds a b = by (some_and (OwnFault (take i db.messages) f) (slice_get db.messages i) a) (some_and (OwnFault (take i db.messages) g) (slice_get db.messages i) b) where
    by : (m : Message) × (slice_get db.messages i ≡ Some m) × OwnFault (take i db.messages) f m → (n : Message) × (slice_get db.messages i ≡ Some n) × OwnFault (take i db.messages) g n → f ≡ g
    by (m, at, (h, e)) (n, is, (k, d)) = let same : m ≡ n = cc in cc
  one_fault (signal i j) f g kinds a b = by (some_and (λ m. SignalFault m j f) (slice_get db.messages i) a) where
    in_message : (m : Message) → (s : Signal) × (slice_get m.signals j ≡ Some s) × FaultOf m j f s
        → (t : Signal) × (slice_get m.signals j ≡ Some t) × FaultOf m j g t → f ≡ g
    in_message m (s, at, (h, e)) (t, is, (k, d)) = let same : s ≡ t = cc in cc

    by : (m : Message) × (slice_get db.messages i ≡ Some m) × SignalFault m j f → f ≡ g
    by (m, at, h) = in_message m (some_and (FaultOf m j f) (slice_get m.signals j) h)
        (some_and (FaultOf m j g) (slice_get m.signals j) (at_signal db i j m g at b))

  pub one_first : (f g : Fault) → IsFirstFault db f → IsFirstFault db g → f ≡ g
  one_first f g h k = by (both_ways (pair_of h.position) (pair_of k.position) (check_number f.kind) (check_number g.kind) (h.first k.position g k.there) (k.first h.position f h.there)) where
    by : ((pair_of h.position).0 ≡ (pair_of k.position).0) × ((pair_of h.position).1 ≡ (pair_of k.position).1) × (check_number f.kind ≡ check_number g.kind) → f ≡ g
    by (a, b, c) = one_fault k.position f g (same_kind f.kind g.kind c) (subst (λ p. IsFault db p f) (same_position h.position k.position a b) h.there) k.there

-- a refusal that tells a first fault tells this one
pub refusal : (db : Database) (e : CheckFault) → IfSome (fault_of e) (IsFirstFault db) → (f : Fault) → IsFirstFault db f → (fault_of e ≡ Some f) ⊎ (e ≡ told.Memory)
refusal db (told.Fault kind line in_message of_signal) h f first = inl (ap Some (one_first db (record { kind = kind; line = line; message = in_message; signal = of_signal }) f h first))
refusal db told.Memory h f first = inr refl
