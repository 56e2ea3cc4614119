-- The faults of one message, by what a walk over the messages keeps.
use Rattle.std.proofs.Common.{◌≡◌, inl, inr, ℕ, ◌+◌, ◌<◌, ◌≤◌, Bool, true, false, List, [], ◌∷◌, ◌++◌, length, take, map, Option, Some, None, refl, sym, ap, subst, ◌∙◌, arith, bytes_eq}
use Rattle.std.specs.Prelude.{slice_get, is_some, nat_lt, ◌==◌, ◌&&◌, ◌||◌}
use mathlib.Core.Bool.{beq}
use Rattle.std.specs.Borrow.{Bor}
use Rattle.name_table.specs.Entries.{lent}
use Rattle.std.specs.List.{list_any}
use Rattle.std.proofs.lemmas.List.{map-append}
use Rattle.std.proofs.lemmas.Option.{slice_get_within}
use native.Mathlib.Decide.{ℕ_discrete, dec_lt}
use Rattle.std.proofs.lemmas.Grind.{common_steps}
use Rattle.cg_out.specs.Words.{look_up, same_bool}
use Rattle.can_model.specs.Validity.{same_frame, Fault}
use Rattle.can_model.specs.declared.database.Message.{Message}
use Rattle.can_model.specs.declared.check_kind.CheckKind.{CheckKind}
use Rattle.can_model.specs.declared.check_kind.CheckKind.TheVariants.{DuplicateMessageName, DuplicateMessageId, DuplicateSignalName, FrameIdRange, MessageTooLong, SignalLength, SignalOutside, Overlap, MuxParentUnknown, MuxIdRange, FloatSignal, ScaleTooWide, TooMany, ExtendedMultiplexing, MuxCycle}
use Rattle.db_check.specs.Kinds.{IsClean, IsLeast}
use Rattle.db_check.specs.OfSignals.{AreClean, IsFirstOfSignals}
use Rattle.db_check.specs.OfMessage.{Shows, Has, IsCleanMessage, IsFirstOfMessage}
use Rattle.db_check.specs.OfMessages.{IsCleanAt, entry_of, frame_of, HavePassed, IsFirstOfMessages}
use Rattle.db_check.proofs.KindOrder.{NoneBelow, none_yet, nor, least, own_kind}
use Rattle.can_model.proofs.Elements.{and_some, some_if}
use Rattle.db_check.proofs.Elements.{take_one, any_named}

-- ---- the least kind

module _ (names : List (List ℕ × Unit {0})) (frames : List (ℕ × Bool)) (m : Message)
    (new_name : ¬ Shows names frames m DuplicateMessageName) (new_frame : ¬ Shows names frames m DuplicateMessageId) where
  below_13 : NoneBelow (Shows names frames m) 13
  below_13 = nor (Shows names frames m) DuplicateSignalName (λ h. h) (nor (Shows names frames m) DuplicateMessageId new_frame (nor (Shows names frames m) DuplicateMessageName new_name (none_yet (Shows names frames m))))

  pub id_least : Shows names frames m FrameIdRange → IsLeast (Shows names frames m) FrameIdRange
  id_least h = least (Shows names frames m) FrameIdRange below_13 h

  module _ (in_range : ¬ Shows names frames m FrameIdRange) where
    below_14 : NoneBelow (Shows names frames m) 14
    below_14 = nor (Shows names frames m) FrameIdRange in_range below_13

    pub length_least : Shows names frames m MessageTooLong → IsLeast (Shows names frames m) MessageTooLong
    length_least h = least (Shows names frames m) MessageTooLong below_14 h

    module _ (short : ¬ Shows names frames m MessageTooLong) where
      below_18 : NoneBelow (Shows names frames m) 18
      below_18 = nor (Shows names frames m) Overlap (λ h. h) (nor (Shows names frames m) SignalOutside (λ h. h) (nor (Shows names frames m) SignalLength (λ h. h) (nor (Shows names frames m) MessageTooLong short below_14)))

      below_22 : NoneBelow (Shows names frames m) 22
      below_22 = nor (Shows names frames m) ScaleTooWide (λ h. h) (nor (Shows names frames m) FloatSignal (λ h. h) (nor (Shows names frames m) MuxIdRange (λ h. h) (nor (Shows names frames m) MuxParentUnknown (λ h. h) below_18)))

      pub count_least : Shows names frames m TooMany → IsLeast (Shows names frames m) TooMany
      count_least h = least (Shows names frames m) TooMany below_22 h

-- ---- one message

any_framed : (m : Message) (xs : List Message) → list_any (λ (f : ℕ × Bool). f.0 == m.id && same_bool f.1 m.extended) (map frame_of xs) ≡ list_any (λ e. same_frame e m) xs
any_framed m [] = refl
any_framed m (x ∷ xs) = ap (λ b. same_frame x m || b) (any_framed m xs)

module _ {ms : List Message} {n : ℕ} {names : List (List ℕ × Unit {0})} {frames : List (ℕ × Bool)} {m : Message}
    (at : slice_get ms n ≡ Some m) (passed : HavePassed ms n names frames) where
  named : is_some (look_up m.name names) ≡ list_any (λ e. bytes_eq e.name m.name) (take n ms)
  named = ap (λ t. is_some (look_up m.name t)) passed.names_are ∙ any_named (λ (e : Message). e.name) m.name (take n ms)

  framed : list_any (λ (f : ℕ × Bool). f.0 == m.id && same_bool f.1 m.extended) frames ≡ list_any (λ e. same_frame e m) (take n ms)
  framed = ap (λ fs. list_any (λ (f : ℕ × Bool). f.0 == m.id && same_bool f.1 m.extended) fs) passed.frames_are ∙ any_framed m (take n ms)

  shows : (k : CheckKind) → Has (take n ms) m k → Shows names frames m k
  shows DuplicateMessageName h = named ∙ h
  shows DuplicateMessageId h = framed ∙ h
  shows FrameIdRange h = h
  shows MessageTooLong h = h
  shows TooMany h = h
  shows DuplicateSignalName h = absurd (cc)
  shows SignalLength h = absurd (cc)
  shows SignalOutside h = absurd (cc)
  shows Overlap h = absurd (cc)
  shows MuxParentUnknown h = absurd (cc)
  shows MuxIdRange h = absurd (cc)
  shows FloatSignal h = absurd (cc)
  shows ScaleTooWide h = absurd (cc)
  shows ExtendedMultiplexing h = absurd (cc)
  shows MuxCycle h = absurd (cc)

  has : (k : CheckKind) → Shows names frames m k → Has (take n ms) m k
  has DuplicateMessageName h = sym named ∙ h
  has DuplicateMessageId h = sym framed ∙ h
  has FrameIdRange h = h
  has MessageTooLong h = h
  has TooMany h = h
  has DuplicateSignalName h = absurd h
  has SignalLength h = absurd h
  has SignalOutside h = absurd h
  has Overlap h = absurd h
  has MuxParentUnknown h = absurd h
  has MuxIdRange h = absurd h
  has FloatSignal h = absurd h
  has ScaleTooWide h = absurd h
  has ExtendedMultiplexing h = absurd h
  has MuxCycle h = absurd h

  is_clean : IsClean (Shows names frames m) → IsClean (Has (take n ms) m)
  is_clean clean k h = clean k (shows k h)

  is_least : (k : CheckKind) → IsLeast (Shows names frames m) k → IsLeast (Has (take n ms) m) k
  is_least k h = record { there = has k h.there; least = λ l g. h.least l (shows l g) }

  first_at : (f : Fault) → IsFirstOfMessage (take n ms) m f → IsFirstOfMessages ms f
  first_at f h = record {
    index = n;
    there = and_some (λ m. IsFirstOfMessage (take n ms) m f) (slice_get ms n) m at h;
    before = passed.clean;
  }

  -- the message has a fault
  pub first_own : (k : CheckKind) (f : Fault) → IsLeast (Shows names frames m) k → f ≡ record { kind = k; line = m.line; message = m.name; signal = [] } → IsFirstOfMessages ms f
  first_own k f h e = first_at f (inl (subst (IsLeast (Has (take n ms) m)) (sym (ap (λ (f : Fault). f.kind) e)) (is_least k h), own_kind f k m.line m.name [] e))

  module _ (clean : IsClean (Shows names frames m)) where
    pub unnamed : look_up m.name names ≡ None
    unnamed = by (look_up m.name names) (clean DuplicateMessageName) where
      by : (o : Option (Unit {0})) → ¬ (is_some o ≡ true) → o ≡ None
      by None h = refl
      by (Some x) h = absurd (h refl)

    pub new_frame : list_any (λ (f : ℕ × Bool). f.0 == m.id && same_bool f.1 m.extended) frames ≡ false
    new_frame = by (list_any (λ (f : ℕ × Bool). f.0 == m.id && same_bool f.1 m.extended) frames) (clean DuplicateMessageId) where
      by : (b : Bool) → ¬ (b ≡ true) → b ≡ false
      by true h = absurd (h refl)
      by false h = refl

    -- a signal has one
    pub first_of_its_signals : (f : Fault) → IsFirstOfSignals m f → IsFirstOfMessages ms f
    first_of_its_signals f h = first_at f (inr (is_clean clean, h))

    -- it passes with its signals
    pub passes : AreClean m → HavePassed ms (n + 1) (names ++ (m.name, tt) ∷ []) (frames ++ (m.id, m.extended) ∷ [])
    passes signals = record {
      clean = clean_more;
      names_are = ap (λ t. t ++ (m.name, tt {0}) ∷ []) passed.names_are ∙ sym (ap (map entry_of) (take_one ms n m at) ∙ map-append entry_of (take n ms) (m ∷ []));
      frames_are = ap (λ t. t ++ (m.id, m.extended) ∷ []) passed.frames_are ∙ sym (ap (map frame_of) (take_one ms n m at) ∙ map-append frame_of (take n ms) (m ∷ []));
    } where
      whole : IsCleanMessage (take n ms) m
      whole = record { own = is_clean clean; signals = signals }

      clean_more : (i : ℕ) → i < n + 1 → IsCleanAt ms i
      clean_more i lt = by (ℕ_discrete i n) where
        by : Dec (i ≡ n) → IsCleanAt ms i
        by (yes e) = subst (IsCleanAt ms) (sym e) (some_if (IsCleanMessage (take n ms)) (slice_get ms n) (λ t at_t. let same : m ≡ t = cc in subst (IsCleanMessage (take n ms)) same whole))
        by (no ne) = passed.clean i (omega arith)

pub all_passed : (ms : List Message) (n : ℕ) (names : List (List ℕ × Unit {0})) (frames : List (ℕ × Bool)) → length ms ≤ n → HavePassed ms n names frames → (i : ℕ) → IsCleanAt ms i
all_passed ms n names frames all passed i = by (dec_lt i n) where
  by : Dec (i < n) → IsCleanAt ms i
  by (yes lt) = passed.clean i lt
  by (no nl) = some_if (λ m. IsCleanMessage (take i ms) m) (slice_get ms i) (λ m at. let lt : i < length ms = slice_get_within ms i m at in absurd (omega arith))

-- a set's test for a frame
either-bool : (a b : Bool) → beq a b ≡ same_bool b a
either-bool true true = refl
either-bool true false = refl
either-bool false true = refl
either-bool false false = refl

either-number : (a b : ℕ) → (a == b) ≡ (b == a)
either-number a b = grind (arith, common_steps)

pub same_test : (id : ℕ) (extended : Bool) (fs : List (ℕ × Bool)) → list_any (λ (f : ℕ × Bool). id == f.0 && beq extended f.1) fs ≡ list_any (λ (f : ℕ × Bool). f.0 == id && same_bool f.1 extended) fs
same_test id extended [] = refl
same_test id extended (f ∷ fs) =
    ap (λ b. b || list_any (λ (f : ℕ × Bool). id == f.0 && beq extended f.1) fs) (ap (λ b. b && beq extended f.1) (either-number id f.0) ∙ ap (λ b. f.0 == id && b) (either-bool extended f.1))
    ∙ ap (λ b. (f.0 == id && same_bool f.1 extended) || b) (same_test id extended fs)

-- a name that a look-up does not find
lent_some : (o : Option (Bor (Unit {0}))) → is_some (lent o) ≡ is_some o
lent_some None = refl
lent_some (Some x) = refl

pub not_found : (names : List (List ℕ × Unit {0})) (name text : List ℕ) (o : Option (Bor (Unit {0}))) → lent o ≡ look_up text names → text ≡ name → false ≡ is_some o → ¬ (is_some (look_up name names) ≡ true)
not_found names name text o e is none found =
    let there : is_some o ≡ true = sym (lent_some o) ∙ ap (λ o. is_some o) (e ∙ ap (λ t. look_up t names) is) ∙ found in absurd (cc)

pub not_in : (frames : List (ℕ × Bool)) (id : ℕ) (extended : Bool) → false ≡ list_any (λ (f : ℕ × Bool). id == f.0 && beq extended f.1) frames → ¬ (list_any (λ (f : ℕ × Bool). f.0 == id && same_bool f.1 extended) frames ≡ true)
not_in frames id extended none found = let both : false ≡ true = none ∙ same_test id extended frames ∙ found in absurd (cc)

pub not_too_long : (length : ℕ) → ¬ (nat_lt 2048 length ≡ true) → length ≤ 2048
not_too_long length h = grind (arith, common_steps)
