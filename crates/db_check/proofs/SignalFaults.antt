-- The faults of one signal, by what a walk over the signals keeps.
use Rattle.std.proofs.Common.{◌≡◌, ◌⊎◌, inl, inr, ◌↔◌, ℕ, ◌+◌, ◌*◌, ◌<◌, ◌≤◌, Bool, true, false, List, [], ◌∷◌, ◌++◌, length, get_or, take, map, replicate, ℤ, pos, Option, Some, None, refl, sym, ap, subst, ◌∙◌, arith}
use Rattle.std.specs.Prelude.{slice_get, IsSomeAnd, is_some, bytes_eq}
use Rattle.std.specs.List.{list_any}
use Rattle.std.proofs.lemmas.List.{length-replicate, get_or_past, map-append}
use Rattle.std.proofs.lemmas.Option.{slice_get_within}
use native.Mathlib.Decide.{ℕ_discrete, dec_lt}
use Rattle.cg_out.specs.Words.{look_up}
use Rattle.can_model.specs.Place.{HasPlace, SharePlace}
use Rattle.can_model.specs.RawValue.{has_bits}
use Rattle.can_model.specs.Active.{IsActive}
use Rattle.can_model.specs.Validity.{SignalHas, CanBothBeActive, Fault}
use Rattle.can_model.specs.declared.database.Message.{Message}
use Rattle.can_model.specs.declared.database.Signal.{Signal}
use Rattle.can_model.specs.declared.check_kind.CheckKind.{CheckKind}
use Rattle.can_model.specs.declared.check_kind.CheckKind.TheVariants.{DuplicateMessageName, DuplicateMessageId, DuplicateSignalName, FrameIdRange, MessageTooLong, SignalLength, SignalOutside, Overlap, MuxParentUnknown, MuxIdRange, FloatSignal, ScaleTooWide, TooMany, ExtendedMultiplexing, MuxCycle}
use Rattle.db_check.specs.Kinds.{IsClean, IsLeast}
use Rattle.db_check.specs.OfSignal.{Shows, HasTaken}
use Rattle.db_check.specs.OfSignals.{IsPlain, IsCleanAt, AreClean, IsTaken, entry_of, HavePassed, IsFirstOfSignals}
use Rattle.db_check.proofs.KindOrder.{own_kind}
use Rattle.can_model.proofs.Elements.{some_and, and_some, if_some, some_if, all_at}
use Rattle.db_check.proofs.Elements.{take_one, any_named}
use Rattle.db_check.proofs.TakenPlaces.{starts}

-- ---- signals that are not multiplexed

module _ (m : Message) (plain : IsPlain m) where
  no_parent : (i : ℕ) (s : Signal) → slice_get m.signals i ≡ Some s → s.parent ≡ None
  no_parent i s at = all_at (λ s. s.parent ≡ None) m.signals i s plain at

  active : (values : List (Option ℤ)) (i : ℕ) (s : Signal) → slice_get m.signals i ≡ Some s → IsActive m values i
  active values i s at = (1, rw at (rw (no_parent i s at) tt))

  both_active : (i j : ℕ) (s t : Signal) → slice_get m.signals i ≡ Some s → slice_get m.signals j ≡ Some t → CanBothBeActive m i j
  both_active i j s t at_i at_j =
      let values : List ℤ = replicate (length m.signals) (pos 0) in
      (values, length-replicate (length m.signals) (pos 0), active (map Some values) i s at_i, active (map Some values) j t at_j)

-- ---- one signal

module _ {m : Message} {n : ℕ} {names : List (List ℕ × Unit {0})} {taken : List Bool} {s : Signal}
    (at : slice_get m.signals n ≡ Some s) (plain : IsPlain m) (passed : HavePassed m n names taken) where
  parentless : s.parent ≡ None
  parentless = no_parent m plain n s at

  named : is_some (look_up s.name names) ≡ list_any (λ e. bytes_eq e.name s.name) (take n m.signals)
  named = ap (λ t. is_some (look_up s.name t)) passed.names_are ∙ any_named (λ (e : Signal). e.name) s.name (take n m.signals)

  -- an earlier signal is inside
  earlier_inside : (i p : ℕ) (e : Signal) → i < n → slice_get m.signals i ≡ Some e → HasPlace e p → p < length taken
  earlier_inside i p e lt at_i place = by (dec_lt p (length taken)) where
    clean : IsClean (SignalHas m i e)
    clean = if_some (λ s. IsClean (SignalHas m i s)) (slice_get m.signals i) e at_i (passed.clean i lt)

    by : Dec (p < length taken) → p < length taken
    by (yes inside) = inside
    by (no outside) = let size : length taken ≡ 8 * m.length = passed.size in absurd (clean SignalOutside (p, place, omega arith))

  taken_within : (p : ℕ) → get_or taken p false ≡ true → p < length taken
  taken_within p h = by (dec_lt p (length taken)) where
    by : Dec (p < length taken) → p < length taken
    by (yes lt) = lt
    by (no nl) = let past : get_or taken p false ≡ false = get_or_past taken p false (omega arith) in absurd (cc)

  shared : SignalHas m n s Overlap → HasTaken taken s
  shared (i, lt, shares, both) = by (some_and (λ e. SharePlace e s) (slice_get m.signals i) shares) where
    by : (e : Signal) × (slice_get m.signals i ≡ Some e) × SharePlace e s → HasTaken taken s
    by (e, at_i, (p, of_e, of_s)) = (p, of_s, (passed.taken_are p (earlier_inside i p e lt at_i of_e)).1 (i, lt, and_some (λ e. HasPlace e p) (slice_get m.signals i) e at_i of_e))

  overlaps : HasTaken taken s → SignalHas m n s Overlap
  overlaps (p, of_s, is_taken) = by ((passed.taken_are p (taken_within p is_taken)).0 is_taken) where
    with_earlier : (i : ℕ) → i < n → (e : Signal) × (slice_get m.signals i ≡ Some e) × HasPlace e p → SignalHas m n s Overlap
    with_earlier i lt (e, at_i, of_e) = (i, lt, and_some (λ e. SharePlace e s) (slice_get m.signals i) e at_i (p, of_e, of_s), both_active m plain i n e s at_i at)

    by : IsTaken m n p → SignalHas m n s Overlap
    by (i, lt, place) = with_earlier i lt (some_and (λ e. HasPlace e p) (slice_get m.signals i) place)

  no_cycle : ¬ SignalHas m n s MuxCycle
  no_cycle (k, (j, selector, rest)) = absurd (rw parentless at (rw at at selector))

  pub shows : (k : CheckKind) → SignalHas m n s k → Shows names (length taken) taken s k
  shows DuplicateSignalName h = named ∙ h
  shows SignalLength h = h
  shows SignalOutside (p, place, outside) = (p, place, let size : length taken ≡ 8 * m.length = passed.size in omega arith)
  shows Overlap h = shared h
  shows FloatSignal h = h
  shows ScaleTooWide h = h
  shows MuxParentUnknown h = absurd (rw parentless at h)
  shows MuxIdRange h = absurd (rw parentless at h)
  shows ExtendedMultiplexing h = absurd (rw parentless at h)
  shows MuxCycle h = no_cycle h
  shows DuplicateMessageName h = h
  shows DuplicateMessageId h = h
  shows FrameIdRange h = h
  shows MessageTooLong h = h
  shows TooMany h = h

  pub has : (k : CheckKind) → Shows names (length taken) taken s k → SignalHas m n s k
  has DuplicateSignalName h = sym named ∙ h
  has SignalLength h = h
  has SignalOutside (p, place, outside) = (p, place, let size : length taken ≡ 8 * m.length = passed.size in omega arith)
  has Overlap h = overlaps h
  has FloatSignal h = h
  has ScaleTooWide h = h
  has MuxParentUnknown h = absurd h
  has MuxIdRange h = absurd h
  has ExtendedMultiplexing h = absurd h
  has MuxCycle h = absurd h
  has DuplicateMessageName h = h
  has DuplicateMessageId h = h
  has FrameIdRange h = h
  has MessageTooLong h = h
  has TooMany h = h

  pub is_clean : IsClean (Shows names (length taken) taken s) → IsClean (SignalHas m n s)
  is_clean clean k h = clean k (shows k h)

  pub is_least : (k : CheckKind) → IsLeast (Shows names (length taken) taken s) k → IsLeast (SignalHas m n s) k
  is_least k h = record { there = has k h.there; least = λ l g. h.least l (shows l g) }

  -- ---- a signal without a fault

  module _ (clean : IsClean (Shows names (length taken) taken s)) where
    pub unnamed : look_up s.name names ≡ None
    unnamed = by (look_up s.name names) (clean DuplicateSignalName) where
      by : (o : Option (Unit {0})) → ¬ (is_some o ≡ true) → o ≡ None
      by None h = refl
      by (Some x) h = absurd (h refl)

    pub bits : has_bits s.length ≡ true
    bits = by (has_bits s.length) (clean SignalLength) where
      by : (b : Bool) → ¬ (b ≡ false) → b ≡ true
      by true h = refl
      by false h = absurd (h refl)

    pub places_inside : (p : ℕ) → HasPlace s p → p < length taken
    places_inside p place = by (dec_lt p (length taken)) where
      by : Dec (p < length taken) → p < length taken
      by (yes lt) = lt
      by (no nl) = absurd (clean SignalOutside (p, place, omega arith))

    pub start_inside : s.start < length taken
    start_inside = places_inside s.start (starts s bits)

    -- it passes too
    module _ (new : List Bool) (new_size : length new ≡ length taken) (marked : (p : ℕ) → (get_or new p false ≡ true) ↔ ((get_or taken p false ≡ true) ⊎ HasPlace s p)) where
      later : (p : ℕ) → IsTaken m n p → IsTaken m (n + 1) p
      later p (i, lt, place) = (i, omega arith, place)

      now_taken : (p : ℕ) → p < length taken → (get_or taken p false ≡ true) ⊎ HasPlace s p → IsTaken m (n + 1) p
      now_taken p lt (inl t) = later p ((passed.taken_are p lt).0 t)
      now_taken p lt (inr place) = (n, omega arith, and_some (λ e. HasPlace e p) (slice_get m.signals n) s at place)

      was_taken : (p : ℕ) → p < length taken → IsTaken m (n + 1) p → (get_or taken p false ≡ true) ⊎ HasPlace s p
      was_taken p lt (i, below, place) = by (ℕ_discrete i n) where
        by : Dec (i ≡ n) → (get_or taken p false ≡ true) ⊎ HasPlace s p
        by (yes e) = inr (subst (λ o. IsSomeAnd o (λ e. HasPlace e p)) (ap (slice_get m.signals) e ∙ at) place)
        by (no ne) = inl ((passed.taken_are p lt).1 (i, omega arith, place))

      clean_more : (j : ℕ) → j < n + 1 → IsCleanAt m j
      clean_more j lt = by (ℕ_discrete j n) where
        by : Dec (j ≡ n) → IsCleanAt m j
        by (yes e) = subst (IsCleanAt m) (sym e) (some_if (λ t. IsClean (SignalHas m n t)) (slice_get m.signals n) (λ t at_t. let same : s ≡ t = cc in subst (λ t. IsClean (SignalHas m n t)) same (is_clean clean)))
        by (no ne) = passed.clean j (omega arith)

      pub passes : HavePassed m (n + 1) (names ++ (s.name, tt) ∷ []) new
      passes = record {
        clean = clean_more;
        names_are = ap (λ t. t ++ (s.name, tt {0}) ∷ []) passed.names_are ∙ sym (ap (map entry_of) (take_one m.signals n s at) ∙ map-append entry_of (take n m.signals) (s ∷ []));
        size = new_size ∙ passed.size;
        taken_are = λ p lt. let inside : p < length taken = omega arith in (λ t. now_taken p inside ((marked p).0 t), λ t. (marked p).1 (was_taken p inside t));
      }

  -- ---- a signal with a fault

  pub first_of_signals : (k : CheckKind) (f : Fault) → IsLeast (Shows names (length taken) taken s) k → f ≡ record { kind = k; line = s.line; message = m.name; signal = s.name } → IsFirstOfSignals m f
  first_of_signals k f h e = record {
    index = n;
    there = and_some (λ s. IsLeast (SignalHas m n s) f.kind × (f ≡ record { kind = f.kind; line = s.line; message = m.name; signal = s.name })) (slice_get m.signals n) s at
        (subst (IsLeast (SignalHas m n s)) (sym (ap (λ f. f.kind) e)) (is_least k h), own_kind f k s.line m.name s.name e);
    before = passed.clean;
  }

pub all_passed : (m : Message) (n : ℕ) (names : List (List ℕ × Unit {0})) (taken : List Bool) → length m.signals ≤ n → HavePassed m n names taken → AreClean m
all_passed m n names taken all passed j = by (dec_lt j n) where
  by : Dec (j < n) → IsCleanAt m j
  by (yes lt) = passed.clean j lt
  by (no nl) = some_if (λ s. IsClean (SignalHas m j s)) (slice_get m.signals j) (λ s at. let lt : j < length m.signals = slice_get_within m.signals j s at in absurd (omega arith))
