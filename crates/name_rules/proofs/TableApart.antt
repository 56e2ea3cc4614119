-- The names of a table are apart in each place: what is wanted are names of C, and picks of these are apart.
use Rattle.std.proofs.Common.{◌≡◌, ℕ, Bool, true, cond, List, [], ◌∷◌, ◌++◌, map, drop, is_some, refl, sym, subst}
use Rattle.std.specs.Prelude.{codes}
use Rattle.std.specs.List.{flat_map, AllByRecursion}
use Rattle.std.proofs.lemmas.Bool.{cond_both}
use Rattle.can_model.specs.declared.database.Database.{Database}
use Rattle.can_model.specs.declared.database.Message.{Message}
use Rattle.can_model.specs.declared.database.Signal.{Signal}
use Rattle.can_model.specs.declared.database.Choice.{Choice}
use Rattle.name_rules.specs.declared.table.SymbolTable.{SymbolTable}
use Rattle.name_rules.specs.declared.table.MessageNames.{MessageNames}
use Rattle.name_rules.specs.declared.table.SignalNames.{SignalNames}
use Rattle.name_rules.specs.Identifier.{identifier_of}
use Rattle.name_rules.specs.IsIdentifier.{IsIdentifier}
use Rattle.name_rules.specs.Reserved.{is_reserved, is_reserved_local}
use Rattle.name_rules.specs.Pruning.{common_front, pruned}
use Rattle.name_rules.specs.Wanted.{upper, joined, choice_identifiers, wanted_of_signal, wanted_of_itself, wanted_of_message, wanted_names}
use Rattle.name_rules.specs.Symbols.{field_names, local_names, fields_with_local, file_names, AllPairs, HasNamesOfMessage, AreSymbols}
use Rattle.name_rules.specs.Names.{is_c_name, AreApart, HasNamesApart}
use Rattle.name_rules.specs.Naming.{choice_name, field_with_local}
use Rattle.name_rules.proofs.Shape.{identifier_of-IsIdentifier}
use Rattle.name_rules.proofs.NamesApart.{AreBytes, AreCNames, small, large, identifier-c_name, identifier-bytes, bytes-drop, joined-identifier, picks-apart}

-- ---- what is wanted

module _ {A B : Type 0} (P : A → Type 0) (Q : B → Type 0) (f : A → B) (each : (x : A) → P x → Q (f x)) where
  all-map : (xs : List A) → AllByRecursion P xs → AllByRecursion Q (map f xs)
  all-map [] h = tt
  all-map (x ∷ xs) h = (each x h.0, all-map xs h.1)

all-append : (xs ys : List (List ℕ)) → AreCNames xs → AreCNames ys → AreCNames (xs ++ ys)
all-append [] ys h k = k
all-append (x ∷ xs) ys h k = (h.0, all-append xs ys h.1 k)

module _ {A : Type 0} (f : A → List (List ℕ)) (each : (x : A) → AreCNames (f x)) where
  all-flat_map : (xs : List A) → AreCNames (flat_map f xs)
  all-flat_map [] = tt
  all-flat_map (x ∷ xs) = all-append (f x) (flat_map f xs) (each x) (all-flat_map xs)

choice-bytes : (choices : List Choice) → AllByRecursion AreBytes (map (λ c. identifier_of c.name) choices)
choice-bytes [] = tt
choice-bytes (c ∷ choices) = (identifier-bytes (identifier_of c.name) (identifier_of-IsIdentifier c.name), choice-bytes choices)

pruned-bytes : (xs : List (List ℕ)) → AllByRecursion AreBytes xs → AllByRecursion AreBytes (pruned xs)
pruned-bytes [] h = tt
pruned-bytes (x ∷ []) h = h
pruned-bytes (x ∷ y ∷ more) h = all-map AreBytes AreBytes (drop (common_front (x ∷ y ∷ more))) (bytes-drop (common_front (x ∷ y ∷ more))) (x ∷ y ∷ more) h

choice_identifiers-bytes : (prune : Bool) (s : Signal) → AllByRecursion AreBytes (choice_identifiers prune s)
choice_identifiers-bytes prune s =
    cond_both prune (pruned (map (λ c. identifier_of c.name) s.choices)) (map (λ c. identifier_of c.name) s.choices) (λ (xs : List (List ℕ)). AllByRecursion AreBytes xs)
    (λ e. pruned-bytes (map (λ c. identifier_of c.name) s.choices) (choice-bytes s.choices)) (λ e. choice-bytes s.choices)

module _ (prune : Bool) (front : List ℕ) (named : IsIdentifier front) where
  signal-c_names : (s : Signal) → AreCNames (wanted_of_signal prune front s)
  signal-c_names s =
      let own : IsIdentifier (joined front (identifier_of s.name)) =
      joined-identifier front (identifier_of s.name) named (identifier-bytes (identifier_of s.name) (identifier_of-IsIdentifier s.name)) in (
        small (joined front (identifier_of s.name)) (codes "_is_in_range") own refl,
        all-map AreBytes (λ x. is_c_name x ≡ true) (choice_name (joined front (identifier_of s.name)))
            (λ c h. large (joined (joined front (identifier_of s.name)) c) (codes "_CHOICE") (joined-identifier (joined front (identifier_of s.name)) c own h) refl)
            (choice_identifiers prune s) (choice_identifiers-bytes prune s),
      )

  cycle-c_names : (m : Message) → AreCNames (cond (is_some m.cycle) ((upper front ++ codes "_CYCLE_TIME_MS") ∷ []) [])
  cycle-c_names m =
      cond_both (is_some m.cycle) ((upper front ++ codes "_CYCLE_TIME_MS") ∷ []) [] AreCNames (λ e. (large front (codes "_CYCLE_TIME_MS") named refl, tt)) (λ e. tt)

  itself-c_names : (m : Message) → AreCNames (wanted_of_itself front m)
  itself-c_names m = (
    large front (codes "_FRAME_ID") named refl,
    (
      large front (codes "_LENGTH") named refl,
      (
        large front (codes "_IS_EXTENDED") named refl,
        all-append (cond (is_some m.cycle) ((upper front ++ codes "_CYCLE_TIME_MS") ∷ []) []) ((front ++ codes "_t") ∷ (front ++ codes "_pack") ∷ (front ++ codes "_unpack") ∷ (front ++ codes "_init") ∷ [])
            (cycle-c_names m)
            (small front (codes "_t") named refl, (small front (codes "_pack") named refl, (small front (codes "_unpack") named refl, (small front (codes "_init") named refl, tt)))),
      ),
    ),
  )

module _ (name : List ℕ) (prune : Bool) (named : IsIdentifier name) where
  message-c_names : (m : Message) → AreCNames (wanted_of_message name prune m)
  message-c_names m =
      let front = joined name (identifier_of m.name) in
      let own : IsIdentifier front = joined-identifier name (identifier_of m.name) named (identifier-bytes (identifier_of m.name) (identifier_of-IsIdentifier m.name)) in
      all-append (wanted_of_itself front m) (flat_map (wanted_of_signal prune front) m.signals) (itself-c_names prune front own m) (all-flat_map (wanted_of_signal prune front) (signal-c_names prune front own) m.signals)

  wanted-c_names : (db : Database) → AreCNames (wanted_names name prune db)
  wanted-c_names db = (large name (codes "_H") named refl, all-flat_map (wanted_of_message name prune) message-c_names db.messages)

-- ---- the places of messages

signals-c_names : (signals : List Signal) → AreCNames (map (λ s. identifier_of s.name) signals)
signals-c_names [] = tt
signals-c_names (s ∷ signals) = (identifier-c_name (identifier_of s.name) (identifier_of-IsIdentifier s.name), signals-c_names signals)

some-c_names : (names : List SignalNames) → AreCNames (map (λ s. s.field) names) → AreCNames (flat_map field_with_local names)
some-c_names [] h = tt
some-c_names (s ∷ names) h =
    all-append (field_with_local s) (flat_map field_with_local names) (cond_both (is_some s.local) (s.field ∷ []) [] AreCNames (λ e. (h.0, tt)) (λ e. tt)) (some-c_names names h.1)

fields-apart : (m : Message) (n : MessageNames) → HasNamesOfMessage m n → AreApart is_reserved (field_names n)
fields-apart m n h = picks-apart is_reserved (map (λ s. identifier_of s.name) m.signals) (field_names n) h.fields (signals-c_names m.signals)

locals-apart : (m : Message) (n : MessageNames) → HasNamesOfMessage m n → AreApart is_reserved_local (local_names n)
locals-apart m n h =
    let fields = fields-apart m n h in
    picks-apart is_reserved_local (fields_with_local n) (local_names n) h.locals (some-c_names n.signals fields.words)

module _ (P : MessageNames → Type 0) (each : (m : Message) (n : MessageNames) → HasNamesOfMessage m n → P n) where
  all-messages : (ms : List Message) (ns : List MessageNames) → AllPairs HasNamesOfMessage ms ns → AllByRecursion P ns
  all-messages [] ns h = subst (AllByRecursion P) (sym h) tt
  all-messages (m ∷ ms) [] h = absurd h
  all-messages (m ∷ ms) (n ∷ ns) h = (each m n h.0, all-messages ms ns h.1)

pub symbols-apart : (db : Database) (name : List ℕ) (prune : Bool) (t : SymbolTable) → IsIdentifier name → AreSymbols db name prune t → HasNamesApart t
symbols-apart db name prune t named h = record {
  file = picks-apart is_reserved (wanted_names name prune db) (file_names t) h.file (wanted-c_names name prune named db);
  fields = all-messages (λ n. AreApart is_reserved (field_names n)) fields-apart db.messages t.messages h.messages;
  locals = all-messages (λ n. AreApart is_reserved_local (local_names n)) locals-apart db.messages t.messages h.messages;
}
