-- There is one table of a database's names: picks are decided by what is wanted, and a flat list of names with its shape gives the table.
use Rattle.std.proofs.Common.{◌≡◌, ◌⊎◌, inl, inr, ℕ, ◌<◌, ◌≤◌, Bool, cond, List, [], ◌∷◌, ◌++◌, length, map, is_some, Option, Some, None, refl, sym, ap, subst, ◌∙◌, arith, append_assoc}
use Rattle.std.specs.List.{flat_map}
use Rattle.std.proofs.lemmas.Bool.{cases_lt, both_ways}
use Rattle.can_model.specs.declared.database.Database.{Database}
use Rattle.can_model.specs.declared.database.Message.{Message}
use Rattle.can_model.specs.declared.database.Signal.{Signal}
use Rattle.name_rules.specs.declared.table.SymbolTable.{SymbolTable}
use Rattle.name_rules.specs.declared.table.MessageNames.{MessageNames}
use Rattle.name_rules.specs.declared.table.SignalNames.{SignalNames}
use Rattle.name_rules.specs.Identifier.{identifier_of}
use Rattle.name_rules.specs.Reserved.{is_reserved, is_reserved_local}
use Rattle.name_rules.specs.Picks.{candidate, IsPick, and_this, ArePicks}
use Rattle.name_rules.specs.Wanted.{wanted_names}
use Rattle.name_rules.specs.Symbols.{one_or_none, file_names_of_signal, file_names_of_message, file_names, field_names, local_names, fields_with_local, AllPairs, HasNamesOfSignal, HasNamesOfMessage, AreSymbols}
use Rattle.name_rules.specs.Naming.{field_with_local}

-- ---- there is one pick

one-pick : (is_taken : List ℕ → Bool) (x y z : List ℕ) → IsPick is_taken x y → IsPick is_taken x z → y ≡ z
one-pick is_taken x y z p q = by (cases_lt p.count q.count) (cases_lt q.count p.count) where
  -- no candidate below the count of a pick is free
  none-below : (u v : List ℕ) (r : IsPick is_taken x u) (s : IsPick is_taken x v) → r.count < s.count → ⊥
  none-below u v r s lt = both_ways (is_taken u) r.free (ap is_taken r.name ∙ s.first r.count r.some lt)

  by : (p.count < q.count) ⊎ (q.count ≤ p.count) → (q.count < p.count) ⊎ (p.count ≤ q.count) → y ≡ z
  by (inl a) o = absurd (none-below y z p q a)
  by (inr a) (inl b) = absurd (none-below z y q p b)
  by (inr a) (inr b) = let same : p.count ≡ q.count = omega arith in p.name ∙ ap (candidate x) same ∙ sym q.name

pub one-picks : (is_taken : List ℕ → Bool) (xs ys zs : List (List ℕ)) → ArePicks is_taken xs ys → ArePicks is_taken xs zs → ys ≡ zs
one-picks is_taken [] ys zs h k = h ∙ sym k
one-picks is_taken (x ∷ xs) [] zs h k = absurd h
one-picks is_taken (x ∷ xs) (y ∷ ys) [] h k = absurd k
one-picks is_taken (x ∷ xs) (y ∷ ys) (z ∷ zs) h k =
    let same : y ≡ z = one-pick is_taken x y z h.0 k.0 in
    let rest : ys ≡ zs = one-picks (and_this is_taken y) xs ys zs h.1 (subst (λ (w : List ℕ). ArePicks (and_this is_taken w) xs zs) (sym same) k.1) in
    λ i. same i ∷ rest i

-- ---- lists that go on with equal names

-- an optional name, where both are there or none is
one_or_none-same : (a b : Option (List ℕ)) (us vs : List (List ℕ)) → is_some a ≡ is_some b → one_or_none a ++ us ≡ one_or_none b ++ vs → (a ≡ b) × (us ≡ vs)
one_or_none-same None None us vs h e = (refl, e)
one_or_none-same None (Some y) us vs h e = absurd (cc)
one_or_none-same (Some x) None us vs h e = absurd (cc)
one_or_none-same (Some x) (Some y) us vs h e = (let same : x ≡ y = cc in ap Some same, cc)

-- as many names
front-same : (xs ys us vs : List (List ℕ)) → length xs ≡ length ys → xs ++ us ≡ ys ++ vs → (xs ≡ ys) × (us ≡ vs)
front-same [] [] us vs h e = (refl, e)
front-same [] (y ∷ ys) us vs h e = absurd (omega arith)
front-same (x ∷ xs) [] us vs h e = absurd (omega arith)
front-same (x ∷ xs) (y ∷ ys) us vs h e =
    let head : x ≡ y = cc in
    let tail : xs ++ us ≡ ys ++ vs = cc in
    let rest = front-same xs ys us vs (omega arith) tail in
    (λ i. head i ∷ rest.0 i, rest.1)

-- ---- signals

abbrev Fields : List SignalNames → List (List ℕ)
Fields ns = map (λ s. s.field) ns

abbrev Locals : List SignalNames → List (List ℕ)
Locals ns = flat_map (λ s. one_or_none s.local) ns

-- equal fields, of which the same have a local variable
wanted-locals : (ss : List Signal) (us vs : List SignalNames) → AllPairs HasNamesOfSignal ss us → AllPairs HasNamesOfSignal ss vs → Fields us ≡ Fields vs → flat_map field_with_local us ≡ flat_map field_with_local vs
wanted-locals [] us vs h k e = ap (flat_map field_with_local) (h ∙ sym k)
wanted-locals (s ∷ ss) [] vs h k e = absurd h
wanted-locals (s ∷ ss) (u ∷ us) [] h k e = absurd k
wanted-locals (s ∷ ss) (u ∷ us) (v ∷ vs) h k e =
    let there : is_some u.local ≡ is_some v.local = h.0.local ∙ sym k.0.local in
    let field : u.field ≡ v.field = cc in
    let fields : Fields us ≡ Fields vs = cc in
    λ i. cond (there i) (field i ∷ []) [] ++ wanted-locals ss us vs h.1 k.1 fields i

signals-same : (ss : List Signal) (us vs : List SignalNames) (ru rv : List (List ℕ)) → AllPairs HasNamesOfSignal ss us → AllPairs HasNamesOfSignal ss vs
    → Fields us ≡ Fields vs → Locals us ≡ Locals vs → flat_map file_names_of_signal us ++ ru ≡ flat_map file_names_of_signal vs ++ rv → (us ≡ vs) × (ru ≡ rv)
signals-same [] us vs ru rv h k e l f =
    (h ∙ sym k, sym (ap (λ ns. flat_map file_names_of_signal ns ++ ru) h) ∙ f ∙ ap (λ ns. flat_map file_names_of_signal ns ++ rv) k)
signals-same (s ∷ ss) [] vs ru rv h k e l f = absurd h
signals-same (s ∷ ss) (u ∷ us) [] ru rv h k e l f = absurd k
signals-same (s ∷ ss) (u ∷ us) (v ∷ vs) ru rv h k e l f =
    let field : u.field ≡ v.field = cc in
    let fields : Fields us ≡ Fields vs = cc in
    let local = one_or_none-same u.local v.local (Locals us) (Locals vs) (h.0.local ∙ sym k.0.local) l in
    let flat_u = flat_map file_names_of_signal us in
    let flat_v = flat_map file_names_of_signal vs in
    let range : u.range ≡ v.range = cc in
    let behind : (u.choices ++ flat_u) ++ ru ≡ (v.choices ++ flat_v) ++ rv = cc in
    let choices = front-same u.choices v.choices (flat_u ++ ru) (flat_v ++ rv) (h.0.choices ∙ sym k.0.choices) (sym (append_assoc u.choices flat_u ru) ∙ behind ∙ append_assoc v.choices flat_v rv) in
    let rest = signals-same ss us vs ru rv h.1 k.1 fields local.1 choices.1 in
    (λ i. record { field = field i; local = local.0 i; range = range i; choices = choices.0 i } ∷ rest.0 i, rest.1)

-- ---- messages

regroup : (a b c d : List (List ℕ)) → ((a ++ b) ++ c) ++ d ≡ a ++ (b ++ (c ++ d))
regroup a b c d = append_assoc (a ++ b) c d ∙ append_assoc a b (c ++ d)

message-same : (m : Message) (u v : MessageNames) (ru rv : List (List ℕ)) → HasNamesOfMessage m u → HasNamesOfMessage m v → file_names_of_message u ++ ru ≡ file_names_of_message v ++ rv → (u ≡ v) × (ru ≡ rv)
message-same m u v ru rv h k e =
    let own_u : List (List ℕ) = u.tag ∷ u.pack ∷ u.unpack ∷ u.init ∷ [] in
    let own_v : List (List ℕ) = v.tag ∷ v.pack ∷ v.unpack ∷ v.init ∷ [] in
    let flat_u = flat_map file_names_of_signal u.signals in
    let flat_v = flat_map file_names_of_signal v.signals in
    let frame_id : u.frame_id ≡ v.frame_id = cc in
    let length : u.length ≡ v.length = cc in
    let extended : u.extended ≡ v.extended = cc in
    let behind : ((one_or_none u.cycle ++ own_u) ++ flat_u) ++ ru ≡ ((one_or_none v.cycle ++ own_v) ++ flat_v) ++ rv = cc in
    let cycle = one_or_none-same u.cycle v.cycle (own_u ++ (flat_u ++ ru)) (own_v ++ (flat_v ++ rv)) (h.cycle ∙ sym k.cycle)
    (sym (regroup (one_or_none u.cycle) own_u flat_u ru) ∙ behind ∙ regroup (one_or_none v.cycle) own_v flat_v rv) in
    let own : own_u ++ (flat_u ++ ru) ≡ own_v ++ (flat_v ++ rv) = cycle.1 in
    let tag : u.tag ≡ v.tag = cc in
    let pack : u.pack ≡ v.pack = cc in
    let unpack : u.unpack ≡ v.unpack = cc in
    let init : u.init ≡ v.init = cc in
    let flat : flat_u ++ ru ≡ flat_v ++ rv = cc in
    let fields = one-picks is_reserved (map (λ s. identifier_of s.name) m.signals) (field_names u) (field_names v) h.fields k.fields in
    let wanted = wanted-locals m.signals u.signals v.signals h.signals k.signals fields in
    let locals = one-picks is_reserved_local (fields_with_local u) (local_names u) (local_names v) h.locals (subst (λ (xs : List (List ℕ)). ArePicks is_reserved_local xs (local_names v)) (sym wanted) k.locals) in
    let signals = signals-same m.signals u.signals v.signals ru rv h.signals k.signals fields locals flat in
    (λ i. record { frame_id = frame_id i; length = length i; extended = extended i; cycle = cycle.0 i; tag = tag i; pack = pack i; unpack = unpack i; init = init i; signals = signals.0 i }, signals.1)

messages-same : (ms : List Message) (us vs : List MessageNames) → AllPairs HasNamesOfMessage ms us → AllPairs HasNamesOfMessage ms vs → flat_map file_names_of_message us ≡ flat_map file_names_of_message vs → us ≡ vs
messages-same [] us vs h k e = h ∙ sym k
messages-same (m ∷ ms) [] vs h k e = absurd h
messages-same (m ∷ ms) (u ∷ us) [] h k e = absurd k
messages-same (m ∷ ms) (u ∷ us) (v ∷ vs) h k e =
    let here = message-same m u v (flat_map file_names_of_message us) (flat_map file_names_of_message vs) h.0 k.0 e in
    λ i. here.0 i ∷ messages-same ms us vs h.1 k.1 here.1 i

pub one-table : (db : Database) (name : List ℕ) (prune : Bool) (t u : SymbolTable) → AreSymbols db name prune t → AreSymbols db name prune u → u ≡ t
one-table db name prune t u h k =
    let file : file_names u ≡ file_names t = one-picks is_reserved (wanted_names name prune db) (file_names u) (file_names t) k.file h.file in
    let guard : u.guard ≡ t.guard = cc in
    let flat : flat_map file_names_of_message u.messages ≡ flat_map file_names_of_message t.messages = cc in
    λ i. record { guard = guard i; messages = messages-same db.messages u.messages t.messages k.messages h.messages flat i }
