-- The raw values of a message in which no signal has a parent: each signal has one, and each field holds it.
use Rattle.std.proofs.Common.{◌≡◌, ℕ, suc, ◌≤◌, List, [], ◌∷◌, length, map, Option, Some, None, inl, inr, refl, sym, ap, subst, ◌∙◌, arith, ℤ}
use Rattle.std.specs.Prelude.{slice_get, slice_set, option_and_then}
use Rattle.std.specs.List.{AllByRecursion}
use Rattle.std.proofs.lemmas.List.{length-map}
use Rattle.std.proofs.lemmas.Option.{slice_get-map}
use Rattle.can_model.specs.declared.database.Message.{Message}
use Rattle.can_model.specs.declared.database.Signal.{Signal}
use Rattle.can_model.specs.Active.{value_at, IsActive}
use Rattle.can_model.specs.Frame.{value_in, AreRawValues}
use Rattle.can_model.proofs.Chains.{signal_there, steps-from_active}
use Rattle.can_model.proofs.Elements.{and_some}
use Rattle.name_rules.specs.declared.table.SignalNames.{SignalNames}
use Rattle.name_rules.specs.Symbols.{AllPairs, HasNamesOfSignal}
use Rattle.c_mem.specs.Cells.{CellsOf}
use Rattle.gen_pack.specs.Parts.{Part, parts_from}
use Rattle.gen_pack.specs.Switches.{HasNoParent}
use Rattle.gen_pack.proofs.Members.{Among}
use Rattle.gen_pack.proofs.Flat.{all-active}
use Rattle.gen_unpack.specs.Unpacks.{with_raw}
use Rattle.gen_unpack.proofs.Reading.{all_set}

module _ (bytes : List ℕ) where
  -- the value of each signal
  abbrev pub raw_of : List Signal → List (Option ℤ)
  raw_of ss = map (λ s. Some (value_in bytes s)) ss

  value-there : (ss : List Signal) (i : ℕ) (o : Option Signal) → slice_get ss i ≡ o → value_at (raw_of ss) i ≡ option_and_then (λ s. Some (value_in bytes s)) o
  value-there ss i None e = ap (option_and_then (λ v. v)) (slice_get-map (λ s. Some (value_in bytes s)) ss i) ∙ rw e refl
  value-there ss i (Some s) e = ap (option_and_then (λ v. v)) (slice_get-map (λ s. Some (value_in bytes s)) ss i) ∙ rw e refl

  pub all-raw : (m : Message) → AllByRecursion HasNoParent m.signals → AreRawValues m bytes (raw_of m.signals)
  all-raw m flat = record {
    size = length-map m.signals (λ s. Some (value_in bytes s));
    active = λ i h.
        let steps = steps-from_active m.signals (raw_of m.signals) i h in
        let there = signal_there steps.0 m.signals (raw_of m.signals) i steps.1 in
        and_some (λ s. value_at (raw_of m.signals) i ≡ Some (value_in bytes s)) (slice_get m.signals i) there.0 there.1 (value-there m.signals i (Some there.0) there.1);
    inactive = λ i h. by i (slice_get m.signals i) refl h;
  } where
    by : (i : ℕ) (o : Option Signal) → slice_get m.signals i ≡ o → ¬ IsActive m (raw_of m.signals) i → value_at (raw_of m.signals) i ≡ None
    by i None e h = value-there m.signals i None e
    by i (Some s) e h = absurd (h (all-active m (raw_of m.signals) i s flat e))

  -- ---- the fields

  set-behind : (i : ℕ) (ss : List Signal) (ns : List SignalNames) (c : Option ℤ) (fields : CellsOf ℤ) → all_set bytes (parts_from (suc i) ss ns) (c ∷ fields) ≡ c ∷ all_set bytes (parts_from i ss ns) fields
  set-behind i [] ns c fields = refl
  set-behind i (s ∷ ss) [] c fields = refl
  set-behind i (s ∷ ss) (n ∷ ns) c fields = set-behind (suc i) ss ns c (slice_set fields i (Some (value_in bytes s)))

  pub all-set-raw : (ss : List Signal) (ns : List SignalNames) (fields : CellsOf ℤ) → AllPairs HasNamesOfSignal ss ns → length ss ≤ length fields → all_set bytes (parts_from 0 ss ns) fields ≡ with_raw (raw_of ss) fields
  all-set-raw [] ns fields named le = refl
  all-set-raw (s ∷ ss) [] fields named le = absurd named
  all-set-raw (s ∷ ss) (n ∷ ns) [] named le = absurd (omega arith)
  all-set-raw (s ∷ ss) (n ∷ ns) (c ∷ fields) named le =
      set-behind 0 ss ns (Some (value_in bytes s)) fields ∙ ap (λ r. Some (value_in bytes s) ∷ r) (all-set-raw ss ns fields named.1 (omega arith))

-- ---- the names of a part

pub named-part : (i : ℕ) (ss : List Signal) (ns : List SignalNames) (x : Part) → AllPairs HasNamesOfSignal ss ns → Among x (parts_from i ss ns) → HasNamesOfSignal x.signal x.names
named-part i [] ns x named h = absurd h
named-part i (s ∷ ss) [] x named h = absurd named
named-part i (s ∷ ss) (n ∷ ns) x named (inl e) = subst (λ v. HasNamesOfSignal (Part.signal v) (Part.names v)) (sym e) named.0
named-part i (s ∷ ss) (n ∷ ns) x named (inr h) = named-part (suc i) ss ns x named.1 h
