-- What holds of the names of a message's signals, by signal.
use Rattle.std.proofs.Common.{ℕ, suc, List, [], ◌∷◌, ◌++◌, map, Option, Some, None}
use Rattle.std.specs.List.{AllByRecursion, flat_map}
use Rattle.can_model.specs.declared.database.Signal.{Signal}
use Rattle.name_rules.specs.declared.table.SignalNames.{SignalNames}
use Rattle.name_rules.specs.Symbols.{one_or_none}
use Rattle.gen_pack.specs.Parts.{Part, parts_from}

module _ (P : List ℕ → Type 0) where
  -- of a local, where there is one
  abbrev pub OfLocal : Option (List ℕ) → Type 0
  OfLocal None = Unit {0}
  OfLocal (Some n) = P n

  pub locals-by_part : (i : ℕ) (ss : List Signal) (ns : List SignalNames) → AllByRecursion P (flat_map (λ s. one_or_none s.local) ns) → AllByRecursion (λ x. OfLocal (Part.names x).local) (parts_from i ss ns)
  locals-by_part i [] ns h = tt
  locals-by_part i (s ∷ ss) [] h = tt
  locals-by_part i (s ∷ ss) (n ∷ ns) h = by n.local h (locals-by_part (suc i) ss ns) where
    by : (o : Option (List ℕ)) → AllByRecursion P (one_or_none o ++ flat_map (λ s. one_or_none s.local) ns)
        → (AllByRecursion P (flat_map (λ s. one_or_none s.local) ns) → AllByRecursion (λ x. OfLocal (Part.names x).local) (parts_from (suc i) ss ns))
        → OfLocal o × AllByRecursion (λ x. OfLocal (Part.names x).local) (parts_from (suc i) ss ns)
    by None h rest = (tt, rest h)
    by (Some a) h rest = (h.0, rest h.1)

  pub fields-by_part : (i : ℕ) (ss : List Signal) (ns : List SignalNames) → AllByRecursion P (map (λ s. s.field) ns) → AllByRecursion (λ x. P (Part.names x).field) (parts_from i ss ns)
  fields-by_part i [] ns h = tt
  fields-by_part i (s ∷ ss) [] h = tt
  fields-by_part i (s ∷ ss) (n ∷ ns) h = (h.0, fields-by_part (suc i) ss ns h.1)
