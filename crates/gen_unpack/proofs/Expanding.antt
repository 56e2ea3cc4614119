-- An unpack function's tree with its macros replaced: EINVAL is the number 22, and all else stays.
use Rattle.std.proofs.Common.{◌≡◌, ℕ, suc, Bool, true, false, List, [], ◌∷◌, ◌++◌, map, Option, Some, None, refl, ap, ◌∙◌}
use Rattle.std.specs.Prelude.{◌==◌, nat_lt, if◌then◌else◌}
use Rattle.std.specs.List.{AllByRecursion, flat_map}
use Rattle.std.proofs.lemmas.List.{map-append}
use Rattle.can_model.specs.declared.database.Message.{Message}
use Rattle.can_model.specs.declared.database.Signal.{Signal}
use Rattle.name_rules.specs.declared.table.MessageNames.{MessageNames}
use Rattle.name_rules.specs.declared.table.SignalNames.{SignalNames}
use Rattle.name_rules.specs.Symbols.{one_or_none}
use Rattle.c_tree.specs.declared.statement.AssignOp.{AssignOp}
use Rattle.c_tree.specs.declared.statement.AssignOp.TheVariants.{Set, BitOr}
use Rattle.c_tree.specs.BareExpression.{Tree, name}
use Rattle.c_tree.specs.BareStatement.{Action, when, block, actions_of}
use Rattle.c_tree.specs.BareStatement as a
use Rattle.c_printed.specs.Expanded.{Meaning, or_name, expanded, expanded_action, expanded_actions, expanded_item}
use Rattle.bit_layout.specs.declared.walk.Segment.{Segment}
use Rattle.bit_layout.specs.Segments.{segments_of}
use Rattle.gen_pack.specs.SegmentMove.{width_of}
use Rattle.gen_pack.specs.Parts.{Part, parts_from, parts_of}
use Rattle.gen_pack.specs.Switches.{HasNoParent}
use Rattle.gen_pack.specs.PackTree.{error_name, number, name_or, local_declared, declared, size_asked, returned, empty_body}
use Rattle.gen_pack.specs.Packs.{HasError}
use Rattle.gen_unpack.specs.UnpackTree.{field, joined, has_sign, filled_up, sign_extended, field_set, settled, part_got, all_got, unused, long_body, message_body, unpack_function}
use Rattle.gen_unpack.proofs.OneLevel.{all-got-flat}

module _ (meaning : Meaning) where
  abbrev replaced : List Action → List Action
  replaced xs = map (expanded_action meaning) xs

  expanded-list : (xs : List Action) → expanded_actions meaning (actions_of xs) ≡ actions_of (replaced xs)
  expanded-list [] = refl
  expanded-list (x ∷ xs) = ap (a.then (expanded_action meaning x)) (expanded-list xs)

  replaced-append : (xs ys : List Action) → replaced (xs ++ ys) ≡ replaced xs ++ replaced ys
  replaced-append xs ys = map-append (expanded_action meaning) xs ys

  -- a name that may be there stands for itself
  abbrev IsKept : Option (List ℕ) → Type 0
  IsKept None = Unit {0}
  IsKept (Some n) = meaning n ≡ None

  abbrev IsKeptIn : Part → Type 0
  IsKeptIn x = IsKept x.names.local

  kept-from : (i : ℕ) (ss : List Signal) (ns : List SignalNames) → AllByRecursion (λ n. meaning n ≡ None) (flat_map (λ s. one_or_none s.local) ns) → AllByRecursion IsKeptIn (parts_from i ss ns)
  kept-from i [] ns h = tt
  kept-from i (s ∷ ss) [] h = tt
  kept-from i (s ∷ ss) (n ∷ ns) h = by n.local h (kept-from (suc i) ss ns) where
    by : (o : Option (List ℕ)) → AllByRecursion (λ n. meaning n ≡ None) (one_or_none o ++ flat_map (λ s. one_or_none s.local) ns)
        → (AllByRecursion (λ n. meaning n ≡ None) (flat_map (λ s. one_or_none s.local) ns) → AllByRecursion IsKeptIn (parts_from (suc i) ss ns)) → IsKept o × AllByRecursion IsKeptIn (parts_from (suc i) ss ns)
    by None h rest = (tt, rest h)
    by (Some a) h rest = (h.0, rest h.1)

  -- ---- the statements of a signal

  target-stays : (x : Part) (o : Option (List ℕ)) → IsKept o → expanded meaning (name_or o (field x)) ≡ name_or o (field x)
  target-stays x None h = refl
  target-stays x (Some n) h = ap (or_name n) h

  joined-stays : (op : AssignOp) (t : Tree) (w : ℕ) (gs : List Segment) → expanded meaning t ≡ t → replaced (joined op t w gs) ≡ joined op t w gs
  joined-stays op t w [] h = refl
  joined-stays op t w (g ∷ gs) h = rw (h, joined-stays BitOr t w gs h) refl

  -- the sign is extended where this is true
  abbrev extended_if : Bool → ℕ → ℕ → List ℕ → List Action
  extended_if b w n local = if b then when (has_sign w n local) (block (actions_of (filled_up w n local ∷ []))) ∷ [] else []

  extended-stays : (b : Bool) (w n : ℕ) (local : List ℕ) → meaning local ≡ None → replaced (extended_if b w n local) ≡ extended_if b w n local
  extended-stays false w n local h = refl
  extended-stays true w n local h = rw h refl

  settled-stays : (o : Option (List ℕ)) (w n : ℕ) (x : Part) → IsKept o → replaced (settled o w n (field x)) ≡ settled o w n (field x)
  settled-stays None w n x h = refl
  settled-stays (Some local) w n x h =
      replaced-append (sign_extended w n local) (field_set w (field x) local ∷ [])
      ∙ rw (extended-stays (nat_lt n w) w n local h, h) refl

  part-stays : (x : Part) → IsKeptIn x → replaced (part_got x) ≡ part_got x
  part-stays x h =
      replaced-append (joined Set (name_or x.names.local (field x)) (width_of x.signal) (segments_of x.signal)) (settled x.names.local (width_of x.signal) x.signal.length (field x))
      ∙ rw (joined-stays Set (name_or x.names.local (field x)) (width_of x.signal) (segments_of x.signal) (target-stays x x.names.local h), settled-stays x.names.local (width_of x.signal) x.signal.length x h) refl

  parts-stay : (xs : List Part) → AllByRecursion IsKeptIn xs → replaced (flat_map part_got xs) ≡ flat_map part_got xs
  parts-stay [] h = refl
  parts-stay (x ∷ xs) h = replaced-append (part_got x) (flat_map part_got xs) ∙ rw (part-stays x h.0, parts-stay xs h.1) refl

  -- ---- the others

  declared-stays : (o : Option (List ℕ)) (w : ℕ) → replaced (local_declared o w) ≡ local_declared o w
  declared-stays None w = refl
  declared-stays (Some n) w = refl

  declared-stay : (xs : List Part) → replaced (flat_map declared xs) ≡ flat_map declared xs
  declared-stay [] = refl
  declared-stay (x ∷ xs) = replaced-append (declared x) (flat_map declared xs) ∙ rw (declared-stays x.names.local (width_of x.signal), declared-stay xs) refl

  unused-stays : (xs : List Part) → replaced (unused xs) ≡ unused xs
  unused-stays [] = refl
  unused-stays (x ∷ xs) = refl

  module _ (message : Message) (names : MessageNames) (error : HasError meaning names) (flat : AllByRecursion HasNoParent message.signals) where
    asked-is : (n : ℕ) → expanded_action meaning (size_asked (name error_name) n) ≡ size_asked (number 22) n
    asked-is n = rw (error.error, error.of_size) refl

    got-is : replaced (all_got (parts_of message names)) ≡ all_got (parts_of message names)
    got-is = rw (all-got-flat message.signals names.signals flat) (parts-stay (parts_of message names) (kept-from 0 message.signals names.signals error.of_locals))

    long-is : (n : ℕ) → replaced (long_body (name error_name) n (parts_of message names)) ≡ long_body (number 22) n (parts_of message names)
    unfolding long_body
    long-is n =
        let ps : List Part = parts_of message names in
        let last : List Action = returned (number 0) ∷ [] in
        let rest : List Action = size_asked (name error_name) n ∷ (all_got ps ++ last) in
        replaced-append (unused ps) (flat_map declared ps ++ rest)
        ∙ rw (replaced-append (flat_map declared ps) rest, replaced-append (all_got ps) last, unused-stays ps, declared-stay ps, asked-is n, got-is) refl

    body-is : replaced (message_body (name error_name) message names) ≡ message_body (number 22) message names
    unfolding empty_body
    body-is = by (message.length == 0) where
      by : (b : Bool) → replaced (if b then empty_body else long_body (name error_name) message.length (parts_of message names)) ≡ (if b then empty_body else long_body (number 22) message.length (parts_of message names))
      by true = refl
      by false = long-is message.length

    pub error-is-22 : expanded_item meaning (unpack_function (name error_name) message names) ≡ unpack_function (number 22) message names
    error-is-22 = rw (expanded-list (message_body (name error_name) message names), body-is) refl
