-- Where no signal has a parent, all statements of signals stand on one level.
use Rattle.std.proofs.Common.{◌≡◌, ℕ, suc, true, false, List, [], ◌∷◌, ◌++◌, length, refl, ap, ◌∙◌, append-nil}
use Rattle.std.specs.List.{AllByRecursion, filter, flat_map}
use Rattle.can_model.specs.declared.database.Signal.{Signal}
use Rattle.name_rules.specs.declared.table.SignalNames.{SignalNames}
use Rattle.c_tree.specs.BareStatement.{Action}
use Rattle.gen_pack.specs.Parts.{Part, part, parts_from}
use Rattle.gen_pack.specs.Switches.{HasNoParent, has_no_parent, is_root, is_selector}
use Rattle.gen_unpack.specs.UnpackTree.{part_got, switch_below, level_got, all_got}

first-kept : (x : Part) (rest : List Part) → HasNoParent x.signal → filter is_root (x ∷ rest) ≡ x ∷ filter is_root rest
first-kept x rest h = let e : is_root x ≡ true = ap has_no_parent h in rw e refl

no-root-lost : (i : ℕ) (ss : List Signal) (ns : List SignalNames) → AllByRecursion HasNoParent ss → filter is_root (parts_from i ss ns) ≡ parts_from i ss ns
no-root-lost i [] ns h = refl
no-root-lost i (s ∷ ss) [] h = refl
no-root-lost i (s ∷ ss) (n ∷ ns) h = first-kept (part i s n) (parts_from (suc i) ss ns) h.0 ∙ ap (λ l. part i s n ∷ l) (no-root-lost (suc i) ss ns h.1)

none-selects : (k i : ℕ) (ss : List Signal) (ns : List SignalNames) → AllByRecursion HasNoParent ss → is_selector (parts_from i ss ns) k ≡ false
none-selects k i [] ns h = refl
none-selects k i (s ∷ ss) [] h = refl
none-selects k i (s ∷ ss) (n ∷ ns) h = rw h.0 (none-selects k (suc i) ss ns h.1)

no-switches : (all : List Part) (body : List Part → List Action) (xs : List Part) → ((k : ℕ) → is_selector all k ≡ false) → flat_map (switch_below all body) xs ≡ []
no-switches all body [] h = refl
no-switches all body (x ∷ xs) h = rw (h x.index) (no-switches all body xs h)

one-level : (all xs : List Part) → ((k : ℕ) → is_selector all k ≡ false) → level_got all (length xs) xs ≡ flat_map part_got xs
one-level all [] h = refl
one-level all (x ∷ xs) h = ap (λ l. flat_map part_got (x ∷ xs) ++ l) (no-switches all (level_got all (length xs)) (x ∷ xs) h) ∙ append-nil (flat_map part_got (x ∷ xs))

pub all-got-flat : (ss : List Signal) (ns : List SignalNames) → AllByRecursion HasNoParent ss → all_got (parts_from 0 ss ns) ≡ flat_map part_got (parts_from 0 ss ns)
all-got-flat ss ns h =
    let all : List Part = parts_from 0 ss ns in
    ap (level_got all (length all)) (no-root-lost 0 ss ns h) ∙ one-level all all (λ k. none-selects k 0 ss ns h)
