-- Messages in which no signal has a parent: all signals stand on one level, and all are active.
use Rattle.std.proofs.Common.{◌≡◌, ℕ, zero, suc, ◌+◌, true, false, List, [], ◌∷◌, ◌++◌, length, Option, Some, inl, inr, refl, sym, ap, subst, ◌∙◌, arith, append-nil, ℤ}
use Rattle.std.specs.Prelude.{slice_get}
use Rattle.std.specs.List.{AllByRecursion, filter, flat_map}
use Rattle.can_model.specs.declared.database.Message.{Message}
use Rattle.can_model.specs.declared.database.Signal.{Signal}
use Rattle.can_model.specs.Active.{IsActive}
use Rattle.can_model.proofs.Elements.{and_some, all_at}
use Rattle.name_rules.specs.declared.table.MessageNames.{MessageNames}
use Rattle.name_rules.specs.declared.table.SignalNames.{SignalNames}
use Rattle.name_rules.specs.Symbols.{AllPairs, HasNamesOfSignal}
use Rattle.c_tree.specs.BareStatement.{Action}
use Rattle.gen_pack.specs.Parts.{Part, part, parts_from, parts_of}
use Rattle.gen_pack.specs.Switches.{HasNoParent, has_no_parent, is_root, is_selector}
use Rattle.gen_pack.specs.PackTree.{part_put, switch_below, level_put, all_put}
use Rattle.gen_pack.proofs.Members.{Among}

-- ---- what parts are

pub record IsPart (before : ℕ) (ss : List Signal) (x : Part) : Type 0 where
  pub number : ℕ
  pub index_is : x.index ≡ before + number
  pub signal_is : slice_get ss number ≡ Some x.signal

pub part-is : (i : ℕ) (ss : List Signal) (ns : List SignalNames) (x : Part) → Among x (parts_from i ss ns) → IsPart i ss x
part-is i [] ns x h = absurd h
part-is i (s ∷ ss) [] x h = absurd h
part-is i (s ∷ ss) (n ∷ ns) x (inl e) = subst (IsPart i (s ∷ ss)) (sym e) (record { number = 0; index_is = omega arith; signal_is = refl })
part-is i (s ∷ ss) (n ∷ ns) x (inr h) = let p = part-is (suc i) ss ns x h in record { number = suc p.number; index_is = omega (arith, p.index_is); signal_is = p.signal_is }

pub signal-at : (m : Message) (names : MessageNames) (x : Part) → Among x (parts_of m names) → slice_get m.signals x.index ≡ Some x.signal
signal-at m names x h = let p = part-is 0 m.signals names.signals x h in (let e : x.index ≡ p.number = omega (arith, p.index_is) in ap (slice_get m.signals) e ∙ p.signal_is)

-- each signal with a name is among the parts
pub record Found (j : ℕ) (s : Signal) (parts : List Part) : Type 0 where
  pub names : SignalNames
  pub among : Among (part j s names) parts

pub part-of : (i k j : ℕ) (ss : List Signal) (ns : List SignalNames) (s : Signal) → AllPairs HasNamesOfSignal ss ns → slice_get ss k ≡ Some s → j ≡ i + k → Found j s (parts_from i ss ns)
part-of i k j [] ns s named at e = absurd (cc)
part-of i k j (t ∷ ss) [] s named at e = absurd named
part-of i zero j (t ∷ ss) (n ∷ ns) s named at e =
    let same : s ≡ t = cc in
    let first : j ≡ i = omega (arith, e) in
    record { names = n; among = inl (ap (λ i. part i s n) first ∙ ap (λ v. part i v n) same) }
part-of i (suc k) j (t ∷ ss) (n ∷ ns) s named at e = let f = part-of (suc i) k j ss ns s named.1 at (omega (arith, e)) in record { names = f.names; among = inr f.among }

-- ---- one level

first-kept : (x : Part) (rest : List Part) → HasNoParent x.signal → filter is_root (x ∷ rest) ≡ x ∷ filter is_root rest
first-kept x rest h = let e : is_root x ≡ true = ap has_no_parent h in rw e refl

no-root-lost : (i : ℕ) (ss : List Signal) (ns : List SignalNames) → AllByRecursion HasNoParent ss → filter is_root (parts_from i ss ns) ≡ parts_from i ss ns
no-root-lost i [] ns h = refl
no-root-lost i (s ∷ ss) [] h = refl
no-root-lost i (s ∷ ss) (n ∷ ns) h = first-kept (part i s n) (parts_from (suc i) ss ns) h.0 ∙ ap (λ l. part i s n ∷ l) (no-root-lost (suc i) ss ns h.1)

none-selects : (k i : ℕ) (ss : List Signal) (ns : List SignalNames) → AllByRecursion HasNoParent ss → is_selector (parts_from i ss ns) k ≡ false
none-selects k i [] ns h = refl
none-selects k i (s ∷ ss) [] h = refl
none-selects k i (s ∷ ss) (n ∷ ns) h = rw h.0 (none-selects k (suc i) ss ns h.1)

no-switches : (all : List Part) (body : List Part → List Action) (xs : List Part) → ((k : ℕ) → is_selector all k ≡ false) → flat_map (switch_below all body) xs ≡ []
no-switches all body [] h = refl
no-switches all body (x ∷ xs) h = rw (h x.index) (no-switches all body xs h)

one-level : (all xs : List Part) → ((k : ℕ) → is_selector all k ≡ false) → level_put all (length xs) xs ≡ flat_map part_put xs
one-level all [] h = refl
one-level all (x ∷ xs) h = ap (λ l. flat_map part_put (x ∷ xs) ++ l) (no-switches all (level_put all (length xs)) (x ∷ xs) h) ∙ append-nil (flat_map part_put (x ∷ xs))

pub all-put-flat : (ss : List Signal) (ns : List SignalNames) → AllByRecursion HasNoParent ss → all_put (parts_from 0 ss ns) ≡ flat_map part_put (parts_from 0 ss ns)
all-put-flat ss ns h =
    let all : List Part = parts_from 0 ss ns in
    ap (level_put all (length all)) (no-root-lost 0 ss ns h) ∙ one-level all all (λ k. none-selects k 0 ss ns h)

-- ---- all are active

pub all-active : (m : Message) (values : List (Option ℤ)) (i : ℕ) (s : Signal) → AllByRecursion HasNoParent m.signals → slice_get m.signals i ≡ Some s → IsActive m values i
all-active m values i s h at = (1, and_some _ (slice_get m.signals i) s at (rw (all_at HasNoParent m.signals i s h at) tt))
