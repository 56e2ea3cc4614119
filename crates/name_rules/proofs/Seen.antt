-- What a place knows once a name is put among those that it has seen.
use Rattle.std.proofs.Common.{◌≡◌, ◌⊎◌, inl, inr, ℕ, ◌+◌, ◌<◌, ◌≤◌, Bool, true, false, cond, ◌||◌, List, [], ◌∷◌, map, bytes_eq, is_some, Option, Some, Result, OnOk, OnErr, refl, sym, ap, subst, ◌∙◌, arith}
use Rattle.std.specs.Global.{Vec}
use Rattle.std.specs.declared.result.Result.TheVariants.{Ok, Err}
use Rattle.std.proofs.lemmas.Bool.{or_right, cases_lt}
use Rattle.std.proofs.lemmas.Slice.Eq.{bytes_eq-Decides}
use Rattle.std.proofs.lemmas.Grind.{common_steps}
use Rattle.std.specs.Map.{lookup}
use Rattle.indexmap.specs.IndexMap.{insert_entry}
use Rattle.cg_out.specs.Words.{look_up}
use Rattle.name_rules.specs.declared.picking.PlaceKind.{PlaceKind}
use Rattle.name_rules.specs.Picks.{candidate, and_this}
use Rattle.name_rules.specs.Places.{is_reserved_in, seen_name, taken_among, Resumes}

abbrev pub by_items : Vec ℕ → Vec ℕ → Bool
by_items a b = bytes_eq a.items b.items

pub same_name : (x y : List ℕ) → bytes_eq x y ≡ true → x ≡ y
same_name x y e = (bytes_eq-Decides x y).0 e

pub own_name : (x : List ℕ) → bytes_eq x x ≡ true
own_name x = (bytes_eq-Decides x x).1 refl

-- ---- what is found

twice : {A : Type 0} (b : Bool) (u v w : A) → cond b u w ≡ cond b u (cond b v w)
twice true u v w = refl
twice false u v w = refl

-- two tests that never hold together may change places
apart : {A : Type 0} (b c : Bool) (u v w : A) → (b ≡ true → c ≡ true → ⊥) → cond b u (cond c v w) ≡ cond c v (cond b u w)
apart true true u v w h = absurd (h refl refl)
apart true false u v w h = refl
apart false true u v w h = refl
apart false false u v w h = refl

-- the name that is put is found with its suffix, and the others as before
look_up-insert : (x : List ℕ) (key : Vec ℕ) (n : ℕ) (es : List (Vec ℕ × ℕ))
    → look_up x (map seen_name (insert_entry by_items es key n)) ≡ cond (bytes_eq key.items x) (Some n) (look_up x (map seen_name es))
look_up-insert x key n [] = refl
look_up-insert x key n (e ∷ es) = by (bytes_eq key.items e.0.items) refl (look_up-insert x key n es) where
  later : Option ℕ
  later = look_up x (map seen_name es)

  by : (b : Bool) → bytes_eq key.items e.0.items ≡ b → look_up x (map seen_name (insert_entry by_items es key n)) ≡ cond (bytes_eq key.items x) (Some n) later
      → look_up x (map seen_name (cond b ((e.0, n) ∷ es) (e ∷ insert_entry by_items es key n)))
      ≡ cond (bytes_eq key.items x) (Some n) (cond (bytes_eq e.0.items x) (Some e.1) later)
  by true s h =
      twice (bytes_eq e.0.items x) (Some n) (Some e.1) later
      ∙ ap (λ (y : List ℕ). cond (bytes_eq y x) (Some n) (cond (bytes_eq e.0.items x) (Some e.1) later)) (sym (same_name key.items e.0.items s))
  by false s h =
      ap (cond (bytes_eq e.0.items x) (Some e.1)) h
      ∙ apart (bytes_eq e.0.items x) (bytes_eq key.items x) (Some e.1) (Some n) later
      (λ p q. let f : ◌≡◌ {A = Bool} false true = sym s ∙ ap (λ (y : List ℕ). bytes_eq key.items y) (same_name e.0.items x p ∙ sym (same_name key.items x q)) ∙ own_name key.items in cc)

pub either_way : (x y : List ℕ) → bytes_eq x y ≡ bytes_eq y x
either_way x y = grind (arith, common_steps, bytes_eq-Decides)

-- what the map finds
pub look-lookup : (x : List ℕ) (es : List (Vec ℕ × ℕ)) → look_up x (map seen_name es) ≡ lookup (λ k. bytes_eq x k.items) es
look-lookup x [] = refl
look-lookup x (e ∷ es) =
    ap (λ b. cond b (Some e.1) (look_up x (map seen_name es))) (either_way e.0.items x)
    ∙ ap (cond (bytes_eq x e.0.items) (Some e.1)) (look-lookup x es)

-- ---- what is taken

found_or : (b : Bool) (n : ℕ) (o : Option ℕ) (r : Bool) → (is_some (cond b (Some n) o) || r) ≡ (b || (is_some o || r))
found_or true n o r = refl
found_or false n o r = refl

pub taken-insert : (kind : PlaceKind) (key : Vec ℕ) (n : ℕ) (es : List (Vec ℕ × ℕ)) → taken_among kind (insert_entry by_items es key n) ≡ and_this (taken_among kind es) key.items
taken-insert kind key n es = λ i z.
    (ap (λ (o : Option ℕ). is_some o || is_reserved_in kind z) (look_up-insert z key n es)
    ∙ found_or (bytes_eq key.items z) n (look_up z (map seen_name es)) (is_reserved_in kind z)) i

pub taken-seen : (kind : PlaceKind) (es : List (Vec ℕ × ℕ)) (x : List ℕ) (b : Bool) → b ≡ is_some (lookup (λ k. bytes_eq x k.items) es) → (b || is_reserved_in kind x) ≡ taken_among kind es x
taken-seen kind es x b h = ap (λ r. r || is_reserved_in kind x) (h ∙ ap is_some (sym (look-lookup x es)))

-- a taken name adds nothing
pub taken_again : (is_taken : List ℕ → Bool) (y : List ℕ) → is_taken y ≡ true → and_this is_taken y ≡ is_taken
taken_again is_taken y h = λ i z. by z (bytes_eq y z) refl i where
  by : (z : List ℕ) (b : Bool) → bytes_eq y z ≡ b → (b || is_taken z) ≡ is_taken z
  by z true s = sym (ap is_taken (sym (same_name y z s)) ∙ h)
  by z false s = refl

-- ---- where to go on

pub resumes_more : (is_taken : List ℕ → Bool) (y x : List ℕ) (next : ℕ) → Resumes is_taken x next → Resumes (and_this is_taken y) x next
resumes_more is_taken y x next r = record { low = r.low; taken = λ k a b. or_right (bytes_eq y (candidate x k)) (is_taken (candidate x k)) (r.taken k a b) }

-- behind a name that was just taken stands the suffix 2
pub resumes_itself : (is_taken : List ℕ → Bool) (y : List ℕ) → Resumes (and_this is_taken y) y 2
resumes_itself is_taken y = record {
  low = omega arith;
  taken = λ k a b. let one : k ≡ 1 = omega arith in
      subst (λ (j : ℕ). and_this is_taken y (candidate y j) ≡ true) (sym one) (ap (λ (b : Bool). b || is_taken y) (own_name y));
}

-- behind a candidate that was just taken stands the next suffix
pub resumes_behind : (is_taken : List ℕ → Bool) (x : List ℕ) (n : ℕ) → Resumes is_taken x n → Resumes (and_this is_taken (candidate x n)) x (n + 1)
resumes_behind is_taken x n r = record {
  low = let l : 2 ≤ n = r.low in omega arith;
  taken = λ k a b. by k a (cases_lt k n) b;
} where
  by : (k : ℕ) → 1 ≤ k → (k < n) ⊎ (n ≤ k) → k < n + 1 → and_this is_taken (candidate x n) (candidate x k) ≡ true
  by k a (inl lt) b = or_right (bytes_eq (candidate x n) (candidate x k)) (is_taken (candidate x k)) (r.taken k a lt)
  by k a (inr le) b =
      let same : k ≡ n = omega arith in
      subst (λ (j : ℕ). and_this is_taken (candidate x n) (candidate x j) ≡ true) (sym same) (ap (λ (b : Bool). b || is_taken (candidate x n)) (own_name (candidate x n)))

-- what a place keeps
abbrev pub AllResume : PlaceKind → List (Vec ℕ × ℕ) → Type 0
AllResume kind es = (x : List ℕ) (next : ℕ) → look_up x (map seen_name es) ≡ Some next → Resumes (taken_among kind es) x next

pub all-insert : (kind : PlaceKind) (key : Vec ℕ) (n : ℕ) (es : List (Vec ℕ × ℕ))
    → Resumes (and_this (taken_among kind es) key.items) key.items n → AllResume kind es → AllResume kind (insert_entry by_items es key n)
all-insert kind key n es own all x next found =
    subst (λ (t : List ℕ → Bool). Resumes t x next) (sym (taken-insert kind key n es)) (by (bytes_eq key.items x) refl (sym (look_up-insert x key n es) ∙ found)) where
      by : (b : Bool) → bytes_eq key.items x ≡ b → cond b (Some n) (look_up x (map seen_name es)) ≡ Some next → Resumes (and_this (taken_among kind es) key.items) x next
      by true s e =
          let same : n ≡ next = cc in
          subst (λ (m : ℕ). Resumes (and_this (taken_among kind es) key.items) x m) same
          (subst (λ (z : List ℕ). Resumes (and_this (taken_among kind es) key.items) z n) (same_name key.items x s) own)
      by false s e = resumes_more (taken_among kind es) key.items x next (all x next e)

-- whether the name was put or memory ran out
pub all-insert_either : {T E : Type 0} (r : Result T E) (kind : PlaceKind) (key : Vec ℕ) (n : ℕ) (es fs : List (Vec ℕ × ℕ))
    → OnOk r (fs ≡ insert_entry by_items es key n) → OnErr r (fs ≡ es)
    → Resumes (and_this (taken_among kind es) key.items) key.items n → AllResume kind es → AllResume kind fs
all-insert_either (Ok x) kind key n es fs ok err own all = subst (AllResume kind) (sym ok) (all-insert kind key n es own all)
all-insert_either (Err x) kind key n es fs ok err own all = subst (AllResume kind) (sym err) all
