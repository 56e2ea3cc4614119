-- No two signals of a message have one local variable, and none has a parameter's name.
use Rattle.std.proofs.Common.{◌≡◌, ℕ, suc, Bool, true, false, List, [], ◌∷◌, ◌++◌, Option, Some, None, inl, inr, refl, sym, subst, ◌∙◌, arith}
use Rattle.std.specs.Prelude.{◌⊎◌, not, ◌&&◌, ◌||◌, codes}
use Rattle.std.specs.List.{list_any, flat_map, AllByRecursion}
use Rattle.std.specs.Str.{bytes_eq}
use Rattle.std.proofs.lemmas.Slice.Eq.{bytes_eq-Decides}
use Rattle.can_model.specs.declared.database.Message.{Message}
use Rattle.can_model.specs.declared.database.Signal.{Signal}
use Rattle.name_rules.specs.declared.table.MessageNames.{MessageNames}
use Rattle.name_rules.specs.declared.table.SignalNames.{SignalNames}
use Rattle.name_rules.specs.Distinct.{are_distinct}
use Rattle.name_rules.specs.Names.{AreApart}
use Rattle.name_rules.specs.Reserved.{is_reserved, is_reserved_local, is_among, parameter_names, helper_names}
use Rattle.name_rules.specs.Symbols.{one_or_none, local_names}
use Rattle.gen_pack.specs.Parts.{Part, part, parts_from, parts_of}
use Rattle.gen_pack.specs.PackTree.{buffer, source, size}
use Rattle.gen_pack.proofs.Members.{Among, all-among}

-- a local, where there is one, has another name
abbrev pub IsOther : List ℕ → Option (List ℕ) → Type 0
IsOther name None = Unit {0}
IsOther name (Some n) = bytes_eq n name ≡ false

-- the same of two that there may be
abbrev pub AreOther : Option (List ℕ) → Option (List ℕ) → Type 0
AreOther None other = Unit {0}
AreOther (Some n) other = IsOther n other

-- the other way round
pub flipped-names : (a b : List ℕ) → bytes_eq a b ≡ false → bytes_eq b a ≡ false
flipped-names a b e = grind (arith, bytes_eq-Decides a b, bytes_eq-Decides b a)

pub other-back : (a b : Option (List ℕ)) → AreOther a b → AreOther b a
other-back None None h = tt
other-back None (Some b) h = tt
other-back (Some a) None h = tt
other-back (Some a) (Some b) h = flipped-names b a h

-- ---- the locals of a list of signals

abbrev pub ApartFrom : Option (List ℕ) → List Part → Type 0
ApartFrom n xs = AllByRecursion (λ y. AreOther n y.names.local) xs

abbrev pub HaveOwn : List Part → Type 0
HaveOwn [] = Unit {0}
HaveOwn (x ∷ xs) = ApartFrom x.names.local xs × HaveOwn xs

pub and-left : (a b : Bool) → (a && b) ≡ true → a ≡ true
and-left true b h = refl
and-left false b h = absurd (cc)

pub and-right : (a b : Bool) → (a && b) ≡ true → b ≡ true
and-right true b h = h
and-right false b h = absurd (cc)

pub none-first : (x : Bool) (xs : Bool) → not (x || xs) ≡ true → x ≡ false
none-first true xs h = absurd (cc)
none-first false xs h = refl

pub none-later : (x : Bool) (xs : Bool) → not (x || xs) ≡ true → not xs ≡ true
none-later true xs h = absurd (cc)
none-later false xs h = h

-- a name that none of these is equal to, in the table's order of signals
abbrev names_from : List SignalNames → List (List ℕ)
names_from ns = flat_map (λ s. one_or_none s.local) ns

apart-from : (a : List ℕ) (i : ℕ) (ss : List Signal) (ns : List SignalNames) → not (list_any (bytes_eq a) (names_from ns)) ≡ true → ApartFrom (Some a) (parts_from i ss ns)
apart-from a i [] ns h = tt
apart-from a i (s ∷ ss) [] h = tt
apart-from a i (s ∷ ss) (n ∷ ns) h = by n.local h (apart-from a (suc i) ss ns) where
  by : (o : Option (List ℕ)) → not (list_any (bytes_eq a) (one_or_none o ++ names_from ns)) ≡ true → (not (list_any (bytes_eq a) (names_from ns)) ≡ true → ApartFrom (Some a) (parts_from (suc i) ss ns))
      → IsOther a o × ApartFrom (Some a) (parts_from (suc i) ss ns)
  by None h rest = (tt, rest h)
  by (Some b) h rest = (flipped-names a b (none-first (bytes_eq a b) (list_any (bytes_eq a) (names_from ns)) h), rest (none-later (bytes_eq a b) (list_any (bytes_eq a) (names_from ns)) h))

apart-none : (xs : List Part) → ApartFrom None xs
apart-none [] = tt
apart-none (x ∷ xs) = (tt, apart-none xs)

own-from : (i : ℕ) (ss : List Signal) (ns : List SignalNames) → are_distinct (names_from ns) ≡ true → HaveOwn (parts_from i ss ns)
own-from i [] ns h = tt
own-from i (s ∷ ss) [] h = tt
own-from i (s ∷ ss) (n ∷ ns) h = by n.local h (own-from (suc i) ss ns) where
  by : (o : Option (List ℕ)) → are_distinct (one_or_none o ++ names_from ns) ≡ true → (are_distinct (names_from ns) ≡ true → HaveOwn (parts_from (suc i) ss ns))
      → ApartFrom o (parts_from (suc i) ss ns) × HaveOwn (parts_from (suc i) ss ns)
  by None h rest = (apart-none (parts_from (suc i) ss ns), rest h)
  by (Some a) h rest =
      (apart-from a (suc i) ss ns (and-left (not (list_any (bytes_eq a) (names_from ns))) (are_distinct (names_from ns)) h), rest (and-right (not (list_any (bytes_eq a) (names_from ns))) (are_distinct (names_from ns)) h))

pub have-own : (m : Message) (names : MessageNames) → AreApart is_reserved_local (local_names names) → HaveOwn (parts_of m names)
have-own m names apart = own-from 0 m.signals names.signals apart.distinct

-- two of them are one, or have other locals
pub own-or_same : (xs : List Part) → HaveOwn xs → (x y : Part) → Among x xs → Among y xs → (x ≡ y) ⊎ AreOther x.names.local y.names.local
own-or_same [] own x y ax ay = absurd ax
own-or_same (z ∷ zs) own x y (inl ex) (inl ey) = inl (ex ∙ sym ey)
own-or_same (z ∷ zs) own x y (inl ex) (inr ay) = inr (subst (λ v. AreOther (Part.names v).local y.names.local) (sym ex) (all-among (λ v. AreOther z.names.local (Part.names v).local) y zs own.0 ay))
own-or_same (z ∷ zs) own x y (inr ax) (inl ey) =
    inr (subst (λ v. AreOther x.names.local (Part.names v).local) (sym ey) (other-back z.names.local x.names.local (all-among (λ v. AreOther z.names.local (Part.names v).local) x zs own.0 ax)))
own-or_same (z ∷ zs) own x y (inr ax) (inr ay) = own-or_same zs own.1 x y ax ay

-- ---- the parameters' names

pub record IsFree (x : Part) : Type 0 where
  pub of_buffer : IsOther buffer x.names.local
  pub of_source : IsOther source x.names.local
  pub of_size : IsOther size x.names.local

pub or-first : (a b : Bool) → (a || b) ≡ false → a ≡ false
or-first true b h = absurd (cc)
or-first false b h = refl

pub or-second : (a b : Bool) → (a || b) ≡ false → b ≡ false
or-second true b h = absurd (cc)
or-second false b h = h

free-name : (n : List ℕ) → is_reserved_local n ≡ false → (bytes_eq n buffer ≡ false) × (bytes_eq n source ≡ false) × (bytes_eq n size ≡ false)
unfolding parameter_names buffer source size
free-name n h = by (bytes_eq n (codes "dst_p")) (bytes_eq n (codes "src_p")) (bytes_eq n (codes "size")) refl refl refl (or-second (is_reserved n) (is_among parameter_names n) (or-first (is_reserved n || is_among parameter_names n) (is_among helper_names n) h)) where
  by : (a b c : Bool) → bytes_eq n (codes "dst_p") ≡ a → bytes_eq n (codes "src_p") ≡ b → bytes_eq n (codes "size") ≡ c → (a || (b || (c || false))) ≡ false
      → (bytes_eq n (codes "dst_p") ≡ false) × (bytes_eq n (codes "src_p") ≡ false) × (bytes_eq n (codes "size") ≡ false)
  by true b c ea eb ec h = absurd (cc)
  by false true c ea eb ec h = absurd (cc)
  by false false true ea eb ec h = absurd (cc)
  by false false false ea eb ec h = (ea, eb, ec)

free-from : (i : ℕ) (ss : List Signal) (ns : List SignalNames) → AllByRecursion (λ x. is_reserved_local x ≡ false) (names_from ns) → AllByRecursion IsFree (parts_from i ss ns)
free-from i [] ns h = tt
free-from i (s ∷ ss) [] h = tt
free-from i (s ∷ ss) (n ∷ ns) h = by n.local refl h (free-from (suc i) ss ns) where
  by : (o : Option (List ℕ)) → n.local ≡ o → AllByRecursion (λ x. is_reserved_local x ≡ false) (one_or_none o ++ names_from ns)
      → (AllByRecursion (λ x. is_reserved_local x ≡ false) (names_from ns) → AllByRecursion IsFree (parts_from (suc i) ss ns)) → IsFree (part i s n) × AllByRecursion IsFree (parts_from (suc i) ss ns)
  by None e h rest = (record { of_buffer = rw e tt; of_source = rw e tt; of_size = rw e tt }, rest h)
  by (Some a) e h rest = let f = free-name a h.0 in (record { of_buffer = rw e f.0; of_source = rw e f.1; of_size = rw e f.2 }, rest h.1)

pub all-free : (m : Message) (names : MessageNames) → AreApart is_reserved_local (local_names names) → AllByRecursion IsFree (parts_of m names)
all-free m names apart = free-from 0 m.signals names.signals apart.free
