-- Names of a message's signals, as the rules of declarations ask for them (ISO/IEC 9899:1999, 6.2.1 and 7.1.3).
use Rattle.std.proofs.Common.{◌≡◌, ℕ, suc, Bool, true, false, List, [], ◌∷◌, ◌++◌, Option, Some, None, inl, inr, refl, subst, arith}
use Rattle.std.specs.Prelude.{◌||◌, ◌==◌, bytes_eq}
use Rattle.std.specs.Char.{is_ascii_alphabetic, is_ascii_alphanumeric}
use Rattle.std.specs.List.{list_any, list_all, flat_map, AllByRecursion}
use Rattle.std.proofs.lemmas.Bool.Decides.{nat_tests}
use Rattle.can_model.specs.declared.database.Message.{Message}
use Rattle.can_model.specs.declared.database.Signal.{Signal}
use Rattle.name_rules.specs.declared.table.MessageNames.{MessageNames}
use Rattle.name_rules.specs.declared.table.SignalNames.{SignalNames}
use Rattle.name_rules.specs.Names.{is_c_name, AreApart}
use Rattle.name_rules.specs.Reserved.{is_reserved, is_reserved_local, is_among, parameter_names, helper_names}
use Rattle.name_rules.specs.Symbols.{one_or_none, local_names}
use Rattle.c_types.specs.Scope as scope
use Rattle.shift_helpers.specs.declared.helper.HelperKind.TheVariants as h
use Rattle.shift_helpers.specs.HelperTree.{helper_name}
use Rattle.gen_pack.specs.Parts.{Part, parts_from, parts_of}
use Rattle.gen_pack.proofs.OwnLocals.{and-left, or-first, or-second}
use Rattle.gen_items.specs.ItemNames.{IsNoHelper}

-- ---- a letter comes first

plain-first : (b : ℕ) → is_ascii_alphabetic b ≡ true → (b == 95) ≡ false
plain-first b letter = by (b == 95) refl where
  by : (t : Bool) → (b == 95) ≡ t → t ≡ false
  by true e =
      let is : b ≡ 95 = grind (arith, nat_tests) in
      let no : is_ascii_alphabetic 95 ≡ true = subst (λ c. is_ascii_alphabetic c ≡ true) is letter in
      absurd (cc)
  by false e = refl

pub plain-word : (x : List ℕ) → is_c_name x ≡ true → scope.is_reserved x ≡ false
plain-word [] word = refl
plain-word (b ∷ bs) word = plain-first b (and-left (is_ascii_alphabetic b) (list_all (λ c. is_ascii_alphanumeric c || c == 95) bs) word)

-- ---- no helper's name

none-of : (test : List ℕ → Bool) (xs : List (List ℕ)) → list_any test xs ≡ false → AllByRecursion (λ x. test x ≡ false) xs
none-of test [] none = tt
none-of test (x ∷ xs) none = (or-first (test x) (list_any test xs) none, none-of test xs (or-second (test x) (list_any test xs) none))

no-helper : (n : List ℕ) → AllByRecursion (λ x. bytes_eq n x ≡ false) helper_names → IsNoHelper n
unfolding helper_names helper_name
no-helper n all h.PackLeft w (inl e) = rw e all.0
no-helper n all h.PackLeft w (inr (inl e)) = rw e all.1.0
no-helper n all h.PackLeft w (inr (inr (inl e))) = rw e all.1.1.0
no-helper n all h.PackLeft w (inr (inr (inr e))) = rw e all.1.1.1.0
no-helper n all h.PackRight w (inl e) = rw e all.1.1.1.1.0
no-helper n all h.PackRight w (inr (inl e)) = rw e all.1.1.1.1.1.0
no-helper n all h.PackRight w (inr (inr (inl e))) = rw e all.1.1.1.1.1.1.0
no-helper n all h.PackRight w (inr (inr (inr e))) = rw e all.1.1.1.1.1.1.1.0
no-helper n all h.UnpackLeft w (inl e) = rw e all.1.1.1.1.1.1.1.1.0
no-helper n all h.UnpackLeft w (inr (inl e)) = rw e all.1.1.1.1.1.1.1.1.1.0
no-helper n all h.UnpackLeft w (inr (inr (inl e))) = rw e all.1.1.1.1.1.1.1.1.1.1.0
no-helper n all h.UnpackLeft w (inr (inr (inr e))) = rw e all.1.1.1.1.1.1.1.1.1.1.1.0
no-helper n all h.UnpackRight w (inl e) = rw e all.1.1.1.1.1.1.1.1.1.1.1.1.0
no-helper n all h.UnpackRight w (inr (inl e)) = rw e all.1.1.1.1.1.1.1.1.1.1.1.1.1.0
no-helper n all h.UnpackRight w (inr (inr (inl e))) = rw e all.1.1.1.1.1.1.1.1.1.1.1.1.1.1.0
no-helper n all h.UnpackRight w (inr (inr (inr e))) = rw e all.1.1.1.1.1.1.1.1.1.1.1.1.1.1.1.0

local-no_helper : (n : List ℕ) → is_reserved_local n ≡ false → IsNoHelper n
local-no_helper n free = no-helper n (none-of (bytes_eq n) helper_names (or-second (is_reserved n || is_among parameter_names n) (is_among helper_names n) free))

-- ---- the locals of a message's signals

-- a local that there may be is not reserved, and hides no helper
abbrev pub IsPlain : Option (List ℕ) → Type 0
IsPlain None = Unit {0}
IsPlain (Some n) = (scope.is_reserved n ≡ false) × IsNoHelper n

abbrev pub ArePlain : List Part → Type 0
ArePlain xs = AllByRecursion (λ x. IsPlain (Part.names x).local) xs

abbrev names_from : List SignalNames → List (List ℕ)
names_from ns = flat_map (λ s. one_or_none s.local) ns

abbrev Free : List SignalNames → Type 0
Free ns = AllByRecursion (λ x. is_reserved_local x ≡ false) (names_from ns)

abbrev Words : List SignalNames → Type 0
Words ns = AllByRecursion (λ x. is_c_name x ≡ true) (names_from ns)

plain-from : (i : ℕ) (ss : List Signal) (ns : List SignalNames) → Free ns → Words ns → ArePlain (parts_from i ss ns)
plain-from i [] ns free words = tt
plain-from i (s ∷ ss) [] free words = tt
plain-from i (s ∷ ss) (n ∷ ns) free words = by n.local free words (plain-from (suc i) ss ns) where
  by : (o : Option (List ℕ)) → AllByRecursion (λ x. is_reserved_local x ≡ false) (one_or_none o ++ names_from ns) → AllByRecursion (λ x. is_c_name x ≡ true) (one_or_none o ++ names_from ns)
      → (Free ns → Words ns → ArePlain (parts_from (suc i) ss ns)) → IsPlain o × ArePlain (parts_from (suc i) ss ns)
  by None free words rest = (tt, rest free words)
  by (Some a) free words rest = ((plain-word a words.0, local-no_helper a free.0), rest free.1 words.1)

pub all-plain : (m : Message) (names : MessageNames) → AreApart is_reserved_local (local_names names) → ArePlain (parts_of m names)
all-plain m names apart = plain-from 0 m.signals names.signals apart.free apart.words
