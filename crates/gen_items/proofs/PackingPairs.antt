-- Messages side by side with their names: what is so of one pair, and of which name no other pair has.
use Rattle.std.proofs.Common.{◌≡◌, ℕ, true, false, not, List, [], ◌∷◌, map, inl, inr, refl, sym, ap, subst, ◌∙◌}
use Rattle.std.specs.List.{list_any, zip}
use Rattle.std.specs.Str.{bytes_eq}
use Rattle.name_rules.specs.Symbols.{AllPairs}
use Rattle.gen_pack.proofs.Members.{Among}
use Rattle.gen_pack.proofs.OwnLocals.{none-first, none-later}

module _ {A B : Type 0} where
  -- what is so of each pair of two lists of one length, is so of them side by side
  pub pairs-if : (P Q : A → B → Type 0) (xs : List A) (ys : List B) → AllPairs Q xs ys → ((p : A × B) → Among p (zip xs ys) → P p.0 p.1) → AllPairs P xs ys
  pairs-if P Q [] ys q h = q
  pairs-if P Q (x ∷ xs) [] q h = q
  pairs-if P Q (x ∷ xs) (y ∷ ys) q h = (h (x, y) (inl refl), pairs-if P Q xs ys q.1 (λ p a. h p (inr a)))

  pub pair-is : (P : A → B → Type 0) (xs : List A) (ys : List B) → AllPairs P xs ys → (p : A × B) → Among p (zip xs ys) → P p.0 p.1
  pair-is P [] ys all p a = absurd a
  pair-is P (x ∷ xs) [] all p a = absurd a
  pair-is P (x ∷ xs) (y ∷ ys) all p (inl e) = subst (λ (q : A × B). P q.0 q.1) (sym e) all.0
  pair-is P (x ∷ xs) (y ∷ ys) all p (inr a) = pair-is P xs ys all.1 p a

  pub first-among : (xs : List A) (ys : List B) (p : A × B) → Among p (zip xs ys) → Among p.0 xs
  first-among [] ys p a = absurd a
  first-among (x ∷ xs) [] p a = absurd a
  first-among (x ∷ xs) (y ∷ ys) p (inl e) = inl (ap (λ (q : A × B). q.0) e)
  first-among (x ∷ xs) (y ∷ ys) p (inr a) = inr (first-among xs ys p a)

  pub second-among : (xs : List A) (ys : List B) (p : A × B) → Among p (zip xs ys) → Among p.1 ys
  second-among [] ys p a = absurd a
  second-among (x ∷ xs) [] p a = absurd a
  second-among (x ∷ xs) (y ∷ ys) p (inl e) = inl (ap (λ (q : A × B). q.1) e)
  second-among (x ∷ xs) (y ∷ ys) p (inr a) = inr (second-among xs ys p a)

  -- the names of pairs are those of the second list
  pub names-of_pairs : (name_of : B → List ℕ) (Q : A → B → Type 0) (xs : List A) (ys : List B) → AllPairs Q xs ys → map (λ (p : A × B). name_of p.1) (zip xs ys) ≡ map name_of ys
  names-of_pairs name_of Q [] ys q = ap (map name_of) (sym q)
  names-of_pairs name_of Q (x ∷ xs) [] q = absurd q
  names-of_pairs name_of Q (x ∷ xs) (y ∷ ys) q = ap (λ (r : List (List ℕ)). name_of y ∷ r) (names-of_pairs name_of Q xs ys q.1)

-- a name that none of these has is not that of one of them
pub other-name : {A : Type 0} (name_of : A → List ℕ) (name : List ℕ) (x : A) (xs : List A) → Among x xs → not (list_any (bytes_eq name) (map name_of xs)) ≡ true → bytes_eq name (name_of x) ≡ false
other-name name_of name x [] a h = absurd a
other-name name_of name x (y ∷ ys) (inl e) h = ap (λ z. bytes_eq name (name_of z)) e ∙ none-first (bytes_eq name (name_of y)) (list_any (bytes_eq name) (map name_of ys)) h
other-name name_of name x (y ∷ ys) (inr a) h = other-name name_of name x ys a (none-later (bytes_eq name (name_of y)) (list_any (bytes_eq name) (map name_of ys)) h)
