-- What is among the elements of a list.
use Rattle.std.proofs.Common.{◌≡◌, List, [], ◌∷◌, inl, inr, refl, sym, subst}
use Rattle.std.specs.Prelude.{◌⊎◌}
use Rattle.std.specs.List.{AllByRecursion}

-- one of the elements
abbrev pub Among : {A : Type 0} → A → List A → Type 0
Among x [] = ⊥
Among x (y ∷ ys) = (x ≡ y) ⊎ Among x ys

-- what all elements are, one of them is
pub all-among : {A : Type 0} (P : A → Type 0) (x : A) (xs : List A) → AllByRecursion P xs → Among x xs → P x
all-among P x [] all h = absurd h
all-among P x (y ∷ ys) all (inl e) = subst P (sym e) all.0
all-among P x (y ∷ ys) all (inr h) = all-among P x ys all.1 h

-- what each element is, all are
pub all-if : {A : Type 0} (P : A → Type 0) (xs : List A) → ((x : A) → Among x xs → P x) → AllByRecursion P xs
all-if P [] h = tt
all-if P (x ∷ xs) h = (h x (inl refl), all-if P xs (λ y a. h y (inr a)))
