-- Two lists side by side, where each pair is mapped.
use Rattle.std.proofs.Common.{◌≡◌, ℕ, ◌+◌, ◌<◌, min, List, [], ◌∷◌, ◌++◌, length, get_or, take, map, refl, sym, ap, ◌∙◌, arith}
use Rattle.std.specs.List.{zip}
use Rattle.std.proofs.lemmas.List.{take_all}
use Rattle.std.proofs.lemmas.Slice.Zip.{length-zip}
use Rattle.gen_pack.proofs.InPairs.{take-pair}

-- at the end all are taken
pub all_pairs : {A B : Type 0} (xs : List A) (ys : List B) (i : ℕ) → i ≡ min (length xs) (length ys) → take i (zip xs ys) ≡ zip xs ys
all_pairs xs ys i h = take_all i (zip xs ys) (omega (arith, length-zip xs ys))

pub map-last : {X Y : Type 0} (f : X → Y) (xs : List X) (x : X) → map f (xs ++ x ∷ []) ≡ map f xs ++ f x ∷ []
map-last f [] x = refl
map-last f (y ∷ xs) x = ap (λ rest. f y ∷ rest) (map-last f xs x)

module _ {A B C : Type 0} (f : A × B → C) where
  -- one pair more is put
  pub mapped_more : (now : List C) (xs : List A) (ys : List B) (i j : ℕ) (x : A) (y : B) → j ≡ i + 1 → i < length xs → i < length ys → x ≡ get_or xs i x → y ≡ get_or ys i y
      → now ≡ map f (take i (zip xs ys)) → now ++ f (x, y) ∷ [] ≡ map f (take j (zip xs ys))
  mapped_more now xs ys i j x y k a b e g h =
      ap (λ (z : List C). z ++ f (x, y) ∷ []) h
      ∙ sym (ap (λ (u : ℕ). map f (take u (zip xs ys))) k ∙ ap (map f) (take-pair xs ys i x y a b e g) ∙ map-last f (take i (zip xs ys)) (x, y))
