-- How equal names are told apart: the first of x, x_2, x_3, .. that is not taken.
use Rattle.std.specs.Prelude.{◌≡◌, ℕ, ◌<◌, ◌≤◌, Bool, true, false, ◌||◌, ◌==◌, if◌then◌else◌, List, [], ◌∷◌, ◌++◌, codes, bytes_eq}
use Rattle.std.specs.Fmt.{decimal}

-- the name that is tried k-th where x is wanted, counted from 1
abbrev pub candidate : List ℕ → ℕ → List ℕ
candidate x k = if k == 1 then x else x ++ codes "_" ++ decimal k

-- y is picked where x is wanted: the first candidate that is not taken
pub record IsPick (is_taken : List ℕ → Bool) (x y : List ℕ) : Type 0 where
  pub count : ℕ
  pub some : 1 ≤ count
  pub name : y ≡ candidate x count
  pub free : is_taken y ≡ false
  pub first : (k : ℕ) → 1 ≤ k → k < count → is_taken (candidate x k) ≡ true

-- taken before, or this name
abbrev pub and_this : (List ℕ → Bool) → List ℕ → List ℕ → Bool
and_this is_taken y z = bytes_eq y z || is_taken z

-- these are the picks of the wanted names, one after the other: what is picked is taken from then on
abbrev pub ArePicks : (List ℕ → Bool) → List (List ℕ) → List (List ℕ) → Type 0
ArePicks is_taken [] ys = ys ≡ []
ArePicks is_taken (x ∷ xs) [] = ⊥
ArePicks is_taken (x ∷ xs) (y ∷ ys) = IsPick is_taken x y × ArePicks (and_this is_taken y) xs ys
