-- Elements of lists, by what is said of them.
use Rattle.std.proofs.Common.{◌≡◌, ℕ, ◌+◌, ◌<◌, Bool, true, false, cond, List, [], ◌∷◌, ◌++◌, length, take, map, bytes_eq, Some, refl, ap, ◌∙◌}
use Rattle.std.proofs.lemmas.List.{take_more}
use Rattle.std.proofs.lemmas.Option.{slice_get_within, get_or_from_slice_get}
use Rattle.std.specs.Prelude.{◌||◌, slice_get, is_some}
use Rattle.std.specs.List.{list_any}
use Rattle.cg_out.specs.Words.{look_up}

-- one element more
pub take_one : {A : Type 0} (xs : List A) (i : ℕ) (x : A) → slice_get xs i ≡ Some x → take (i + 1) xs ≡ take i xs ++ x ∷ []
take_one xs i x e = let lt : i < length xs = slice_get_within xs i x e in take_more xs i x lt ∙ ap (λ y. take i xs ++ y ∷ []) (get_or_from_slice_get xs i x x e)

-- a name is in a table of names where one of the list has it
pub any_named : {A : Type 0} (f : A → List ℕ) (name : List ℕ) (xs : List A) → is_some (look_up name (map (λ x. (f x, tt {0})) xs)) ≡ list_any (λ x. bytes_eq (f x) name) xs
any_named f name [] = refl
any_named f name (x ∷ xs) = by (bytes_eq (f x) name) (any_named f name xs) where
  by : (b : Bool) → is_some (look_up name (map (λ x. (f x, tt {0})) xs)) ≡ list_any (λ x. bytes_eq (f x) name) xs
      → is_some (cond b (Some (tt {0})) (look_up name (map (λ x. (f x, tt {0})) xs))) ≡ (b || list_any (λ x. bytes_eq (f x) name) xs)
  by true more = refl
  by false more = more
