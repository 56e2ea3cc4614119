-- Lists of values by names, one behind the other.
use Rattle.std.proofs.Common.{◌≡◌, ℕ, Bool, true, false, cond, List, [], ◌∷◌, ◌++◌, bytes_eq, Option, Some, refl}
use Rattle.cg_out.specs.Words.{or_else, look_up}
use Rattle.name_table.specs.Adds.{Adds}

module _ {A : Type 0} where
  step : (b : Bool) (a : A) (u v w : Option A) → u ≡ or_else v w → cond b (Some a) u ≡ or_else (cond b (Some a) v) w
  step true a u v w h = refl
  step false a u v w h = h

  pub look_up-append : (name : List ℕ) (xs ys : List (List ℕ × A)) → look_up name (xs ++ ys) ≡ or_else (look_up name xs) (look_up name ys)
  look_up-append name [] ys = refl
  look_up-append name (x ∷ xs) ys = step (bytes_eq x.0 name) x.1 (look_up name (xs ++ ys)) (look_up name xs) (look_up name ys) (look_up-append name xs ys)

  -- a value at the end
  pub adds-last : (old : List (List ℕ × A)) (e : List ℕ × A) → Adds old (e ∷ []) (old ++ e ∷ [])
  adds-last old e name = look_up-append name old (e ∷ [])
