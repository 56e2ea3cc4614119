-- Small words that definitions of several crates use.
use Rattle.std.specs.Prelude.{ℕ, Bool, true, false, not, if◌then◌else◌, List, [], ◌∷◌, bytes_eq, Option, Some, None, Result, Ok, Err}

-- the first of two that is there
abbrev pub or_else : {X : Type 0} → Option X → Option X → Option X
or_else (Some x) other = Some x
or_else None other = other

-- what follows a result, or its error
infixl 10 ◌>>=◌
abbrev pub ◌>>=◌ : {A B E : Type 0} → Result A E → (A → Result B E) → Result B E
(Ok x) >>= f = f x
(Err e) >>= f = Err e

-- with a count beside it
abbrev pub counted : {A E : Type 0} → ℕ → Result A E → Result (A × ℕ) E
counted n made = made >>= λ x. Ok (x, n)

-- what a table gives for a name, by the first of equal names
abbrev pub look_up : {A : Type 0} → List ℕ → List (List ℕ × A) → Option A
look_up name [] = None
look_up name ((n, a) ∷ rest) = if bytes_eq n name then Some a else look_up name rest

abbrev pub same_bool : Bool → Bool → Bool
same_bool true b = b
same_bool false b = not b
