-- Parts that are read one behind the other, up to the first fault.
use Rattle.std.specs.Prelude.{ℕ, zero, suc, List, [], ◌∷◌, Result, Ok}
use Rattle.c_text.specs.declared.place.Place.{Place}
use Rattle.c_text.specs.declared.token.Token.{Token}
use Rattle.c_text.specs.Refusal.{Refusal}
use Rattle.cg_out.specs.Words.{◌>>=◌}

-- what tokens begin with, from their first and those behind it, and how many tokens of it follow the first
abbrev pub Reading : Type 0 → Type 0
Reading A = Token → List Token → Result (A × ℕ) Refusal

-- all that the tokens hold, behind so many tokens of the part before
abbrev pub all_read : {A : Type 0} → Reading A → ℕ → List Token → Result (List A) Refusal
all_read read skip [] = Ok []
all_read read (suc n) (t ∷ ts) = all_read read n ts
all_read read zero (t ∷ ts) = do
  x ← read t ts
  xs ← all_read read x.1 ts
  Ok (x.0 ∷ xs)

-- the place of the first token, or that behind all
abbrev pub place_at : List Token → Place → Place
place_at [] after = after
place_at (t ∷ ts) after = t.place
