-- How far a lexeme reaches.
use Rattle.std.proofs.Common.{◌≡◌, ℕ, suc, ◌+◌, ◌<◌, Bool, true, false, cond, ◌==◌, ◌&&◌, List, [], ◌∷◌, length, take, take_while, drop, get_or, refl, ap, ◌∙◌, arith, add-one, drop-cons}
use Rattle.std.specs.declared.option.Option.{Option}
use Rattle.std.specs.declared.option.Option.TheVariants.{None, Some}
use Rattle.std.proofs.lemmas.List.Folds.{length-prefix_len}
use Rattle.c_text.specs.Characters.{first_is}
use Rattle.c_text.specs.Piece.{one_more, close_at, number_goes_on, number_rest}

-- as many bytes as the front has are the front
pub take-take_while : (p : ℕ → Bool) (bs : List ℕ) → take (length (take_while p bs)) bs ≡ take_while p bs
take-take_while p bs = rw length-prefix_len refl

pub take-number_rest : (before : ℕ) (bs : List ℕ) → take (length (number_rest before bs)) bs ≡ number_rest before bs
take-number_rest before [] = refl
take-number_rest before (b ∷ bs) =
    elim (number_goes_on before b) as (λ r. take (length (cond r (b ∷ number_rest b bs) [])) (b ∷ bs) ≡ cond r (b ∷ number_rest b bs) [])
    [ true ↦ ap (λ xs. b ∷ xs) (take-number_rest b bs) | false ↦ refl ]

-- a length behind so many bytes
abbrev pub from_here : ℕ → Option ℕ → Option ℕ
from_here i None = None
from_here i (Some n) = Some (i + n)

from_here-one_more : (i : ℕ) (o : Option ℕ) → from_here i (one_more o) ≡ from_here (i + 1) o
from_here-one_more i None = refl
from_here-one_more i (Some n) = let e : i + suc n ≡ i + 1 + n = omega arith in ap (λ (k : ℕ). Some k) e

-- a byte of a comment that does not begin its end
pub past_byte : (i : ℕ) (bs : List ℕ) (b : ℕ) → i < length bs → b ≡ get_or bs i 0 → (b == 42 && first_is 47 (drop (i + 1) bs)) ≡ false
    → from_here i (close_at (drop i bs)) ≡ from_here (i + 1) (close_at (drop (i + 1) bs))
past_byte i bs b lt e n =
    let m : (b == 42 && first_is 47 (drop (suc i) bs)) ≡ false = rw (← add-one i) n in
    rw (drop-cons bs i 0, ← e, m) (from_here-one_more i (close_at (drop (suc i) bs)) ∙ rw (add-one i) refl)
