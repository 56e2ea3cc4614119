-- The blanks that are left.
use Rattle.std.proofs.Common.{◌≡◌, ℕ, suc, ◌+◌, ◌-◌, ◌<◌, List, [], ◌∷◌, ◌++◌, arith, ap, ◌∙◌, append_assoc}
use Rattle.c_printed.specs.PrintedStatement.{blanks}

pub blank_more : (front : List ℕ) (count i : ℕ) → i < count → (front ++ 32 ∷ []) ++ blanks (count - (i + 1)) ≡ front ++ blanks (count - i)
blank_more front count i h =
    let next : suc (count - (i + 1)) ≡ count - i = omega arith in
    append_assoc front (32 ∷ []) (blanks (count - (i + 1))) ∙ ap (λ n. front ++ blanks n) next
