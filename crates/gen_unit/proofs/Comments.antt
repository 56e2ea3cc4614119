-- What stands in a comment may be printed there.
use Rattle.std.proofs.Common.{◌≡◌, ℕ, Bool, true, false, ◌||◌, ◌==◌, cond, List, [], ◌∷◌, map, refl, arith}
use Rattle.std.specs.Prelude.{nat_lt}
use Rattle.std.proofs.lemmas.Bool.Decides.{nat_tests}
use Rattle.c_printed.specs.PrintableItem.{is_shown, IsShown}
use Rattle.gen_unit.specs.Comments.{shown_byte}

shown-by : (b : ℕ) (t : Bool) → (nat_lt b 32 || nat_lt 126 b || b == 42 || b == 63 || b == 92) ≡ t → is_shown (cond t 46 b) ≡ true
shown-by b true e = refl
shown-by b false e = grind (arith, nat_tests)

pub shown : (bs : List ℕ) → IsShown (map shown_byte bs)
shown [] = tt
shown (b ∷ bs) = (shown-by b _ refl, shown bs)
