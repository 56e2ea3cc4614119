-- Bodies of macros.
use Rattle.std.proofs.Common.{◌≡◌, ◌&&◌, false, List, [], ◌∷◌, length, refl, ap, ◌∙◌, arith}
use Rattle.std.proofs.Math.Bool.{and-false}
use Rattle.c_text.specs.declared.token.Token.{Token}
use Rattle.c_text.specs.MacroDefinition.{same_kind, same_body}
use Rattle.c_pre.specs.Shown.{flats}

pub same_body-longer : (xs ys : List Token) → (length xs ≡ length ys → ⊥) → same_body (flats xs) (flats ys) ≡ false
same_body-longer [] [] h = absurd (h refl)
same_body-longer [] (y ∷ ys) h = refl
same_body-longer (x ∷ xs) [] h = refl
same_body-longer (x ∷ xs) (y ∷ ys) h = ap (λ r. same_kind x.kind y.kind && r) (same_body-longer xs ys (λ e. h (omega arith))) ∙ and-false (same_kind x.kind y.kind)
