-- Parameters or arguments that have come to their end.
use Rattle.std.proofs.Common.{◌≡◌, List, [], ◌∷◌, length, refl, arith}
use Rattle.c_tree.specs.declared.item.Field.{Field}
use Rattle.c_widths.specs.DataModel.{DataModel}
use Rattle.c_effect.specs.declared.state.Arg.{Arg}
use Rattle.c_effect.specs.Locals.{Block}
use Rattle.c_effect.specs.FunctionCall.{with_params}

module _ (m : DataModel) (block : Block) where
  pub without-params : (fields : List Field) (args : List Arg) → length fields ≡ 0 → with_params m fields args block ≡ block
  without-params [] args h = refl
  without-params (f ∷ fs) args h = absurd (omega (arith, h))

  pub without-args : (fields : List Field) (args : List Arg) → length args ≡ 0 → with_params m fields args block ≡ block
  without-args [] [] h = refl
  without-args (f ∷ fs) [] h = refl
  without-args fields (x ∷ xs) h = absurd (omega (arith, h))
