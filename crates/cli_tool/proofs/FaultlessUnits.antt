-- Units without a fault.
use Rattle.std.proofs.Common.{◌≡◌, List, [], ◌∷◌, ◌++◌, Ok, refl}
use Rattle.c_tree.specs.declared.item.Unit.{Unit as Whole}
use Rattle.c_text.specs.Refusal.{Refusal}
use Rattle.c_widths.specs.DataModel.{ilp32, lp64, models}
use Rattle.c_types.specs.TypeFault.{unless_refused}
use Rattle.c_types.specs.UnitTypes.{unit_faults, faults_under}

pub no_faults : (faults : List Refusal) (x y : Whole) → unless_refused faults x ≡ Ok y → faults ≡ []
no_faults [] x y h = refl
no_faults (r ∷ rs) x y h = absurd (cc)

first-none : (xs ys : List Refusal) → xs ++ ys ≡ [] → (xs ≡ []) × (ys ≡ [])
first-none [] ys h = (refl, h)
first-none (x ∷ xs) ys h = absurd (cc)

pub record UnderEach (unit : Whole) : Type 0 where
  pub ilp32 : unit_faults ilp32 unit ≡ []
  pub lp64 : unit_faults lp64 unit ≡ []

pub under_each : (unit : Whole) → faults_under models unit ≡ [] → UnderEach unit
under_each unit h =
    let first = first-none (unit_faults ilp32 unit) (unit_faults lp64 unit ++ []) h in
    record { ilp32 = first.0; lp64 = (first-none (unit_faults lp64 unit) [] first.1).0 }
