-- Where no field or no cell is left, all is told.
use Rattle.std.proofs.Common.{◌≡◌, ℕ, List, [], ◌∷◌, ◌++◌, length, refl, sym, ◌∙◌, append-nil, arith, inl, inr}
use Rattle.std.specs.Prelude.{ℤ}
use Rattle.c_tree.specs.declared.item.Field.{Field}
use Rattle.c_mem.specs.Cells.{CellsOf}
use Rattle.exec_words.specs.CallReport.{further_text}
use Rattle.exec_words.proofs.reporting.put_further.Goals as goal

without-fields : (fields : List Field) (cells : CellsOf ℤ) → length fields ≡ 0 → further_text fields cells ≡ []
without-fields [] cells h = refl
without-fields (f ∷ fs) cells h = absurd (omega (arith, h))

without-cells : (fields : List Field) (cells : CellsOf ℤ) → length cells ≡ 0 → further_text fields cells ≡ []
without-cells [] cells h = refl
without-cells (f ∷ fs) [] h = refl
without-cells (f ∷ fs) (cell ∷ cells) h = absurd (omega (arith, h))

all-told : (told rest whole : List ℕ) → rest ≡ [] → told ++ rest ≡ whole → told ≡ whole
all-told told rest whole e h = sym (append-nil told) ∙ (rw e at h)

pub returns : goal.returns
returns c =
    let fields = c.loop-field.field-iterator.a.rest.now in
    let cells = c.loop-field.field-iterator.b.rest.now in
    elim c.in-None.ensures.steps [
      | inl ended ↦ all-told _ _ _ (without-fields fields cells ended.1.0) c.loop-field.invariant
      | inr ended ↦ all-told _ _ _ (without-cells fields cells ended.1.0) c.loop-field.invariant
    ]
