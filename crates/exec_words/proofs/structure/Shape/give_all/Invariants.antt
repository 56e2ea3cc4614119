use Rattle.std.proofs.Common.{◌≡◌, ◌==◌, length}
use Rattle.std.specs.List.{slice_split}
use Rattle.c_widths.specs.DataModel.{model_of}
use Rattle.exec_words.specs.StructWord.{with_parts}
use Rattle.exec_words.proofs.structure.Shape.give_all.Given as goal

-- the parts that are left give what all give
abbrev pub invariant-loop-part : goal.invariant-loop-part
invariant-loop-part g l =
    let m = model_of g.row.INT g.row.LONG g.row.PTR in
    with_parts m l.self.fields.now (slice_split (λ b. b == 44) l.left) l.cells ≡ with_parts m l.self.fields.now (slice_split (λ b. b == 44) l.word) l.initial.cells

abbrev pub decreases-loop-part : goal.decreases-loop-part
decreases-loop-part g l = length l.left
