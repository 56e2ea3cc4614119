use Rattle.std.proofs.Common.{sym, ◌∙◌}
use Rattle.c_widths.specs.DataModel.{model_of}
use Rattle.exec_words.proofs.Parts.{gives_none}
use Rattle.exec_words.proofs.structure.Shape.give_all.Goals as goal

pub returns-in_err-give : goal.returns-in_err-give
returns-in_err-give g c =
    let m = model_of g.row.INT g.row.LONG g.row.PTR in
    let none = gives_none m c.args.self.now.fields.now c.loop-part.left.now c.in-Some.part.now c.in-Some.rest.now c.loop-part.cells c.in-Some.ensures.parts c.in_err-give.ensures in
    rw c.from_residual.ensures (sym none ∙ c.loop-part.invariant)
