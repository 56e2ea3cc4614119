use Rattle.std.proofs.Common.{◌∙◌, sym, inl, inr}
use Rattle.c_widths.specs.DataModel.{model_of}
use Rattle.c_exec.proofs.WithoutArguments.{without-params, without-args}
use Rattle.c_exec.proofs.parameters.put_params.Goals as goal

pub returns : goal.returns
returns g c =
    let m = model_of g.row.INT g.row.LONG g.row.PTR in
    let fields = c.loop-param.param-iterator.a.rest.now in
    let args = c.loop-param.param-iterator.b.rest.now in
    elim c.in-None.ensures.steps [
      | inl ended ↦ sym (without-params m c.loop-param.block fields args ended.1.0) ∙ c.loop-param.invariant
      | inr ended ↦ sym (without-args m c.loop-param.block fields args ended.1.0) ∙ c.loop-param.invariant
    ]
