use Rattle.std.proofs.Common.{[], ap, sym, ◌∙◌, subst}
use Rattle.c_widths.specs.DataModel.{model_of}
use Rattle.c_types.specs.Setting.{Setting, setting}
use Rattle.c_types.specs.UnitTypes.{unit_faults, items_in_order}
use Rattle.c_types.specs.Verdict.{Refuses}
use Rattle.c_types.proofs.Verdicts.{refuses_gives}
use Rattle.c_types.proofs.typed_unit.typed.Goals as goal

pub returns : goal.returns
unfolding unit_faults
returns g c =
    let m = model_of g.row.INT g.row.LONG g.row.PTR in
    let first = subst (λ is. Refuses c.in-Err.fault (items_in_order m is [] is)) c.items-items.ensures c.in-Err.ensures.passes in
    record { exact = refuses_gives (λ t. t) c.in-Err.fault (unit_faults m c.args.unit.now) c.args.unit.now first }

pub invariant_of-result : goal.invariant_of-result
unfolding unit_faults
invariant_of-result g c =
    let m = model_of g.row.INT g.row.LONG g.row.PTR in
    let knows = c.in-Ok.ensures.knows ∙ ap (λ is. setting m is is) c.items-items.ensures in (
      sym (ap (λ is. items_in_order m is [] is) c.items-items.ensures) ∙ c.in-Ok.ensures.passes,
      ((λ name. ap (λ s. Setting.defined s name) knows), ((λ tag. ap (λ s. Setting.fields s tag) knows), tt)),
    )
