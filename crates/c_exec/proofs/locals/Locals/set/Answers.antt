use Rattle.std.proofs.Common.{rules, ◌∙◌, sym, ap, set, get_or}
use Rattle.c_effect.specs.Locals as spec
use Rattle.c_exec.proofs.Blocks.{sets-at, stays-at, passes-at, passes-all}
use Rattle.c_exec.proofs.locals.Locals.set.Goals as goal

pub returns-then-replace : goal.returns-then-replace
returns-then-replace c =
    let inv = c.loop-index.invariant in
    let is = c.index_mut.ensures.value ∙ ap (λ xs. get_or xs c.loop-index.index c.index_mut.result.now) inv.same in
    ap (λ xs. set xs c.loop-index.index c.replace.new.self) inv.same
    ∙ sets-at c.args.name.now c.args.held c.self.inside.blocks.items c.loop-index.index c.index_mut.result.now c.replace.new.self (search rules) is c.if-replace.ensures.there c.replace.ensures.value
    ∙ inv.rest ∙ ap (spec.set_local c.args.name.now c.args.held) c.self.view_is

pub loop-index-preserved : goal.loop-index-preserved
loop-index-preserved c =
    let inv = c.loop-index.invariant in
    let is = c.index_mut.ensures.value ∙ ap (λ xs. get_or xs c.loop-index.index c.index_mut.result.now) inv.same in
    record {
      same = ap (λ xs. set xs c.loop-index.index c.replace.new.self) inv.same
          ∙ stays-at c.args.name.now c.args.held c.self.inside.blocks.items c.loop-index.index c.index_mut.result.now c.replace.new.self (search rules) is c.if-replace.ensures.there c.replace.ensures.value;
      rest = passes-at c.args.name.now c.args.held c.self.inside.blocks.items c.loop-index.index c.index_mut.result.now (search rules) is c.if-replace.ensures.there ∙ inv.rest;
    }

pub returns : goal.returns
returns c =
    let inv = c.loop-index.invariant in
    inv.same ∙ sym (passes-all c.args.name.now c.args.held c.self.inside.blocks.items c.loop-index.index (search rules)) ∙ inv.rest ∙ ap (spec.set_local c.args.name.now c.args.held) c.self.view_is
