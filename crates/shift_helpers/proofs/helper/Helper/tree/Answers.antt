-- The tree is the definition's, which helps.
use Rattle.std.proofs.Common.{rules, refl}
use Rattle.shift_helpers.proofs.Helping.{alike-helps}
use Rattle.shift_helpers.specs.HelperTree.{helper}
use Rattle.shift_helpers.proofs.helper.Helper.tree.Goals as goal

pub returns-clause-tree : goal.returns-clause-tree
returns-clause-tree g c = search rules

pub returns-clause-helps : goal.returns-clause-helps
returns-clause-helps g c =
    let e = returns-clause-tree g c in
    rw e (alike-helps c.args.kind g.row.W c.requires.width (helper c.args.kind g.row.W) refl)
