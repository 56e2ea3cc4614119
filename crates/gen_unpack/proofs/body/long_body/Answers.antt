-- One part of the body is put behind another.
use Rattle.std.proofs.Common.{[], ◌∷◌, ◌++◌, map, List, ap, ◌∙◌}
use Rattle.std.specs.List.{flat_map}
use Rattle.c_tree.specs.BareExpression.{name}
use Rattle.c_tree.specs.BareStatement.{Action, bare_statement}
use Rattle.gen_pack.specs.Parts.{parts_from}
use Rattle.gen_pack.specs.PackTree.{error_name, number, declared, size_asked, returned}
use Rattle.gen_unpack.specs.UnpackTree.{unused, part_got}
use Rattle.gen_unpack.proofs.Bodies.{long-body-is}
use Rattle.gen_unpack.proofs.body.long_body.Goals as goal

pub returns : goal.returns
returns c =
    let n = c.args.length in
    let ps = parts_from 0 c.args.signals.now c.args.names.now in
    c.in_ok-put_returned.ensures
    ∙ ap (λ (r : List Action). r ++ returned (number 0) ∷ [])
    (c.in_ok-put_signals.ensures ∙ ap (λ (r : List Action). r ++ flat_map part_got ps)
    (c.in_ok-put_size_asked.ensures ∙ ap (λ (r : List Action). r ++ size_asked (name error_name) n ∷ [])
    (c.in_ok-put_declarations.ensures ∙ ap (λ (r : List Action). r ++ flat_map declared ps)
    (c.in_ok-put_unused.ensures ∙ ap (λ r. map bare_statement r ++ unused ps) c.new-out.ensures))))
    ∙ long-body-is (name error_name) n c.args.signals.now c.args.names.now c.requires.flat
