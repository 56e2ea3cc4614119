use Rattle.std.proofs.Common.{◌≡◌, [], ◌∷◌, ◌++◌, length, map, min, ap, ◌∙◌}
use Rattle.std.specs.Prelude.{◌==◌, if◌then◌else◌}
use Rattle.c_tree.specs.BareStatement.{bare_statement, discard}
use Rattle.gen_pack.specs.PackTree.{buffer, source}
use Rattle.gen_unpack.proofs.Bodies.{unused-is}
use Rattle.gen_unpack.proofs.body.put_unused.Goals as goal

pub returns : goal.returns
returns c =
    let few : c.min-count.result ≡ min (length c.args.signals.now) (length c.args.names.now) = c.min-count.ensures in
    c.in_ok-put_pointers_discarded.ensures
    ∙ ap (λ k. map bare_statement c.args.out.now ++ (if k == 0 then discard buffer ∷ discard source ∷ [] else [])) few
    ∙ ap (λ r. map bare_statement c.args.out.now ++ r) (unused-is c.args.signals.now c.args.names.now)
