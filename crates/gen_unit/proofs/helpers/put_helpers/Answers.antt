-- The kinds are put one behind another.
use Rattle.std.proofs.lemmas.Result.{on_ok_weaker}
use Rattle.c_printer.specs.BarePart.{bare_parts}
use Rattle.gen_unit.proofs.CalledParts.{four-kinds}
use Rattle.gen_unit.proofs.helpers.put_helpers.Goals as goal

pub returns : goal.returns
returns c =
    on_ok_weaker c.put_kind-4.result
    (four-kinds c.args.messages.now (bare_parts c.args.parts.now) (bare_parts c.put_kind.new.parts) (bare_parts c.put_kind-2.new.parts) (bare_parts c.put_kind-3.new.parts) (bare_parts c.put_kind-4.new.parts)
    c.in_ok-put_kind.ensures c.in_ok-put_kind-2.ensures c.in_ok-put_kind-3.ensures) c.put_kind-4.ensures
