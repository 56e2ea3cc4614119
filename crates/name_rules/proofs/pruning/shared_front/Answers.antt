use Rattle.std.proofs.Common.{◌≡◌, leb, take, bytes_eq, ap, ◌∙◌, sym, arith}
use Rattle.name_rules.specs.Fronts.{front_len}
use Rattle.name_rules.proofs.Losing.{take-leb, one_more}
use Rattle.name_rules.proofs.pruning.shared_front.Goals as goal

pub loop-name-preserved : goal.loop-name-preserved
loop-name-preserved c =
    let first = c.args.first.now in
    let name = c.name-item.result in
    let front : c.common_front.result ≡ front_len first name = c.common_front.ensures ∙ ap (front_len first) c.bytes.ensures in
    record {
      within = omega (arith, c.min-shared.ensures, c.loop-name.invariant.within);
      shared = λ n le.
          one_more (λ x. bytes_eq (take n x) (take n first)) c.args.names.now c.loop-name.name-index n c.loop-name.shared c.common_front.result name c.loop-name-test.true
          (c.loop-name.invariant.shared n le)
          (ap (λ x. bytes_eq (take n x) (take n first)) (sym c.name-item.is) ∙ take-leb n first name le ∙ ap (leb n) (sym front))
          ∙ ap (leb n) (sym c.min-shared.ensures);
    }
