use Rattle.std.proofs.Common.{◌+◌, ◌-◌, length, take, drop, Ok, arith, length-drop}
use Rattle.c_tree.specs.Sequence.{all_read}
use Rattle.c_tree.specs.UnitCut.{each_item}
use Rattle.c_parser.proofs.Loops.{first_is, first_and_rest, goes_on}
use Rattle.c_parser.proofs.items.items.Goals as goal

pub loop-left-preserved : goal.loop-left-preserved
loop-left-preserved c =
    let left = c.loop-left.left.now in
    let x = c.first-item.result in
    let xs = take (length left - 1) (drop 1 left) in
    let first = first_is each_item left xs x (Ok (c.in_ok-item.item, c.in_ok-item.more)) (first_and_rest left x c.in-len1-up.len_at_least c.first-item.is) c.in_ok-item.ensures.value in
    record {
      within = rw c.behind-left.ensures (omega (arith, c.loop-left.invariant.within, length-drop (c.in_ok-item.more + 1) left));
      rest = rw (c.in_ok-push.ensures.ok, c.behind-left.ensures) (goes_on each_item c.loop-left.list left c.in_ok-item.item c.in_ok-item.more (all_read each_item 0 c.args.tokens.now) first c.loop-left.invariant.rest);
    }
