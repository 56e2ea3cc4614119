-- The loop goes over the signals with their names, in order.
use Rattle.std.proofs.Common.{◌++◌, map, length, refl, ap, ◌∙◌}
use Rattle.std.specs.Iterator.Adapters.{zip_first, zip_second}
use Rattle.std.specs.Slice.Iter.{iter_rest}
use Rattle.std.proofs.lemmas.List.{length_push}
use Rattle.std.proofs.lemmas.Slice.Zip.{zip_turn, zip_end}
use Rattle.c_tree.specs.BareStatement.{bare_statement}
use Rattle.gen_unpack.specs.UnpackTree.{part_got}
use Rattle.gen_pack.proofs.InPairs.{of_pair, one_more, all_pairs, parts-in-pairs}
use Rattle.gen_unpack.proofs.body.put_signals.Goals as goal

pub loop-signal-preserved : goal.loop-signal-preserved
loop-signal-preserved c =
    let ss = c.args.signals.now in
    let ns = c.args.names.now in
    let first = ap (λ z. iter_rest (zip_first z)) c.into_iter-signal-iterator.ensures.into_iter_gives ∙ ap iter_rest c.zip-signal-items.ensures.first ∙ c.iter.ensures.rest in
    let second = ap (λ z. iter_rest (zip_second z)) c.into_iter-signal-iterator.ensures.into_iter_gives ∙ c.zip-signal-items.ensures.second.0 in
    let turn = zip_turn ss ns c.loop-signal.yielded c.into_iter-signal-iterator.result c.loop-signal.signal-iterator c.next.new.self c.next.result first second c.loop-signal.yielded_by (c.in-Some.signal, c.in-Some.name) c.in-Some.is c.next.ensures.steps in
    c.in_ok-put_signal.ensures
    ∙ one_more (of_pair part_got) (map bare_statement c.args.out.now) (map bare_statement c.loop-signal.out) ss ns (length c.loop-signal.yielded) _ c.in-Some.signal.now c.in-Some.name.now (length_push c.loop-signal.yielded (c.in-Some.signal, c.in-Some.name))
    turn.0 turn.1 (turn.2 c.in-Some.signal.now) (turn.3 c.in-Some.name.now) c.loop-signal.invariant

pub returns : goal.returns
returns c =
    let ss = c.args.signals.now in
    let ns = c.args.names.now in
    let first = ap (λ z. iter_rest (zip_first z)) c.into_iter-signal-iterator.ensures.into_iter_gives ∙ ap iter_rest c.zip-signal-items.ensures.first ∙ c.iter.ensures.rest in
    let second = ap (λ z. iter_rest (zip_second z)) c.into_iter-signal-iterator.ensures.into_iter_gives ∙ c.zip-signal-items.ensures.second.0 in
    let end = zip_end ss ns c.loop-signal.yielded c.into_iter-signal-iterator.result c.loop-signal.signal-iterator c.next.new.self c.next.result first second c.loop-signal.yielded_by c.in-None.is c.next.ensures.steps in
    c.loop-signal.invariant
    ∙ ap (λ ps. map bare_statement c.args.out.now ++ ps) (all_pairs (of_pair part_got) ss ns (length c.loop-signal.yielded) end ∙ parts-in-pairs part_got (record { same = λ i s n. refl }) 0 ss ns)
