-- The loop goes over the messages with their names, in order.
use Rattle.std.proofs.Common.{◌++◌, length, ap, ◌∙◌}
use Rattle.std.specs.Iterator.Adapters.{zip_first, zip_second}
use Rattle.std.specs.Slice.Iter.{iter_rest}
use Rattle.std.proofs.lemmas.List.{length_push}
use Rattle.std.proofs.lemmas.Slice.Zip.{zip_turn, zip_end}
use Rattle.gen_pack.proofs.InPairs.{one_more, all_pairs}
use Rattle.gen_unit.proofs.CalledParts.{text_of_message, by-message}
use Rattle.gen_unit.proofs.source_unit.print_functions.Goals as goal

pub loop-m-preserved : goal.loop-m-preserved
loop-m-preserved c =
    let ms = c.args.messages.now in
    let ns = c.args.names.now in
    let first = ap (λ z. iter_rest (zip_first z)) c.into_iter-m-iterator.ensures.into_iter_gives ∙ ap iter_rest c.zip-m-items.ensures.first ∙ c.iter.ensures.rest in
    let second = ap (λ z. iter_rest (zip_second z)) c.into_iter-m-iterator.ensures.into_iter_gives ∙ c.zip-m-items.ensures.second.0 in
    let turn = zip_turn ms ns c.loop-m.yielded c.into_iter-m-iterator.result c.loop-m.m-iterator c.next.new.self c.next.result first second c.loop-m.yielded_by (c.in-Some.m, c.in-Some.n) c.in-Some.is c.next.ensures.steps in
    c.in_ok-print_message.ensures
    ∙ one_more text_of_message c.args.out.now.items c.loop-m.out.items ms ns (length c.loop-m.yielded) _ c.in-Some.m.now c.in-Some.n.now (length_push c.loop-m.yielded (c.in-Some.m, c.in-Some.n))
    turn.0 turn.1 (turn.2 c.in-Some.m.now) (turn.3 c.in-Some.n.now) c.loop-m.invariant

pub returns : goal.returns
returns c =
    let ms = c.args.messages.now in
    let ns = c.args.names.now in
    let first = ap (λ z. iter_rest (zip_first z)) c.into_iter-m-iterator.ensures.into_iter_gives ∙ ap iter_rest c.zip-m-items.ensures.first ∙ c.iter.ensures.rest in
    let second = ap (λ z. iter_rest (zip_second z)) c.into_iter-m-iterator.ensures.into_iter_gives ∙ c.zip-m-items.ensures.second.0 in
    let end = zip_end ms ns c.loop-m.yielded c.into_iter-m-iterator.result c.loop-m.m-iterator c.next.new.self c.next.result first second c.loop-m.yielded_by c.in-None.is c.next.ensures.steps in
    c.loop-m.invariant ∙ ap (λ ps. c.args.out.now.items ++ ps) (all_pairs text_of_message ms ns (length c.loop-m.yielded) end ∙ by-message ms ns)
