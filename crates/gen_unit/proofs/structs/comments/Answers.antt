-- The loop goes over the pairs in order.
use Rattle.std.proofs.Common.{ℕ, ◌++◌, ◌∷◌, [], List, length, map, ap, ◌∙◌}
use Rattle.std.specs.Iterator.Adapters.{zip_first, zip_second}
use Rattle.std.specs.Slice.Iter.{iter_rest}
use Rattle.std.proofs.lemmas.List.{length_push}
use Rattle.std.proofs.lemmas.Slice.Zip.{zip_turn, zip_end}
use Rattle.gen_unit.specs.HeaderStruct.{field_comment}
use Rattle.gen_unit.proofs.InPairs.{all_pairs, mapped_more}
use Rattle.gen_unit.proofs.structs.comments.Goals as goal

pub loop-s-preserved : goal.loop-s-preserved
loop-s-preserved c =
    let ss = c.args.signals.now in
    let ns = c.args.names.now in
    let first = ap (λ z. iter_rest (zip_first z)) c.into_iter-s-iterator.ensures.into_iter_gives ∙ ap iter_rest c.zip-s-items.ensures.first ∙ c.iter.ensures.rest in
    let second = ap (λ z. iter_rest (zip_second z)) c.into_iter-s-iterator.ensures.into_iter_gives ∙ c.zip-s-items.ensures.second.0 in
    let turn = zip_turn ss ns c.loop-s.yielded c.into_iter-s-iterator.result c.loop-s.s-iterator c.next.new.self c.next.result first second c.loop-s.yielded_by (c.in-Some.s, c.in-Some._n) c.in-Some.is c.next.ensures.steps in
    c.in_ok-push.ensures.ok
    ∙ ap (λ (t : List ℕ). c.loop-s.comments ++ t ∷ []) c.in_ok-comment.ensures
    ∙ mapped_more (λ p. field_comment p.0) c.loop-s.comments ss ns (length c.loop-s.yielded) _ c.in-Some.s.now c.in-Some._n.now (length_push c.loop-s.yielded (c.in-Some.s, c.in-Some._n))
    turn.0 turn.1 (turn.2 c.in-Some.s.now) (turn.3 c.in-Some._n.now) c.loop-s.invariant

pub returns : goal.returns
returns c =
    let ss = c.args.signals.now in
    let ns = c.args.names.now in
    let first = ap (λ z. iter_rest (zip_first z)) c.into_iter-s-iterator.ensures.into_iter_gives ∙ ap iter_rest c.zip-s-items.ensures.first ∙ c.iter.ensures.rest in
    let second = ap (λ z. iter_rest (zip_second z)) c.into_iter-s-iterator.ensures.into_iter_gives ∙ c.zip-s-items.ensures.second.0 in
    let end = zip_end ss ns c.loop-s.yielded c.into_iter-s-iterator.result c.loop-s.s-iterator c.next.new.self c.next.result first second c.loop-s.yielded_by c.in-None.is c.next.ensures.steps in
    c.loop-s.invariant ∙ ap (map (λ p. field_comment p.0)) (all_pairs ss ns (length c.loop-s.yielded) end)
