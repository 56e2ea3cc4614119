-- The loop goes over the pairs in order.
use Rattle.std.proofs.Common.{◌++◌, ◌∷◌, [], length, map, ap, ◌∙◌}
use Rattle.std.specs.Iterator.Adapters.{zip_first, zip_second}
use Rattle.std.specs.Slice.Iter.{iter_rest}
use Rattle.std.proofs.lemmas.List.{length_push}
use Rattle.std.proofs.lemmas.Slice.Zip.{zip_turn, zip_end}
use Rattle.c_tree.specs.BareUnit.{BareField, bare_field}
use Rattle.gen_pack.specs.StructFields.{field_of}
use Rattle.gen_unit.proofs.InPairs.{all_pairs, map-last, mapped_more}
use Rattle.gen_unit.proofs.CommentedFields.{fields_by_pairs}
use Rattle.gen_unit.proofs.structs.fields.Goals as goal

pub loop-s-preserved : goal.loop-s-preserved
loop-s-preserved c =
    let ss = c.args.signals.now in
    let ns = c.args.names.now in
    let first = ap (λ z. iter_rest (zip_first z)) c.into_iter-s-iterator.ensures.into_iter_gives ∙ ap iter_rest c.zip-s-items.ensures.first ∙ c.iter.ensures.rest in
    let second = ap (λ z. iter_rest (zip_second z)) c.into_iter-s-iterator.ensures.into_iter_gives ∙ c.zip-s-items.ensures.second.0 in
    let turn = zip_turn ss ns c.loop-s.yielded c.into_iter-s-iterator.result c.loop-s.s-iterator c.next.new.self c.next.result first second c.loop-s.yielded_by (c.in-Some.s, c.in-Some.n) c.in-Some.is c.next.ensures.steps in
    ap (map bare_field) c.in_ok-push.ensures.ok
    ∙ map-last bare_field c.loop-s.fields c.in_ok-field.field-0
    ∙ ap (λ (f : BareField). map bare_field c.loop-s.fields ++ f ∷ []) c.in_ok-field.ensures
    ∙ mapped_more (λ p. field_of p.0 p.1) (map bare_field c.loop-s.fields) ss ns (length c.loop-s.yielded) _ c.in-Some.s.now c.in-Some.n.now (length_push c.loop-s.yielded (c.in-Some.s, c.in-Some.n))
    turn.0 turn.1 (turn.2 c.in-Some.s.now) (turn.3 c.in-Some.n.now) c.loop-s.invariant

pub returns : goal.returns
returns c =
    let ss = c.args.signals.now in
    let ns = c.args.names.now in
    let first = ap (λ z. iter_rest (zip_first z)) c.into_iter-s-iterator.ensures.into_iter_gives ∙ ap iter_rest c.zip-s-items.ensures.first ∙ c.iter.ensures.rest in
    let second = ap (λ z. iter_rest (zip_second z)) c.into_iter-s-iterator.ensures.into_iter_gives ∙ c.zip-s-items.ensures.second.0 in
    let end = zip_end ss ns c.loop-s.yielded c.into_iter-s-iterator.result c.loop-s.s-iterator c.next.new.self c.next.result first second c.loop-s.yielded_by c.in-None.is c.next.ensures.steps in
    c.loop-s.invariant ∙ ap (map (λ p. field_of p.0 p.1)) (all_pairs ss ns (length c.loop-s.yielded) end) ∙ fields_by_pairs ss ns
