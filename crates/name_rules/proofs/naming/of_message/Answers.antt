-- Its own names in turn, and then those of its signals.
use Rattle.std.proofs.Common.{ℕ, List, subst, ◌∙◌}
use Rattle.std.specs.Prelude.{codes}
use Rattle.std.specs.List.{flat_map}
use Rattle.can_model.specs.declared.database.Signal.{Signal}
use Rattle.name_rules.specs.Wanted.{upper, wanted_of_signal}
use Rattle.name_rules.specs.Symbols.{one_or_none, file_names_of_signal}
use Rattle.name_rules.specs.Places.{Picks}
use Rattle.name_rules.specs.Taken.{taken_in}
use Rattle.name_rules.specs.Naming.{wanted_of_cycle}
use Rattle.name_rules.proofs.PickLaws.{then, next, ending}
use Rattle.name_rules.proofs.naming.of_message.Goals as goal

pub returns-clause-picks : goal.returns-clause-picks
returns-clause-picks c =
    let front = c.args.front.now in
    let capitals = upper front in
    let s0 = taken_in c.args.file.now in
    let s1 = taken_in c.pick_ending.new.place in
    let s2 = taken_in c.pick_ending-2.new.place in
    let s3 = taken_in c.pick_ending-3.new.place in
    let s4 = taken_in c.of_cycle.new.file in
    let s5 = taken_in c.pick_ending-4.new.place in
    let s6 = taken_in c.pick_ending-5.new.place in
    let s7 = taken_in c.pick_ending-6.new.place in
    let s8 = taken_in c.pick_ending-7.new.place in
    let s9 = taken_in c.of_signals.new.file in
    let cycle : Picks s3 s4 (wanted_of_cycle capitals c.args.m.now.cycle) (one_or_none c.in_ok-cycle.cycle) =
    subst (λ (x : List ℕ). Picks s3 s4 (wanted_of_cycle x c.args.m.now.cycle) (one_or_none c.in_ok-cycle.cycle)) (c.deref-4.ensures.value ∙ c.in_ok-capitals.ensures) c.in_ok-cycle.ensures.picks in
    let signals : Picks s8 s9 (flat_map (wanted_of_signal c.args.prune front) c.args.m.now.signals) (flat_map file_names_of_signal c.in_ok-signals.signals) =
    subst (λ (ss : List Signal). Picks s8 s9 (flat_map (wanted_of_signal c.args.prune front) ss) (flat_map file_names_of_signal c.in_ok-signals.signals)) c.items.ensures c.in_ok-signals.ensures.picks in
    next s0 s1 s9 _ _ _ _ (ending s0 s1 c.deref.result.now capitals (codes "_FRAME_ID") c.in_ok-frame_id.frame_id (c.deref.ensures.value ∙ c.in_ok-capitals.ensures) c.in_ok-frame_id.ensures)
    (next s1 s2 s9 _ _ _ _ (ending s1 s2 c.deref-2.result.now capitals (codes "_LENGTH") c.in_ok-length.length (c.deref-2.ensures.value ∙ c.in_ok-capitals.ensures) c.in_ok-length.ensures)
    (next s2 s3 s9 _ _ _ _ (ending s2 s3 c.deref-3.result.now capitals (codes "_IS_EXTENDED") c.in_ok-extended.extended (c.deref-3.ensures.value ∙ c.in_ok-capitals.ensures) c.in_ok-extended.ensures)
    (then s3 s8 s9 _ _ _ _
    (then s3 s4 s8 _ _ _ _ cycle (next s4 s5 s8 _ _ _ _ c.in_ok-tag.ensures (next s5 s6 s8 _ _ _ _ c.in_ok-pack.ensures (next s6 s7 s8 _ _ _ _ c.in_ok-unpack.ensures c.in_ok-init.ensures))))
    signals)))
