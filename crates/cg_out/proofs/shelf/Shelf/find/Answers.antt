use Rattle.std.proofs.Common.{◌<◌, length, ℕ, List, ap, sym, ◌∙◌, map, slice_index_or, arith}
use Rattle.std.specs.Prelude.{slice_range}
use Rattle.std.proofs.lemmas.Slice.Eq.{slice_eq-Decides}
use Rattle.std.proofs.lemmas.Bool.Decides.{Decides-eqb}
use Rattle.std.specs.Cmp.Lexicographic.{nat_list_cmp_total}
use Rattle.std.specs.FinMap as map
use Rattle.cg_out.specs.Outside.{Folder}
use Rattle.cg_out.specs.Slots.{pair_of}
use Rattle.cg_out.specs.declared.shelf.Slot.{Slot}
use Rattle.cg_out.proofs.SlotLemmas.{find_step}
use Rattle.cg_out.proofs.shelf.Shelf.find.Goals as goal

pub loop-s-init : goal.loop-s-init
loop-s-init c = sym (map.get-from_entries nat_list_cmp_total (map (pair_of c.self.inside.arena.items) c.self.inside.slots.items) c.args.name.now) ∙ ap (λ (v : Folder × (ℕ × ℕ)). map.get v.0 c.args.name.now) c.self.view_is

pub returns-then-eq : goal.returns-then-eq
returns-then-eq c =
    let d : Slot = record { start = 0; middle = 0; end = 0 } in
    let s = slice_index_or c.deref-s-items.result.now c.loop-s.s-index d in
    let lt : c.loop-s.s-index < length c.self.inside.slots.items = omega (arith, ap length c.deref-s-items.ensures.value, c.loop-s-test.true) in
    let dec = slice_eq-Decides Decides-eqb (slice_range c.deref.result.now s.start s.middle) c.args.name.now c.eq.result c.eq.ensures in
    let step = find_step c.args.name.now c.self.inside.arena.items c.self.inside.slots.items c.loop-s.s-index s d c.eq.result lt (ap (λ (xs : List Slot). slice_index_or xs c.loop-s.s-index d) (sym c.deref-s-items.ensures.value)) (rw c.deref.ensures.value at dec) in
    let found = rw c.if-eq.true at step in
    rw c.deref-then-eq.ensures.value (sym found ∙ c.loop-s.invariant)

pub loop-s-preserved : goal.loop-s-preserved
loop-s-preserved c =
    let d : Slot = record { start = 0; middle = 0; end = 0 } in
    let s = slice_index_or c.deref-s-items.result.now c.loop-s.s-index d in
    let lt : c.loop-s.s-index < length c.self.inside.slots.items = omega (arith, ap length c.deref-s-items.ensures.value, c.loop-s-test.true) in
    let dec = slice_eq-Decides Decides-eqb (slice_range c.deref.result.now s.start s.middle) c.args.name.now c.eq.result c.eq.ensures in
    let step = find_step c.args.name.now c.self.inside.arena.items c.self.inside.slots.items c.loop-s.s-index s d c.eq.result lt (ap (λ (xs : List Slot). slice_index_or xs c.loop-s.s-index d) (sym c.deref-s-items.ensures.value)) (rw c.deref.ensures.value at dec) in
    let passed = rw c.if-eq.false at step in
    sym passed ∙ c.loop-s.invariant
