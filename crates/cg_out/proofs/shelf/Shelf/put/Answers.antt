use Rattle.std.proofs.Common.{◌≡◌, ℕ, ◌-◌, ◌∷◌, ◌++◌, length, length-append, ap, arith, ◌∙◌}
use Rattle.std.proofs.lemmas.Grind.{common_steps}
use Rattle.std.specs.FinMap as map
use Rattle.cg_out.specs.Outside.{Folder}
use Rattle.cg_out.specs.Slots.{folder_of}
use Rattle.cg_out.specs.declared.shelf.Slot.{Slot}
use Rattle.cg_out.proofs.SlotLemmas.{put_folder}
use Rattle.cg_out.proofs.shelf.Shelf.put.Goals as goal

pub returns : goal.returns
returns c =
    let arena = c.self.inside.arena.items in
    let slots = c.self.inside.slots.items in
    let name = c.args.name.now in
    let bytes = c.args.bytes.now in
    let new : Slot = record { start = c.len-start.result; middle = c.len-middle.result; end = c.len-end.result } in
    let a1 : c.extend_from_slice.new.self.items ≡ arena ++ name = grind (arith, common_steps) in
    let a2 : c.extend_from_slice-2.new.self.items ≡ (arena ++ name) ++ bytes = grind (arith, common_steps) in
    let s1 : c.insert.new.self.items ≡ new ∷ slots = grind (arith, common_steps) in
    let f : folder_of c.extend_from_slice-2.new.self.items c.insert.new.self.items ≡ map.insert c.args.self.now.0 name bytes =
    rw (a2, s1) (put_folder arena name bytes slots new c.self.invariant.0 (omega arith) (omega (arith, ap length a1, length-append arena name)) (omega (arith, ap length a2, length-append arena name, length-append (arena ++ name) bytes)) ∙ ap (λ (v : Folder × (ℕ × ℕ)). map.insert v.0 name bytes) c.self.view_is) in
    let r : c.self.inside.room - c.args.taken ≡ c.args.self.now.1.0 - c.args.taken = omega (arith, ap (λ (v : Folder × (ℕ × ℕ)). v.1.0) c.self.view_is) in
    let p : c.self.inside.places - 1 ≡ c.args.self.now.1.1 - 1 = omega (arith, ap (λ (v : Folder × (ℕ × ℕ)). v.1.1) c.self.view_is) in
    λ i. (f i, (r i, p i))
