-- Slots in a run of bytes that grows.
use Rattle.std.proofs.Common.{◌≡◌, ℕ, ◌+◌, ◌-◌, ◌<◌, ◌≤◌, Bool, cond, Some, List, [], ◌∷◌, ◌++◌, length, get_or, map, take, drop, refl, sym, ◌∙◌, arith, append_assoc, length-append, length-drop, drop-cons, add-one}
use Rattle.std.specs.Bool.{Decides, one_answer}
use Rattle.std.specs.Str.{bytes_eq}
use Rattle.std.specs.Ordering.{nat_cmp, is_eq}
use Rattle.std.specs.Cmp.Lexicographic.{slice_cmp}
use Rattle.std.specs.FinMap.{find, insert, from_entries}
use Rattle.std.proofs.lemmas.Map.Text.{is_eq-slice_cmp}
use Rattle.std.proofs.lemmas.Slice.Eq.{bytes_eq-Decides}
use Rattle.std.specs.Prelude.{slice_range}
use Rattle.std.proofs.lemmas.List.{take-append-le, drop-append-le}
use Rattle.std.proofs.Math.Seq.{take-append_seam, drop-append_seam, take-length}
use Rattle.cg_out.specs.declared.shelf.Slot.{Slot}
use Rattle.cg_out.specs.Slots.{pair_of, folder_of, IsWithin, AreWithin}

pub slice_range-append : (xs ys : List ℕ) (a b : ℕ) → a ≤ b → b ≤ length xs → slice_range (xs ++ ys) a b ≡ slice_range xs a b
slice_range-append xs ys a b h k =
    let le : a ≤ length xs = omega arith in
    let within : b - a ≤ length (drop a xs) = omega (arith, length-drop a xs) in
    rw (drop-append-le a xs ys le, take-append-le (b - a) (drop a xs) ys within) refl

pub pair_of-append : (arena more : List ℕ) (s : Slot) → IsWithin arena s → pair_of (arena ++ more) s ≡ pair_of arena s
pair_of-append arena more s w =
    let h1 : s.middle ≤ length arena = omega (arith, w.bytes, w.inside) in
    rw (slice_range-append arena more s.start s.middle w.name h1, slice_range-append arena more s.middle s.end w.bytes w.inside) refl

pub pairs-append : (arena more : List ℕ) (ss : List Slot) → AreWithin arena ss → map (pair_of (arena ++ more)) ss ≡ map (pair_of arena) ss
pairs-append arena more [] w = refl
pairs-append arena more (s ∷ ss) w = rw (pair_of-append arena more s w.0, pairs-append arena more ss w.1) refl

pub AreWithin-append : (arena more : List ℕ) (ss : List Slot) → AreWithin arena ss → AreWithin (arena ++ more) ss
AreWithin-append arena more [] w = tt
AreWithin-append arena more (s ∷ ss) w = (record { name = w.0.name; bytes = w.0.bytes; inside = omega (arith, w.0.inside, length-append arena more) }, AreWithin-append arena more ss w.1)

pub pair_of-new : (arena name bytes : List ℕ) (s : Slot) → s.start ≡ length arena → s.middle ≡ length arena + length name → s.end ≡ length arena + length name + length bytes → pair_of ((arena ++ name) ++ bytes) s ≡ (name, bytes)
pair_of-new arena name bytes s e1 e2 e3 =
    let l1 : length (arena ++ name) ≡ s.middle = omega (arith, length-append arena name) in
    let d1 : drop s.start ((arena ++ name) ++ bytes) ≡ name ++ bytes = rw (append_assoc, e1) (drop-append_seam arena (name ++ bytes)) in
    let d2 : drop s.middle ((arena ++ name) ++ bytes) ≡ bytes = rw (← l1) (drop-append_seam (arena ++ name) bytes) in
    let n1 : s.middle - s.start ≡ length name = omega arith in
    let n2 : s.end - s.middle ≡ length bytes = omega arith in
    let t1 : take (s.middle - s.start) (name ++ bytes) ≡ name = rw n1 (take-append_seam name bytes) in
    let t2 : take (s.end - s.middle) bytes ≡ bytes = rw n2 (take-length bytes) in
    rw (d1, d2, t1, t2) refl

same_name : (xs ys : List ℕ) (r : Bool) → Decides r (xs ≡ ys) → is_eq (slice_cmp nat_cmp ys xs) ≡ r
same_name xs ys r d =
    let e : Decides (bytes_eq ys xs) (ys ≡ xs) = bytes_eq-Decides ys xs in
    let f : Decides r (ys ≡ xs) = (λ h. sym (d.0 h), λ h. d.1 (sym h)) in
    is_eq-slice_cmp ys xs ∙ one_answer (bytes_eq ys xs) r e f

-- the search at a slot
pub find_step : (name arena : List ℕ) (slots : List Slot) (i : ℕ) (s : Slot) (d : Slot) (r : Bool) → i < length slots → get_or slots i d ≡ s → Decides r (slice_range arena s.start s.middle ≡ name)
    → find (slice_cmp nat_cmp) name (map (pair_of arena) (drop i slots)) ≡ cond r (Some (slice_range arena s.middle s.end)) (find (slice_cmp nat_cmp) name (map (pair_of arena) (drop (i + 1) slots)))
find_step name arena slots i s d r lt e dec =
    rw (drop-cons slots i d, e, add-one, same_name (slice_range arena s.start s.middle) name r dec) refl

pub put_folder : (arena name bytes : List ℕ) (slots : List Slot) (s : Slot) → AreWithin arena slots → s.start ≡ length arena → s.middle ≡ length arena + length name → s.end ≡ length arena + length name + length bytes
    → folder_of ((arena ++ name) ++ bytes) (s ∷ slots) ≡ insert (folder_of arena slots) name bytes
put_folder arena name bytes slots s w e1 e2 e3 =
    let new = pair_of-new arena name bytes s e1 e2 e3 in
    let old = pairs-append (arena ++ name) bytes slots (AreWithin-append arena name slots w) ∙ pairs-append arena name slots w in
    λ i. insert (from_entries (old i)) (new i).0 (new i).1
