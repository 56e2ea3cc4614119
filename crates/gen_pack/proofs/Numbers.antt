-- Small numbers and lists as the code has them.
use Rattle.std.proofs.Common.{◌≡◌, ℕ, suc, ◌+◌, ◌*◌, ◌%◌, ◌^◌, ◌≤◌, min, false, List, [], ◌∷◌, ◌++◌, length, Some, refl, sym, ap, ◌∙◌, arith, append_assoc}
use Rattle.std.specs.Prelude.{◌==◌, if◌then◌else◌, slice_get}
use Rattle.std.proofs.Math.Nat.{mod-eq_of_lt}
use Rattle.std.proofs.Math.Pow.{pow_mono}
use Rattle.std.specs.List.{AllByRecursion, flat_map}
use Rattle.std.proofs.lemmas.Bool.Decides.{nat_tests}
use Rattle.can_model.specs.declared.database.Message.{Message}
use Rattle.can_model.specs.declared.database.Signal.{Signal}
use Rattle.can_model.specs.Place.{IsPlaced}
use Rattle.can_model.specs.Validity.{IsOfValidDatabase}
use Rattle.can_model.proofs.Placed.{placed}
use Rattle.name_rules.specs.declared.table.SignalNames.{SignalNames}
use Rattle.c_tree.specs.BareExpression.{Tree}
use Rattle.c_tree.specs.BareStatement.{Action, discard}
use Rattle.gen_pack.specs.SegmentMove.{HasSegments}
use Rattle.gen_pack.specs.Parts.{Part, parts_from}
use Rattle.gen_pack.specs.Switches.{HasNoParent}
use Rattle.gen_pack.specs.PackTree.{source, unread, declared, part_put, all_put, size_asked, cleared, returned, number, long_body}
use Rattle.gen_pack.proofs.Flat.{all-put-flat}

-- two powers of two of a byte, as numbers of 32 bits
pub powers-rise : (a b : ℕ) → a + b ≤ 8 → 1 * 2 ^ a % 4294967296 ≤ 1 * 2 ^ (a + b) % 4294967296
powers-rise a b h =
    let low : 2 ^ a ≤ 2 ^ (a + b) = pow_mono {i = a} {j = a + b} (omega arith) in
    let top : 2 ^ (a + b) ≤ 2 ^ 8 = pow_mono {i = a + b} {j = 8} h in
    let one : 1 * 2 ^ a ≡ 2 ^ a = omega arith in
    let two : 1 * 2 ^ (a + b) ≡ 2 ^ (a + b) = omega arith in
    let first : 2 ^ a % 4294967296 ≡ 2 ^ a = mod-eq_of_lt (omega arith) in
    let second : 2 ^ (a + b) % 4294967296 ≡ 2 ^ (a + b) = mod-eq_of_lt (omega arith) in
    rw (one, two, first, second) low

-- (void)src_p; stands where there is no part
pub unread-is : (ss : List Signal) (ns : List SignalNames) → (if min (length ss) (length ns) == 0 then discard source ∷ [] else []) ≡ unread (parts_from 0 ss ns)
unread-is [] ns = let e : min 0 (length ns) ≡ 0 = omega arith in rw e refl
unread-is (s ∷ ss) [] = let e : min (suc (length ss)) 0 ≡ 0 = omega arith in rw e refl
unread-is (s ∷ ss) (n ∷ ns) = let e : (min (suc (length ss)) (suc (length ns)) == 0) ≡ false = grind (arith, nat_tests) in rw e refl

-- ---- the signals of a valid database

all-at : {A : Type 0} (P : A → Type 0) (xs : List A) → ((i : ℕ) (x : A) → slice_get xs i ≡ Some x → P x) → AllByRecursion P xs
all-at P [] h = tt
all-at P (x ∷ xs) h = (h 0 x refl, all-at P xs (λ i y e. h (suc i) y e))

pub have-segments : (m : Message) → IsOfValidDatabase m → AllByRecursion HasSegments m.signals
have-segments m valid = all-at HasSegments m.signals (λ i s e.
    let p : IsPlaced s m.length = placed m i s valid e in
    record { length = (let b = p.bits in grind (arith, nat_tests)); start = p.start })

-- ---- the parts of a body, put one after another

in-a-row : {A : Type 0} (u d p : List A) (s c r : A) → (((((u ++ d) ++ s ∷ []) ++ c ∷ []) ++ p) ++ r ∷ []) ≡ u ++ (d ++ (s ∷ c ∷ (p ++ r ∷ [])))
in-a-row u d p s c r =
    append_assoc ((((u ++ d) ++ s ∷ []) ++ c ∷ [])) p (r ∷ [])
    ∙ append_assoc (((u ++ d) ++ s ∷ [])) (c ∷ []) (p ++ r ∷ [])
    ∙ append_assoc (u ++ d) (s ∷ []) (c ∷ (p ++ r ∷ []))
    ∙ append_assoc u d (s ∷ c ∷ (p ++ r ∷ []))

pub long-body-is : (error : Tree) (n : ℕ) (ss : List Signal) (ns : List SignalNames) → AllByRecursion HasNoParent ss
    → (((((unread (parts_from 0 ss ns) ++ flat_map declared (parts_from 0 ss ns)) ++ size_asked error n ∷ []) ++ cleared n ∷ []) ++ flat_map part_put (parts_from 0 ss ns)) ++ returned (number n) ∷ [])
    ≡ long_body error n (parts_from 0 ss ns)
unfolding long_body
long-body-is error n ss ns flat =
    let ps : List Part = parts_from 0 ss ns in
    ap (λ (p : List Action). ((((unread ps ++ flat_map declared ps) ++ size_asked error n ∷ []) ++ cleared n ∷ []) ++ p) ++ returned (number n) ∷ []) (sym (all-put-flat ss ns flat))
    ∙ in-a-row (unread ps) (flat_map declared ps) (all_put ps) (size_asked error n) (cleared n) (returned (number n))
