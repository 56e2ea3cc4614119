-- The parts of a body, put one after another.
use Rattle.std.proofs.Common.{◌≡◌, ℕ, suc, min, false, List, [], ◌∷◌, ◌++◌, length, refl, sym, ap, ◌∙◌, arith, append_assoc}
use Rattle.std.specs.Prelude.{◌==◌, if◌then◌else◌}
use Rattle.std.specs.List.{AllByRecursion, flat_map}
use Rattle.std.proofs.lemmas.Bool.Decides.{nat_tests}
use Rattle.can_model.specs.declared.database.Signal.{Signal}
use Rattle.name_rules.specs.declared.table.SignalNames.{SignalNames}
use Rattle.c_tree.specs.BareExpression.{Tree}
use Rattle.c_tree.specs.BareStatement.{Action, discard}
use Rattle.gen_pack.specs.Parts.{Part, parts_from}
use Rattle.gen_pack.specs.Switches.{HasNoParent}
use Rattle.gen_pack.specs.PackTree.{buffer, source, declared, size_asked, returned, number}
use Rattle.gen_unpack.specs.UnpackTree.{unused, part_got, all_got, long_body}
use Rattle.gen_unpack.proofs.OneLevel.{all-got-flat}

-- both pointers are discarded where there is no part
pub unused-is : (ss : List Signal) (ns : List SignalNames) → (if min (length ss) (length ns) == 0 then discard buffer ∷ discard source ∷ [] else []) ≡ unused (parts_from 0 ss ns)
unused-is [] ns = let e : min 0 (length ns) ≡ 0 = omega arith in rw e refl
unused-is (s ∷ ss) [] = let e : min (suc (length ss)) 0 ≡ 0 = omega arith in rw e refl
unused-is (s ∷ ss) (n ∷ ns) = let e : (min (suc (length ss)) (suc (length ns)) == 0) ≡ false = grind (arith, nat_tests) in rw e refl

in-a-row : {A : Type 0} (u d p : List A) (s r : A) → ((((u ++ d) ++ s ∷ []) ++ p) ++ r ∷ []) ≡ u ++ (d ++ (s ∷ (p ++ r ∷ [])))
in-a-row u d p s r =
    append_assoc ((u ++ d) ++ s ∷ []) p (r ∷ [])
    ∙ append_assoc (u ++ d) (s ∷ []) (p ++ r ∷ [])
    ∙ append_assoc u d (s ∷ (p ++ r ∷ []))

pub long-body-is : (error : Tree) (n : ℕ) (ss : List Signal) (ns : List SignalNames) → AllByRecursion HasNoParent ss
    → ((((unused (parts_from 0 ss ns) ++ flat_map declared (parts_from 0 ss ns)) ++ size_asked error n ∷ []) ++ flat_map part_got (parts_from 0 ss ns)) ++ returned (number 0) ∷ [])
    ≡ long_body error n (parts_from 0 ss ns)
unfolding long_body
long-body-is error n ss ns flat =
    let ps : List Part = parts_from 0 ss ns in
    ap (λ (p : List Action). (((unused ps ++ flat_map declared ps) ++ size_asked error n ∷ []) ++ p) ++ returned (number 0) ∷ []) (sym (all-got-flat ss ns flat))
    ∙ in-a-row (unused ps) (flat_map declared ps) (all_got ps) (size_asked error n) (returned (number 0))
