-- The longest punctuator in front, by the tables that have one.
use Rattle.std.proofs.Common.{◌≡◌, ℕ, Bool, true, false, cond, ◌||◌, List, [], ◌∷◌, ◌++◌, length, take, Some, None, Option, refl, ap, ◌∙◌, arith, rules}
use Rattle.std.specs.List.{AllByRecursion, list_any}
use Rattle.std.proofs.lemmas.Bool.Decides.{nat_tests}
use Rattle.c_text.specs.Punctuator.{begins, first_in, threes, twos, ones, digraphs, mark_at}

-- a spelling that stands in front is what stands in front
begins-take : (x bs : List ℕ) → begins x bs ≡ true → x ≡ take (length x) bs
begins-take [] bs h = refl
begins-take (x ∷ xs) [] h = cc
begins-take (x ∷ xs) (b ∷ bs) h =
    let both : (b ≡ x) × (begins xs bs ≡ true) = (grind (arith, nat_tests), grind (arith, nat_tests)) in
    rw (both.0, ← begins-take xs bs both.1) refl

-- the spellings of a table have one length
abbrev pub HaveLength : ℕ → List (List ℕ) → Type 0
HaveLength n xs = AllByRecursion (λ x. length x ≡ n) xs

abbrev stands : List (List ℕ) → List ℕ → Bool
stands xs bs = list_any (λ m. begins m bs) xs

first_or : (n : ℕ) (x bs : List ℕ) (r s : Bool) → length x ≡ n → (r ≡ true → x ≡ take (length x) bs) → cond r (Some x) (cond s (Some (take n bs)) None) ≡ cond (r || s) (Some (take n bs)) None
first_or n x bs true s e h = ap (λ y. Some y) (h refl ∙ ap (λ k. take k bs) e)
first_or n x bs false s e h = refl

first_in-stands : (n : ℕ) (xs : List (List ℕ)) (bs : List ℕ) → HaveLength n xs → first_in xs bs ≡ cond (stands xs bs) (Some (take n bs)) None
first_in-stands n [] bs all = refl
first_in-stands n (x ∷ xs) bs all = rw (first_in-stands n xs bs all.1) (first_or n x bs (begins x bs) (stands xs bs) all.0 (begins-take x bs))

in_either : (r s : Bool) (x : List ℕ) (o p : Option (List ℕ)) → cond r (Some x) (cond s o p) ≡ cond (r || s) (cond r (Some x) o) p
in_either true s x o p = refl
in_either false s x o p = refl

first_in-append : (xs ys : List (List ℕ)) (bs : List ℕ) → first_in (xs ++ ys) bs ≡ cond (stands xs bs) (first_in xs bs) (first_in ys bs)
first_in-append [] ys bs = refl
first_in-append (x ∷ xs) ys bs = rw (first_in-append xs ys bs) (in_either (begins x bs) (stands xs bs) x (first_in xs bs) (first_in ys bs))

abbrev pub longest : List ℕ → Option (List ℕ)
longest bs =
    cond (stands digraphs bs) None (cond (stands threes bs) (Some (take 3 bs)) (cond (stands twos bs) (Some (take 2 bs)) (cond (stands ones bs) (Some (take 1 bs)) None)))

either_table : (d r s t : Bool) (x y z : Option (List ℕ)) → cond d None (cond r (cond r x None) (cond s (cond s y None) (cond t z None))) ≡ cond d None (cond r x (cond s y (cond t z None)))
either_table true r s t x y z = refl
either_table false true s t x y z = refl
either_table false false true t x y z = refl
either_table false false false t x y z = refl

pub mark_at_longest : (bs : List ℕ) → mark_at bs ≡ longest bs
unfolding mark_at
mark_at_longest bs =
    rw (first_in-append threes (twos ++ ones) bs, first_in-append twos ones bs, first_in-stands 3 threes bs (refl, (refl, (refl, tt))), first_in-stands 2 twos bs (search rules), first_in-stands 1 ones bs (search rules))
    (either_table (stands digraphs bs) (stands threes bs) (stands twos bs) (stands ones bs) (Some (take 3 bs)) (Some (take 2 bs)) (Some (take 1 bs)))
