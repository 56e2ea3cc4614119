-- Small laws of truth values and of lists, which laws of printed text rest on.
use Rattle.std.proofs.Common.{◌≡◌, Bool, true, false, not, ◌||◌, ◌&&◌, List, [], ◌∷◌, ◌++◌, Some, refl, ap, ◌∙◌}
use Rattle.std.specs.List.{list_all, AllByRecursion}
use Rattle.std.proofs.lemmas.List.Folds.{list_all-append}
use Rattle.c_text.specs.SeenToken.{Seen}
use Rattle.c_text.specs.BarePreprocessing.{seen_kinds}

-- ---- truth values

pub not-true : (b : Bool) → not b ≡ true → b ≡ false
not-true false e = refl
not-true true e = cc

pub and-false : (b : Bool) → (b && false) ≡ false
and-false true = refl
and-false false = refl

pub or-true : (b : Bool) → (b || true) ≡ true
or-true true = refl
or-true false = refl

-- ---- what is there

pub some-of : {X : Type 0} {x y : X} → Some x ≡ Some y → x ≡ y
some-of e = cc

-- ---- lists

pub passes-append : {X : Type 0} (p : X → Bool) (xs ys : List X) → list_all p xs ≡ true → list_all p ys ≡ true → list_all p (xs ++ ys) ≡ true
passes-append p xs ys h k = list_all-append p xs ys ∙ (λ i. h i && k i)

pub every-append : {X : Type 0} (P : X → Type 0) (xs ys : List X) → AllByRecursion P xs → AllByRecursion P ys → AllByRecursion P (xs ++ ys)
every-append P [] ys h k = k
every-append P (x ∷ xs) ys h k = (h.0, every-append P xs ys h.1 k)

pub kinds-append : {P : Type 0} (xs ys : List (Seen P)) → seen_kinds (xs ++ ys) ≡ seen_kinds xs ++ seen_kinds ys
kinds-append [] ys = refl
kinds-append (x ∷ xs) ys = ap (λ ks. x.kind ∷ ks) (kinds-append xs ys)
