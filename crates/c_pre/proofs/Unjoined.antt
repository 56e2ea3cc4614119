-- Whole conditionals do not depend on which tokens are joined.
use Rattle.std.proofs.Common.{◌≡◌, ℕ, zero, suc, Bool, true, false, List, [], ◌∷◌, map, refl, ap, ◌∙◌}
use Rattle.c_text.specs.declared.place.Place.{Place}
use Rattle.c_text.specs.Directive.{Line, text, standard, quoted, define, conditional, otherwise, endif, unbalanced, refused}
use Rattle.c_text.specs.Conditional.{is_ended, if_ended, balanced}
use Rattle.c_pre.specs.Shown.{unjoin, unjoined}

is_ended-unjoined : (depth : ℕ) (ls : List (Line Place)) → is_ended depth (map unjoined ls) ≡ is_ended depth ls
is_ended-unjoined depth [] = refl
is_ended-unjoined depth (text ts ∷ ls) = is_ended-unjoined depth ls
is_ended-unjoined depth (standard h ∷ ls) = is_ended-unjoined depth ls
is_ended-unjoined depth (quoted ∷ ls) = is_ended-unjoined depth ls
is_ended-unjoined depth (define p name body ∷ ls) = is_ended-unjoined depth ls
is_ended-unjoined depth (conditional p wanted name ∷ ls) = is_ended-unjoined (suc depth) ls
is_ended-unjoined depth (otherwise p ∷ ls) = is_ended-unjoined depth ls
is_ended-unjoined zero (endif p ∷ ls) = refl
is_ended-unjoined (suc depth) (endif p ∷ ls) = is_ended-unjoined depth ls
is_ended-unjoined depth (unbalanced p ∷ ls) = is_ended-unjoined depth ls
is_ended-unjoined depth (refused p kind ∷ ls) = is_ended-unjoined depth ls

if_ended-unjoined : (b : Bool) (p : Place) (wanted : Bool) (name : List ℕ) → if_ended b (conditional p wanted name) p ≡ unjoined (if_ended b (conditional p wanted name) p)
if_ended-unjoined true p wanted name = refl
if_ended-unjoined false p wanted name = refl

pub balanced-unjoined : (elses : List Bool) (ls : List (Line Place)) → balanced elses (map unjoined ls) ≡ map unjoined (balanced elses ls)
balanced-unjoined elses [] = refl
balanced-unjoined elses (text ts ∷ ls) = ap (λ r. text (map unjoin ts) ∷ r) (balanced-unjoined elses ls)
balanced-unjoined elses (standard h ∷ ls) = ap (λ r. standard h ∷ r) (balanced-unjoined elses ls)
balanced-unjoined elses (quoted ∷ ls) = ap (λ r. quoted ∷ r) (balanced-unjoined elses ls)
balanced-unjoined elses (define p name body ∷ ls) = ap (λ r. define p name (map unjoin body) ∷ r) (balanced-unjoined elses ls)
balanced-unjoined elses (conditional p wanted name ∷ ls) =
    (λ i. (ap (λ b. if_ended b (conditional p wanted name) p) (is_ended-unjoined 0 ls) ∙ if_ended-unjoined (is_ended 0 ls) p wanted name) i ∷ balanced-unjoined (false ∷ elses) ls i)
balanced-unjoined [] (otherwise p ∷ ls) = ap (λ r. unbalanced p ∷ r) (balanced-unjoined [] ls)
balanced-unjoined (true ∷ es) (otherwise p ∷ ls) = ap (λ r. unbalanced p ∷ r) (balanced-unjoined (true ∷ es) ls)
balanced-unjoined (false ∷ es) (otherwise p ∷ ls) = ap (λ r. otherwise p ∷ r) (balanced-unjoined (true ∷ es) ls)
balanced-unjoined [] (endif p ∷ ls) = ap (λ r. unbalanced p ∷ r) (balanced-unjoined [] ls)
balanced-unjoined (e ∷ es) (endif p ∷ ls) = ap (λ r. endif p ∷ r) (balanced-unjoined es ls)
balanced-unjoined elses (unbalanced p ∷ ls) = ap (λ r. unbalanced p ∷ r) (balanced-unjoined elses ls)
balanced-unjoined elses (refused p kind ∷ ls) = ap (λ r. refused p kind ∷ r) (balanced-unjoined elses ls)
