-- Verdicts of parts that stand in a row.
use Rattle.std.proofs.Common.{◌≡◌, List, [], ◌∷◌, ◌++◌, refl, ap, sym, ◌∙◌, subst, Result, Ok, Err, Option, Some, None}
use Rattle.std.proofs.lemmas.Option.{none-some, same_Some}
use Rattle.c_text.specs.declared.place.Place.{Place}
use Rattle.c_text.specs.declared.refusal.CKind.{CKind}
use Rattle.c_text.specs.declared.refusal.CFault.{CFault}
use Rattle.c_text.specs.declared.refusal.CFault.TheVariants.{Fault, Memory}
use Rattle.c_text.specs.Refusal.{Refusal, Gives}
use Rattle.c_types.specs.TypeFault.{fault, unless_refused}
use Rattle.c_types.specs.Verdict.{Refuses, Passes}

pub refuses_here : (kind : CKind) (place : Place) (xs : List Refusal) → Refuses (Fault kind place) (fault kind place ∷ xs)
unfolding Refuses
refuses_here kind place xs = refl

pub refuses_memory : (xs : List Refusal) → Refuses Memory xs
unfolding Refuses
refuses_memory xs = tt

pub refuses_left : (e : CFault) (xs ys : List Refusal) → Refuses e xs → Refuses e (xs ++ ys)
unfolding Refuses
refuses_left Memory xs ys h = tt
refuses_left (Fault kind place) [] ys h = absurd (none-some _ h)
refuses_left (Fault kind place) (x ∷ xs) ys h = h

pub refuses_right : (e : CFault) (xs ys : List Refusal) → xs ≡ [] → Refuses e ys → Refuses e (xs ++ ys)
refuses_right e xs ys none h = subst (λ zs. Refuses e (zs ++ ys)) (sym none) h

pub no_faults : (xs ys : List Refusal) → xs ≡ [] → ys ≡ [] → xs ++ ys ≡ []
no_faults xs ys a b = ap (λ zs. zs ++ ys) a ∙ b

pub ruleset verdict_laws = (refuses_here, refuses_memory, refuses_left, refuses_right, no_faults)

-- the first fault is what a refused thing gives
pub refuses_gives : {X A : Type 0} (view : X → A) (e : CFault) (faults : List Refusal) (x : A) → Refuses e faults → Gives view (Err e) (unless_refused faults x)
unfolding Refuses
refuses_gives view Memory faults x h = tt
refuses_gives view (Fault kind place) [] x h = absurd (none-some _ h)
refuses_gives view (Fault kind place) (r ∷ rs) x h = ap Err (same_Some r (fault kind place) h)

pub passes_gives : {X A : Type 0} (view : X → A) (result : Result X CFault) (faults : List Refusal) (x : A) → ((y : X) → view y ≡ x)
    → Passes result faults → Gives view result (unless_refused faults x)
passes_gives view (Ok y) faults x is h = ap (λ rs. unless_refused rs x) h ∙ ap Ok (sym (is y))
passes_gives view (Err e) faults x is h = refuses_gives view e faults x h

refused : {A : Type 0} → Result A Refusal → Option Refusal
refused (Ok y) = None
refused (Err r) = Some r

pub gives_none : {A : Type 0} (faults : List Refusal) (x y : A) → unless_refused faults x ≡ Ok y → faults ≡ []
gives_none [] x y h = refl
gives_none (r ∷ rs) x y h = let no : Err r ≡ Ok y = h in cc

pub gives_refuses : {X A : Type 0} (view : X → A) (e : CFault) (faults : List Refusal) (x : A) → Gives view (Err e) (unless_refused faults x) → Refuses e faults
unfolding Refuses refused
gives_refuses view Memory faults x h = tt
gives_refuses view (Fault kind place) [] x h = let no : Ok x ≡ Err (fault kind place) = h in cc
gives_refuses {A = A} view (Fault kind place) (r ∷ rs) x h = ap (refused {A = A}) h
