-- What stands in brackets has room for one bracket less.
use Rattle.std.proofs.Common.{◌≡◌, ℕ, zero, suc, List, [], ◌∷◌, take, drop, Option, Some, None, refl, sym, ◌∙◌, subst, Bool, true, false}
use Rattle.std.specs.Prelude.{◌&&◌, Result}
use Rattle.c_text.specs.declared.place.Place.{Place}
use Rattle.c_text.specs.declared.token.Token.{Token}
use Rattle.c_tree.specs.declared.symbol.Bracket.{Bracket}
use Rattle.c_text.specs.Refusal.{Refusal}
use Rattle.c_tree.specs.Brackets.{opens, closing_from, too_deep}
use Rattle.c_tree.specs.ExpressionCut.{inside, Closed, closed_at, closed_by, closed}
use Rattle.c_tree.proofs.ExpressionTokens.{inside-room}
use Rattle.c_depth.specs.Shallow.{is_shallow}
use Rattle.c_depth.proofs.Keeps.{Keeps, all, keeps-is, keeps-part, keeps-deep}
use Rattle.c_depth.proofs.Depth.{shallow-open, shallow-none}
use Rattle.c_depth.proofs.Split.{Closes, closes-at}

-- a bracket may be open, or none may
pub inside-keeps : {A : Type 0} (place : Place) (part : ℕ → Result A Refusal) (whole : Bool) (rest : A → Bool) (room : ℕ)
    → (room ≡ 0 → whole ≡ false) → ((r : ℕ) → room ≡ suc r → Keeps whole rest (part r)) → Keeps whole rest (inside room place part)
inside-keeps place part whole rest zero deep fits = keeps-deep whole rest (too_deep place) (deep refl)
inside-keeps place part whole rest (suc r) deep fits = subst (λ got. Keeps whole rest got) (sym (inside-room r place part)) (fits r refl)

-- a part in brackets, and what stands behind them
pub inside-part : {A : Type 0} (place : Place) (part : ℕ → Result A Refusal) (o : Token) (b : Bracket) (ts inner : List Token) (rest : ℕ → Bool)
    → opens o.kind ≡ Some b → ((r : ℕ) → is_shallow (suc r) 1 ts ≡ (is_shallow r 0 inner && rest (suc r))) → ((r : ℕ) → Keeps (is_shallow r 0 inner) all (part r))
    → (room : ℕ) → Keeps (is_shallow room 0 (o ∷ ts)) (λ x. rest room) (inside room place part)
inside-part {A = A} place part o b ts inner rest e parted keeps zero = keeps-deep {A = A} (is_shallow 0 0 (o ∷ ts)) (λ x. rest 0) (too_deep place) (shallow-none o b ts e)
inside-part place part o b ts inner rest e parted keeps (suc r) =
    subst (λ got. Keeps (is_shallow (suc r) 0 (o ∷ ts)) (λ x. rest (suc r)) got) (sym (inside-room r place part))
    (keeps-is (is_shallow (suc r) 0 (o ∷ ts)) (is_shallow r 0 inner && rest (suc r)) (λ x. rest (suc r)) (part r)
    (shallow-open r o b ts e ∙ parted r) (keeps-part (is_shallow r 0 inner) (rest (suc r)) (part r) (keeps r)))

-- ---- brackets that the last token closes

-- the tokens before it have room for one less
abbrev pub IsInner : List Token → Option Closed → Type 0
IsInner ts None = Unit {0}
IsInner ts (Some c) = (room : ℕ) → is_shallow (suc room) 1 ts ≡ (is_shallow room 0 c.inner && true)

last-inner : (i : ℕ) (ts : List Token) (rest : List Token) (t : Token)
    → ((room : ℕ) → is_shallow (suc room) 1 ts ≡ (is_shallow room 0 (take i ts) && is_shallow (suc room) 0 rest)) → IsInner ts (closed_at (take i ts) (t ∷ rest))
last-inner i ts [] t h = h
last-inner i ts (_ ∷ _) t h = tt

pub closed_at-inner : (i : ℕ) (ts : List Token) → Closes 0 i ts → IsInner ts (closed_at (take i ts) (drop i ts))
closed_at-inner i ts c = subst (λ us. IsInner ts (closed_at (take i ts) us)) (sym c.there) (last-inner i ts c.rest c.token c.shallow)

closed_by-inner : (o : Option ℕ) (ts : List Token) → closing_from 0 1 ts ≡ o → IsInner ts (closed_by o ts)
closed_by-inner None ts e = tt
closed_by-inner (Some i) ts e = closed_at-inner i ts (closes-at i ts e)

pub closed-inner : (ts : List Token) → IsInner ts (closed ts)
closed-inner ts = closed_by-inner (closing_from 0 1 ts) ts refl
