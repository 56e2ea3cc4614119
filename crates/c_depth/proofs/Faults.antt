-- Brackets that do not match are a fault of syntax, unless more are open before than may be.
use Rattle.std.proofs.Common.{◌≡◌, ℕ, ◌+◌, List, [], ◌∷◌, Option, Some, None, refl, ap, ◌∙◌, Bool, true, false, cond}
use Rattle.std.specs.Prelude.{◌&&◌, nat_lt, is_none}
use Rattle.c_text.specs.declared.place.Place.{Place}
use Rattle.c_text.specs.declared.token.Token.{Token}
use Rattle.c_tree.specs.declared.symbol.Bracket.{Bracket}
use Rattle.c_text.specs.Refusal.{Refusal}
use Rattle.c_tree.specs.Brackets.{opens, closes, same_bracket, depth_after, Found, fault_at, syntax, too_deep, Open, outermost, Walk, within, unfit, close_by, walk_by, mismatch, deep_from, first_of, fault_of, bracket_fault}
use Rattle.c_tree.specs.declared.symbol.TheConstants.{MOST_OPEN}
use Rattle.c_depth.specs.Shallow.{is_shallow, is_too_deep}
use Rattle.c_depth.proofs.Tests.{and-false}

-- ---- tokens are shallow where no token is found with which they are not

found-by : (b : Bool) (at : ℕ) (p : Place) (more : Option Found) (rest : Bool) → rest ≡ is_none more → cond b false rest ≡ is_none (cond b (fault_at at (too_deep p)) more)
found-by true at p more rest e = refl
found-by false at p more rest e = e

pub shallow-none-found : (at depth : ℕ) (ts : List Token) → is_shallow MOST_OPEN depth ts ≡ is_none (deep_from at depth ts)
shallow-none-found at depth [] = refl
shallow-none-found at depth (t ∷ ts) =
    let next = depth_after t.kind depth in
    found-by (nat_lt MOST_OPEN next) at t.place (deep_from (at + 1) next ts) (is_shallow MOST_OPEN next ts) (shallow-none-found (at + 1) next ts)

-- ---- the faults of brackets that do not match

abbrev IsSyntax : Option Found → Type 0
IsSyntax None = Unit {0}
IsSyntax (Some f) = is_too_deep f.refusal.kind ≡ false

abbrev IsFit : Walk → Type 0
IsFit (within os) = Unit {0}
IsFit (unfit f) = is_too_deep f.refusal.kind ≡ false

outermost-syntax : (os : List Open) → IsSyntax (outermost os)
outermost-syntax [] = tt
outermost-syntax (o ∷ []) = refl
outermost-syntax (o ∷ p ∷ os) = outermost-syntax (p ∷ os)

close-by : (same : Bool) (at : ℕ) (p : Place) (os : List Open) → IsFit (cond same (within os) (unfit (record { at = at; refusal = syntax p })))
close-by true at p os = tt
close-by false at p os = refl

close-fit : (b : Bracket) (at : ℕ) (p : Place) (os : List Open) → IsFit (close_by b at p os)
close-fit b at p [] = refl
close-fit b at p (o ∷ os) = close-by (same_bracket o.bracket b) at p os

walk-fit : (o c : Option Bracket) (at : ℕ) (p : Place) (os : List Open) → IsFit (walk_by o c at p os)
walk-fit (Some b) c at p os = tt
walk-fit None (Some b) at p os = close-fit b at p os
walk-fit None None at p os = tt

mismatch-syntax : (at : ℕ) (w : Walk) (ts : List Token) → IsFit w → IsSyntax (mismatch at w ts)
mismatch-syntax at (unfit f) ts h = h
mismatch-syntax at (within os) [] h = outermost-syntax os
mismatch-syntax at (within os) (t ∷ ts) h =
    mismatch-syntax (at + 1) (walk_by (opens t.kind) (closes t.kind) at t.place os) ts (walk-fit (opens t.kind) (closes t.kind) at t.place os)

-- ---- the one fault of them

-- no fault, or one that is too deep only where tokens are
abbrev pub IsNoneOrDeep : Bool → Option Refusal → Type 0
IsNoneOrDeep shallow None = Unit {0}
IsNoneOrDeep shallow (Some r) = (is_too_deep r.kind && shallow) ≡ false

fault-of : (m deep : Option Found) (shallow : Bool) → IsSyntax m → shallow ≡ is_none deep → IsNoneOrDeep shallow (fault_of m deep)
fault-of None deep shallow h e = tt
fault-of (Some m) None shallow h e = ap (λ b. b && shallow) h
fault-of (Some m) (Some d) shallow h e = ap (λ b. is_too_deep (first_of m (Some d)).kind && b) e ∙ and-false (is_too_deep (first_of m (Some d)).kind)

pub bracket-fault : (ts : List Token) → IsNoneOrDeep (is_shallow MOST_OPEN 0 ts) (bracket_fault ts)
unfolding bracket_fault
bracket-fault ts = fault-of (mismatch 0 (within []) ts) (deep_from 0 0 ts) (is_shallow MOST_OPEN 0 ts) (mismatch-syntax 0 (within []) ts tt) (shallow-none-found 0 0 ts)
