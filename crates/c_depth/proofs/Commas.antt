-- Tokens are as deep as the parts between their commas.
use Rattle.std.proofs.Common.{◌≡◌, ℕ, ◌==◌, List, [], ◌∷◌, refl, sym, ap, ◌∙◌, Bool, true, false, cond}
use Rattle.std.specs.Prelude.{◌&&◌, nat_lt}
use Rattle.std.proofs.lemmas.Bool.{and_parts, eqb-true}
use Rattle.c_text.specs.declared.place.Place.{Place}
use Rattle.c_text.specs.declared.token.Token.{Token}
use Rattle.c_tree.specs.Symbol.{is_comma}
use Rattle.c_tree.specs.Brackets.{depth_after}
use Rattle.c_tree.specs.ExpressionCut.{Delimited, put, put_in, parts}
use Rattle.c_depth.specs.Shallow.{is_shallow}
use Rattle.c_depth.proofs.Tests.{cond-and}
use Rattle.c_depth.proofs.Depth.{shallow-outside}
use Rattle.c_depth.proofs.Flat.{comma-flat}

-- each part, the first of which begins with so many brackets open
abbrev pub parts_shallow : ℕ → ℕ → List Delimited → Bool
parts_shallow room depth [] = true
parts_shallow room depth (p ∷ ps) = is_shallow room depth p.0 && parts_shallow room 0 ps

-- there is a first part
abbrev IsSome : List Delimited → Type 0
IsSome [] = ⊥
IsSome (p ∷ ps) = Unit {0}

put-some : (comma : Bool) (t : Token) (ps : List Delimited) → IsSome ps → IsSome (put_in comma t ps)
put-some true t ps h = tt
put-some false t [] h = h
put-some false t (p ∷ ps) h = tt

parts-some : (after : Place) (depth : ℕ) (ts : List Token) → IsSome (parts after depth ts)
parts-some after depth [] = tt
parts-some after depth (t ∷ ts) = put-some (depth == 0 && is_comma t.kind) t (parts after (depth_after t.kind depth) ts) (parts-some after (depth_after t.kind depth) ts)

put-shallow : (room depth : ℕ) (t : Token) (ps : List Delimited) → IsSome ps
    → cond (nat_lt room (depth_after t.kind depth)) false (parts_shallow room (depth_after t.kind depth) ps) ≡ parts_shallow room depth (put t ps)
put-shallow room depth t [] h = absurd h
put-shallow room depth t (p ∷ ps) h = cond-and (nat_lt room (depth_after t.kind depth)) (is_shallow room (depth_after t.kind depth) p.0) (parts_shallow room 0 ps)

first-shallow : (room depth : ℕ) (t : Token) (ts : List Token) (ps : List Delimited) (b : Bool) → (depth == 0 && is_comma t.kind) ≡ b → IsSome ps
    → is_shallow room (depth_after t.kind depth) ts ≡ parts_shallow room (depth_after t.kind depth) ps → is_shallow room depth (t ∷ ts) ≡ parts_shallow room depth (put_in b t ps)
first-shallow room depth t ts ps true e some same =
    let two = and_parts (depth == 0) (is_comma t.kind) e in
    let zero_is = eqb-true depth 0 two.0 in
    let flat : depth_after t.kind depth ≡ 0 = ap (λ d. depth_after t.kind d) zero_is ∙ comma-flat t.kind two.1 in
    shallow-outside room depth t ts flat ∙ (sym (ap (λ d. is_shallow room d ts) flat) ∙ same ∙ ap (λ d. parts_shallow room d ps) flat)
first-shallow room depth t ts ps false e some same =
    ap (λ b. cond (nat_lt room (depth_after t.kind depth)) false b) same ∙ put-shallow room depth t ps some

pub parts-shallow : (room : ℕ) (after : Place) (depth : ℕ) (ts : List Token) → is_shallow room depth ts ≡ parts_shallow room depth (parts after depth ts)
parts-shallow room after depth [] = refl
parts-shallow room after depth (t ∷ ts) =
    first-shallow room depth t ts (parts after (depth_after t.kind depth) ts) (depth == 0 && is_comma t.kind) refl (parts-some after (depth_after t.kind depth) ts)
    (parts-shallow room after (depth_after t.kind depth) ts)
