-- Open brackets as a stack.
use Rattle.std.proofs.Common.{◌≡◌, ℕ, ◌≤◌, List, [], ◌∷◌, ◌++◌, length, get_or, Bool, if◌then◌else◌, refl, arith}
use Rattle.c_text.specs.declared.place.Place.{Place}
use Rattle.c_tree.specs.declared.symbol.Bracket.{Bracket}
use Rattle.c_tree.specs.Brackets as brackets
use Rattle.c_parser.specs.declared.matching.Open.{Open}
use Rattle.c_parser.specs.Matching.{open_of, onto, stack_of}

onto-last : (stack : List brackets.Open) (xs : List Open) (o : Open) → onto stack (xs ++ o ∷ []) ≡ open_of o ∷ onto stack xs
onto-last stack [] o = refl
onto-last stack (x ∷ xs) o = onto-last (open_of x ∷ stack) xs o

-- the last that was opened is on top
pub stack-last : (xs : List Open) (o : Open) → stack_of (xs ++ o ∷ []) ≡ open_of o ∷ stack_of xs
stack-last xs o = onto-last [] xs o

onto-outermost : (s : brackets.Open) (ss : List brackets.Open) (os : List Open) → brackets.outermost (onto (s ∷ ss) os) ≡ brackets.outermost (s ∷ ss)
onto-outermost s ss [] = refl
onto-outermost s ss (o ∷ os) = onto-outermost (open_of o) (s ∷ ss) os

-- the first that was opened is the outermost
pub outermost-first : (os : List Open) (d : Open) → 1 ≤ length os
    → brackets.outermost (stack_of os) ≡ brackets.fault_at (get_or os 0 d).at (brackets.syntax (get_or os 0 d).place)
outermost-first [] d le = absurd (omega arith)
outermost-first (o ∷ os) d le = onto-outermost (open_of o) [] os

-- the innermost is closed, or does not fit
pub closes-one : (xs ys : List Open) (o : Open) (b : Bracket) (at : ℕ) (p : Place) (same : Bool) → xs ≡ ys ++ o ∷ [] → same ≡ brackets.same_bracket o.bracket b
    → brackets.close_by b at p (stack_of xs) ≡ (if same then brackets.within (stack_of ys) else brackets.unfit (record { at = at; refusal = brackets.syntax p }))
closes-one xs ys o b at p same e h = rw (e, stack-last ys o, h) refl

-- a bracket is opened
pub opens-one : (xs ys : List Open) (o : Open) → ys ≡ xs ++ o ∷ [] → brackets.within (open_of o ∷ stack_of xs) ≡ brackets.within (stack_of ys)
opens-one xs ys o e = rw (e, stack-last xs o) refl
