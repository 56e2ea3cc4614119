-- Where reading goes on behind a part that is skipped.
use Rattle.std.specs.Prelude.{◌≡◌, ℕ, ◌+◌, ◌<◌, ◌≤◌, Bool, false, List, [], ◌∷◌, drop, take, map, reverse, length, slice_index_or, Result}
use Rattle.c_text.specs.declared.place.Place.{Place}
use Rattle.c_text.specs.Refusal.{Refusal}
use Rattle.c_text.specs.Directive.{Line, conditional, otherwise, endif, unbalanced}
use Rattle.c_pre.specs.declared.parts.FileLine.{FileLine}
use Rattle.c_pre.specs.Shown.{shown}
use Rattle.c_pre.specs.Run.{Progress, ran}

-- ---- from the last line to the first

abbrev pub first_or : ℕ → List ℕ → ℕ
first_or left [] = left
first_or left (n ∷ ns) = n

-- how many lines are left at the end of the part behind the line
abbrev pub end_of : Line Place → List ℕ → ℕ → ℕ
end_of (conditional p wanted name) ends left = first_or left ends
end_of (otherwise p) ends left = first_or left ends
end_of l ends left = left

abbrev pub with_first : ℕ → List ℕ → List ℕ
with_first n [] = []
with_first n (m ∷ ms) = n ∷ ms

-- the same of the parts that are open before the line
abbrev pub open_behind : Line Place → List ℕ → ℕ → List ℕ
open_behind (conditional p wanted name) ends left = drop 1 ends
open_behind (otherwise p) ends left = with_first (left + 1) ends
open_behind (endif p) ends left = (left + 1) ∷ ends
open_behind (unbalanced p) ends left = []
open_behind l ends left = ends

-- ---- the lines, and what is known of them

abbrev pub lines_in : List FileLine → List (Line Place)
lines_in es = map (λ e. shown e.line) (reverse es)

-- where a part is skipped, the lines behind it leave what these lines leave
pub record EndsAt (left : List FileLine) (end : ℕ) : Type 0 where
  pub within : end ≤ length left
  pub same : (q : Progress → Result Progress Refusal) (reads : List Bool) (s : Progress) → ran q (false ∷ reads) s (lines_in left) ≡ ran q (false ∷ reads) s (lines_in (take end left))

abbrev pub KnowEnds : List FileLine → Type 0
KnowEnds es = (k : ℕ) (d : FileLine) → k < length es → EndsAt (take k es) (slice_index_or es k d).end
