-- The taken names of a place, and what picking in it promises.
use Rattle.std.specs.Prelude.{◌≡◌, ℕ, ◌<◌, ◌≤◌, Bool, true, false, ◌||◌, List, [], ◌∷◌, map, is_some}
use Rattle.std.specs.Global.{Vec}
use Rattle.cg_out.specs.Words.{look_up}
use Rattle.name_rules.specs.declared.picking.PlaceKind.{PlaceKind}
use Rattle.name_rules.specs.declared.picking.PlaceKind.TheVariants.{File, Struct, Locals}
use Rattle.name_rules.specs.declared.picking.Candidate.{Candidate}
use Rattle.name_rules.specs.Reserved.{is_reserved, is_reserved_local}
use Rattle.name_rules.specs.Picks.{candidate, and_this, ArePicks}

-- no name of such a place is one of these
abbrev pub is_reserved_in : PlaceKind → List ℕ → Bool
is_reserved_in File = is_reserved
is_reserved_in Struct = is_reserved
is_reserved_in Locals = is_reserved_local

-- a name that was seen, and the suffix that is tried next where it is wanted again
abbrev pub seen_name : Vec ℕ × ℕ → List ℕ × ℕ
seen_name e = (e.0.items, e.1)

-- seen, or reserved
abbrev pub taken_among : PlaceKind → List (Vec ℕ × ℕ) → List ℕ → Bool
taken_among kind entries name = is_some (look_up name (map seen_name entries)) || is_reserved_in kind name

-- all candidates of x below this suffix are taken
pub record Resumes (is_taken : List ℕ → Bool) (x : List ℕ) (next : ℕ) : Type 0 where
  pub low : 2 ≤ next
  pub taken : (k : ℕ) → 1 ≤ k → k < next → is_taken (candidate x k) ≡ true

-- the first candidate of x that is free
pub record IsFirstFree (is_taken : List ℕ → Bool) (x : List ℕ) (c : Candidate) : Type 0 where
  pub name : c.name.items ≡ candidate x c.suffix
  pub free : is_taken (candidate x c.suffix) ≡ false
  pub first : Resumes is_taken x c.suffix

-- what is taken once these are too
abbrev pub taken_after : (List ℕ → Bool) → List (List ℕ) → List ℕ → Bool
taken_after is_taken [] = is_taken
taken_after is_taken (y ∷ ys) = taken_after (and_this is_taken y) ys

-- these are the picks of the wanted names, and what was taken before with them is what is taken after
pub record Picks (before after : List ℕ → Bool) (wanted names : List (List ℕ)) : Type 0 where
  pub picks : ArePicks before wanted names
  pub taken : after ≡ taken_after before names
