-- Which of the kinds that are there is told.
use Rattle.std.specs.Prelude.{◌≤◌, Option, Some, None}
use Rattle.can_model.specs.CheckRefusal.{check_number}
use Rattle.can_model.specs.declared.check_kind.CheckKind.{CheckKind}

-- no kind is there
abbrev pub IsClean : (CheckKind → Type 0) → Type 0
IsClean has = (k : CheckKind) → ¬ has k

-- the kind is there, and none of a lesser number
pub record IsLeast (has : CheckKind → Type 0) (k : CheckKind) : Type 0 where
  pub there : has k
  pub least : (l : CheckKind) → has l → check_number k ≤ check_number l

-- the least kind that is there, or none
abbrev pub Tells : (CheckKind → Type 0) → Option CheckKind → Type 0
Tells has None = IsClean has
Tells has (Some k) = IsLeast has k
