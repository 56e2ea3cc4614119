-- The outside before and after a run, and what a run did to it.
use Rattle.std.specs.Prelude.{◌≡◌, ℕ, ◌+◌, ◌≤◌, List, ◌++◌, IfSome, IsSomeAnd}
use Rattle.std.specs.FinMap.{get}
use Rattle.cg_out.specs.Outside.{FilesSeen, SinkSeen, Rose, IfTold, CountsCall, IsFront}

pub record World : Type 0 where
  pub files : FilesSeen
  pub out : SinkSeen

-- the same by its parts
abbrev pub world : FilesSeen → SinkSeen → World
world files out = record { files = files; out = out }

-- where the contents are told, the file is there, and its text is so
abbrev pub OfText : FilesSeen → List ℕ → (List ℕ → Type 0) → Type 0
OfText files file P = IfSome files.content (λ folder. IsSomeAnd (get folder file) P)

-- the contents are told, the file is there, and its text is so
abbrev pub HasText : FilesSeen → List ℕ → (List ℕ → Type 0) → Type 0
HasText files file P = IsSomeAnd files.content (λ folder. IsSomeAnd (get folder file) P)

-- so many calls were made
abbrev pub Calls : FilesSeen → FilesSeen → ℕ → Type 0
Calls old new count = IfTold old.calls new.calls (λ m n. n ≡ m + count)

-- the whole report was written, by one call
pub record Reports (old new : SinkSeen) (report : List ℕ) : Type 0 where
  pub written : IfTold old.written new.written (λ a b. b ≡ a ++ report)
  pub calls : CountsCall old.calls new.calls

-- the one call that was to write the report failed, and the first of its bytes stand there
pub record TearsReport (old new : SinkSeen) (report : List ℕ) : Type 0 where
  pub cause : Rose old.faults new.faults
  pub written : IfTold old.written new.written (λ a b. (front : List ℕ) × IsFront front report × (b ≡ a ++ front))
  pub calls : CountsCall old.calls new.calls

-- the counts of faults never fall
pub record KeepsCounts (old new : World) : Type 0 where
  pub files : old.files.faults ≤ new.files.faults
  pub out : old.out.faults ≤ new.out.faults
