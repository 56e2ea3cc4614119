-- What the writes of a run leave.
use Rattle.std.specs.Prelude.{◌≡◌, ℕ, ◌+◌, List, [], ◌∷◌, ◌++◌, length}
use Rattle.std.specs.declared.option.Option.{Option}
use Rattle.std.specs.FinMap.{insert}
use Rattle.cg_out.specs.Outside.{Folder, FilesSeen, Rose, IfTold, IsTornWrite}
use Rattle.cli_tool.specs.World.{Calls}
use Rattle.cli_tool.specs.Task.{Output}

-- the files after each of these was set, in order
abbrev pub with_outputs : Folder → List Output → Folder
with_outputs files [] = files
with_outputs files (o ∷ os) = with_outputs (insert files o.file o.bytes) os

-- the contents before and after: these files stand written, and no other file changed
abbrev pub Puts : List Output → Option Folder → Option Folder → Type 0
Puts [] old new = new ≡ old
Puts (o ∷ os) old new = IfTold old new (λ a b. b ≡ with_outputs a (o ∷ os))

-- the files stand written, by a call each behind so many others
pub record WritesFiles (before : ℕ) (outputs : List Output) (old new : FilesSeen) : Type 0 where
  pub content : Puts outputs old.content new.content
  pub calls : Calls old new (before + length outputs)

-- a write failed: the files before it stand written, its own is as it was or holds its first bytes, and no other changed
pub record TearsFiles (before : ℕ) (outputs : List Output) (old new : FilesSeen) : Type 0 where
  pub front : List Output
  pub torn : Output
  pub rest : List Output
  pub outputs_are : outputs ≡ front ++ torn ∷ rest
  pub cause : Rose old.faults new.faults
  pub content : IfTold old.content new.content (λ a b. IsTornWrite (with_outputs a front) b torn.file torn.bytes)
  pub calls : Calls old new (before + length front + 1)
