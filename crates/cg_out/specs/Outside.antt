-- What a call of the outside leaves behind: files, what was written, and two counts.
use Rattle.std.specs.Prelude.{◌≡◌, ◌⊎◌, ℕ, ◌+◌, ◌-◌, ◌^◌, ◌<◌, ◌≤◌, List, ◌++◌, length, take, IfSome, IsSomeAnd, OnErr, IsErrOf}
use Rattle.std.specs.declared.option.Option.{Option}
use Rattle.std.specs.declared.option.Option.TheVariants.{None}
use Rattle.std.specs.declared.result.Result.{Result}
use Rattle.std.specs.Ordering.{nat_cmp}
use Rattle.std.specs.Cmp.Lexicographic.{slice_cmp}
use Rattle.std.specs.FinMap.{FinMap, get, insert}
use Rattle.cg_out.specs.declared.fault.ReadFault.{ReadFault}
use Rattle.cg_out.specs.declared.fault.ReadFault.TheVariants.{Absent, Failed}

-- files: a finite map from names to bytes
abbrev pub Folder : Type 0
Folder = FinMap (slice_cmp nat_cmp) (List ℕ)

-- what files hold, where it is told; how often the outside failed; how often it was called, where that is told
pub record FilesSeen : Type 0 where
  pub content : Option Folder
  pub faults : ℕ
  pub calls : Option ℕ

-- all bytes that were written to a sink, where they are told; and the same counts
pub record SinkSeen : Type 0 where
  pub written : Option (List ℕ)
  pub faults : ℕ
  pub calls : Option ℕ

-- a count of faults rose in a call, or stands at the last value of a counter
abbrev pub Rose : ℕ → ℕ → Type 0
Rose before now = (before < now) ⊎ (now ≡ 2 ^ 64 - 1)

-- the count of faults never falls, and a call fails only where it rose
pub record HasCause {T E : Type 0} (before now : ℕ) (result : Result T E) : Type 0 where
  pub later : before ≤ now
  pub failed : OnErr result (Rose before now)

-- what is told after a call was told before it, and the two stand in this relation
abbrev pub IfTold : {A : Type 0} → Option A → Option A → (A → A → Type 0) → Type 0
IfTold before now P = IfSome now (λ b. IsSomeAnd before (λ a. P a b))

-- where the number of calls is told after a call it was told before, and is one more
abbrev pub CountsCall : Option ℕ → Option ℕ → Type 0
CountsCall before now = IfTold before now (λ m n. n ≡ m + 1)

-- the first bytes of all
abbrev pub IsFront : List ℕ → List ℕ → Type 0
IsFront front all = (rest : List ℕ) × (all ≡ front ++ rest)

-- a read appended the bytes of the file, one more than the limit at most
pub record Reads (content : Option Folder) (name : List ℕ) (limit : ℕ) (old new : List ℕ) : Type 0 where
  pub told : IfSome content (λ files. IsSomeAnd (get files name) (λ bytes. new ≡ old ++ take (limit + 1) bytes))
  pub bound : (more : List ℕ) × (new ≡ old ++ more) × (length more ≤ limit + 1)

-- a read fails only where the count rose, and misses a name only where the files are told and lack it
pub record HasReadCause (content : Option Folder) (name : List ℕ) (before now : ℕ) (result : Result Unit ReadFault) : Type 0 where
  pub later : before ≤ now
  pub failed : IsErrOf result Failed → Rose before now
  pub absent : IsErrOf result Absent → IsSomeAnd content (λ files. get files name ≡ None)

-- a failed write left all files as they were, or the first of its bytes under its name
abbrev pub IsTornWrite : Folder → Folder → List ℕ → List ℕ → Type 0
IsTornWrite old new name bytes = (new ≡ old) ⊎ ((front : List ℕ) × IsFront front bytes × (new ≡ insert old name front))
