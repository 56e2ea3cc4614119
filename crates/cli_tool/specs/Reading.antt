-- What the reads of a run leave: texts, or why there are none.
use Rattle.std.specs.Prelude.{◌≡◌, ◌⊎◌, ℕ, ◌+◌, ◌≤◌, List, [], ◌∷◌, ◌++◌, length, take, IsSomeAnd}
use Rattle.std.specs.declared.option.Option.TheVariants.{None}
use Rattle.std.specs.FinMap.{get}
use Rattle.cg_out.specs.Outside.{FilesSeen, Rose}
use Rattle.cli_tool.specs.World.{OfText, HasText, Calls}
use Rattle.cli_tool.specs.Task.{Input}
use Rattle.cli_tool.specs.declared.status.Status.{Status}
use Rattle.cli_tool.specs.declared.status.Status.TheVariants.{FileFault, NoMemory}

-- where the contents are told, the files are there, and their texts, in order, are so
abbrev pub OfTexts : FilesSeen → List Input → (List (List ℕ) → Type 0) → Type 0
OfTexts files [] P = P []
OfTexts files (i ∷ is) P = OfText files i.file (λ text. OfTexts files is (λ texts. P (text ∷ texts)))

-- the contents are told, the files are there, and their texts, in order, are so
abbrev pub HasTexts : FilesSeen → List Input → (List (List ℕ) → Type 0) → Type 0
HasTexts files [] P = P []
HasTexts files (i ∷ is) P = HasText files i.file (λ text. HasTexts files is (λ texts. P (text ∷ texts)))

-- this was read of a file: its first bytes, one more than it may have at most
pub record IsRead (files : FilesSeen) (i : Input) (text : List ℕ) : Type 0 where
  pub text_is : OfText files i.file (λ bytes. text ≡ take (i.limit + 1) bytes)
  pub bound : length text ≤ i.limit + 1

-- the same of files in order
abbrev pub AreRead : FilesSeen → List Input → List (List ℕ) → Type 0
AreRead files [] [] = Unit {0}
AreRead files [] (text ∷ texts) = ⊥
AreRead files (i ∷ is) [] = ⊥
AreRead files (i ∷ is) (text ∷ texts) = IsRead files i text × AreRead files is texts

-- a file was read, by one call, and no file changed
pub record ReadsText (i : Input) (text : List ℕ) (old new : FilesSeen) : Type 0 where
  pub read : IsRead old i text
  pub content : new.content ≡ old.content
  pub calls : Calls old new 1

-- files were read in order, by a call each, and no file changed
pub record ReadsTexts (inputs : List Input) (texts : List (List ℕ)) (old new : FilesSeen) : Type 0 where
  pub read : AreRead old inputs texts
  pub content : new.content ≡ old.content
  pub calls : Calls old new (length inputs)
  pub later : old.faults ≤ new.faults

-- a file was not read, since the outside failed or since no file has the name; no file changed
pub record FailsToRead (file : List ℕ) (old new : FilesSeen) : Type 0 where
  pub cause : Rose old.faults new.faults ⊎ IsSomeAnd old.content (λ folder. get folder file ≡ None)
  pub content : new.content ≡ old.content

-- the first file that was not read, behind those that are there
pub record FailsAtInput (inputs : List Input) (old new : FilesSeen) : Type 0 where
  pub front : List Input
  pub missed : Input
  pub rest : List Input
  pub inputs_are : inputs ≡ front ++ missed ∷ rest
  pub there : OfTexts old front (λ texts. Unit {0})
  pub failed : FailsToRead missed.file old new
  pub calls : Calls old new (length front + 1)

-- memory was wanting behind a read or several, and no file changed
pub record WantsMemory (inputs : List Input) (old new : FilesSeen) : Type 0 where
  pub count : ℕ
  pub some : 1 ≤ count
  pub most : count ≤ length inputs
  pub content : new.content ≡ old.content
  pub calls : Calls old new count

-- why a text was not read
abbrev pub HasNoText : Input → FilesSeen → FilesSeen → Status → Type 0
HasNoText i old new FileFault = FailsToRead i.file old new × Calls old new 1
HasNoText i old new NoMemory = (new.content ≡ old.content) × Calls old new 1
HasNoText i old new status = ⊥

-- why not all texts were read
abbrev pub HasNotAll : List Input → FilesSeen → FilesSeen → Status → Type 0
HasNotAll inputs old new FileFault = FailsAtInput inputs old new
HasNotAll inputs old new NoMemory = WantsMemory inputs old new
HasNotAll inputs old new status = ⊥
