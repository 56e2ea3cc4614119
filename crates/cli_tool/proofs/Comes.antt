-- The answer of texts that are told comes, but for the outside and for memory.
use Rattle.std.proofs.Common.{◌≡◌, ◌⊎◌, inl, inr, ℕ, ◌<◌, List, [], ◌∷◌, ◌++◌, length, refl, sym, ap, subst, ◌∙◌, arith, length-append}
use Rattle.std.specs.Prelude.{IsSomeAnd}
use Rattle.std.specs.declared.option.Option.{Option}
use Rattle.std.specs.declared.option.Option.TheVariants.{None, Some}
use Rattle.std.specs.FinMap.{get}
use Rattle.cg_out.specs.Outside.{Folder, FilesSeen, Rose}
use Rattle.cli_tool.specs.World.{World, HasText}
use Rattle.cli_tool.specs.Task.{Input, Task, Answer, status_of, outputs_of, Gives}
use Rattle.cli_tool.specs.Reading.{OfTexts, HasTexts, FailsAtInput}
use Rattle.cli_tool.specs.TaskEnds.{FailsToWrite, TaskEnds}
use Rattle.cli_tool.specs.MustCome.{IsLeftOpen, MustCome}
use Rattle.cli_tool.specs.declared.status.Status.{Status}
use Rattle.cli_tool.specs.declared.status.Status.TheVariants.{Done, Negative, Usage, Refused, FileFault, OutFault, NoMemory}
use Rattle.cli_tool.proofs.Cut.{both_of_texts}

-- texts give one answer
abbrev pub IsDecided : Task → Type 0
IsDecided task = (texts : List (List ℕ)) (a b : Answer) → Gives task texts a → Gives task texts b → a ≡ b

-- the one answer of texts that are told
same_answer : (task : Task) → IsDecided task → (files : FilesSeen) (a b : Answer) → HasTexts files task.inputs (λ texts. Gives task texts a) → OfTexts files task.inputs (λ texts. Gives task texts b) → a ≡ b
same_answer task decided files a b t h =
    let both = both_of_texts files task.inputs (λ texts. Gives task texts a) (λ texts. Gives task texts b) t h in
    decided both.0 a b both.1 both.2

-- a file whose text is told is there
is_there : (P : List ℕ → Type 0) (files : FilesSeen) (file : List ℕ) → HasText files file P → IsSomeAnd files.content (λ folder. get folder file ≡ None) → ⊥
is_there P files file t a = by_content files.content t a where
  by_content : (content : Option Folder) → IsSomeAnd content (λ folder. IsSomeAnd (get folder file) P) → IsSomeAnd content (λ folder. get folder file ≡ None) → ⊥
  by_content None p q = q
  by_content (Some folder) p q = subst (λ (o : Option (List ℕ)). IsSomeAnd o P) q p

text_of : (P : List ℕ → Type 0) (files : FilesSeen) (file : List ℕ) → HasText files file P → (x : List ℕ) × P x
text_of P files file t = by_content files.content t where
  by_file : (o : Option (List ℕ)) → IsSomeAnd o P → (x : List ℕ) × P x
  by_file None p = absurd p
  by_file (Some x) p = (x, p)

  by_content : (content : Option Folder) → IsSomeAnd content (λ folder. IsSomeAnd (get folder file) P) → (x : List ℕ) × P x
  by_content None p = absurd p
  by_content (Some folder) p = by_file (get folder file) p

-- the same of one of several
are_there : (files : FilesSeen) (front : List Input) (missed : Input) (rest : List Input) (P : List (List ℕ) → Type 0) → HasTexts files (front ++ missed ∷ rest) P
    → IsSomeAnd files.content (λ folder. get folder missed.file ≡ None) → ⊥
are_there files [] missed rest P t a = is_there _ files missed.file t a
are_there files (i ∷ front) missed rest P t a =
    let first = text_of (λ text. HasTexts files (front ++ missed ∷ rest) (λ texts. P (text ∷ texts))) files i.file t in
    are_there files front missed rest (λ texts. P (first.0 ∷ texts)) first.1 a

some_of : {A : Type 0} (xs front : List A) (x : A) (rest : List A) → xs ≡ front ++ x ∷ rest → 0 < length xs
some_of xs front x rest e = rw e (omega (arith, length-append front (x ∷ rest)))

pub comes : (task : Task) → IsDecided task → (old new : World) (status : Status) → TaskEnds task old new status → MustCome task old new status
comes task decided old new status e answer t = by_status status e where
  same : (a : Answer) → OfTexts old.files task.inputs (λ texts. Gives task texts a) → answer ≡ a
  same a h = same_answer task decided old.files answer a t h

  by_cause : (f : FailsAtInput task.inputs old.files new.files) → Rose old.files.faults new.files.faults ⊎ IsSomeAnd old.files.content (λ folder. get folder f.missed.file ≡ None) → IsLeftOpen task answer old new FileFault
  by_cause f (inl r) = inr (inl (refl, r, omega (arith, some_of task.inputs f.front f.missed f.rest f.inputs_are)))
  by_cause f (inr a) =
      absurd (are_there old.files f.front f.missed f.rest (λ texts. Gives task texts answer) (subst (λ (is : List Input). HasTexts old.files is (λ texts. Gives task texts answer)) f.inputs_are t) a)

  by_write : FailsToWrite task old.files new.files → IsLeftOpen task answer old new FileFault
  by_write w =
      let some = subst (λ (a : Answer). 0 < length (outputs_of a)) (sym (same w.0 w.1.whole)) (some_of (outputs_of w.0) w.2.front w.2.torn w.2.rest w.2.outputs_are) in
      inr (inl (refl, w.2.cause, omega (arith, some)))

  by_status : (s : Status) → TaskEnds task old new s → IsLeftOpen task answer old new s
  by_status FileFault (inl f, x) = by_cause f f.failed.cause
  by_status FileFault (inr w, x) = by_write w
  by_status OutFault x = inr (inr (inl (refl, x.2.cause)))
  by_status NoMemory x = inr (inr (inr (refl, omega (arith, x.0.some, x.0.most))))
  by_status Done x = inl (sym x.1 ∙ ap status_of (sym (same x.0 x.2.found.whole)))
  by_status Negative x = inl (sym x.1 ∙ ap status_of (sym (same x.0 x.2.found.whole)))
  by_status Usage x = inl (sym x.1 ∙ ap status_of (sym (same x.0 x.2.found.whole)))
  by_status Refused x = inl (sym x.1 ∙ ap status_of (sym (same x.0 x.2.found.whole)))
