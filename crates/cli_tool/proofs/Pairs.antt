-- What `generate_c_source` leaves in the files is a header and a source of the text's database.
use Rattle.std.proofs.Common.{◌≡◌, ◌⊎◌, inl, inr, ℕ, Bool, true, false, List, [], ◌∷◌, ◌++◌, Result, Ok, Err, refl, sym, subst, ◌∙◌}
use Rattle.std.specs.Prelude.{IfSome, IsSomeAnd, MatchBool}
use Rattle.std.specs.declared.option.Option.{Option}
use Rattle.std.specs.declared.option.Option.TheVariants.{None, Some}
use Rattle.std.specs.FinMap.{get, insert}
use Rattle.can_model.specs.declared.database.Database.{Database}
use Rattle.gen_unit.specs.Header.{header_text}
use Rattle.gen_unit.specs.Source.{source_text}
use Rattle.cg_out.specs.Outside.{Folder, IfTold, IsTornWrite}
use Rattle.cli_tool.specs.FileName.{database_name}
use Rattle.db_text.specs.DatabaseOfText.{DatabaseRefusal, in_text, in_database}
use Rattle.cli_tool.specs.DatabaseInFile.{GivesDatabase, AnswersGiven, HasAnswer, database_input}
use Rattle.cli_tool.specs.PairOfFile.{IsPairOf, HasPair, OfPair, PutsPair, TearsPair, PairStands}
use Rattle.cli_tool.specs.World.{World}
use Rattle.cli_tool.specs.Report.{too_large_report}
use Rattle.cli_tool.specs.Task.{Output, Answer, refused, outputs_of, status_of, are_within, Gives}
use Rattle.cli_tool.specs.GenerateTask.{header_output, source_output, WritesPair, generate_task}
use Rattle.cli_tool.specs.Writing.{with_outputs, Puts}
use Rattle.cli_tool.specs.TaskEnds.{TaskEnds}
use Rattle.cli_tool.specs.declared.status.Status.{Status}
use Rattle.cli_tool.specs.declared.status.Status.TheVariants.{Done, Negative, Usage, Refused, FileFault, OutFault, NoMemory}
use Rattle.cli_tool.proofs.Texts.{IsSomeAnd-weaker}
use Rattle.cli_tool.proofs.DatabaseMeaning.{database_faithful}

-- ---- what an answer writes

-- a text is refused and nothing is written, or its pair is
abbrev PutsItsPair : List ℕ → List ℕ → Answer → Type 0
PutsItsPair file text answer =
    (header : List ℕ) × (source : List ℕ) × IsPairOf file text header source × (outputs_of answer ≡ header_output file header ∷ source_output file source ∷ [])

abbrev WritesNothing : Answer → Type 0
WritesNothing answer = (outputs_of answer ≡ []) × (status_of answer ≡ Refused)

abbrev MayWrite : List ℕ → List ℕ → Answer → Type 0
MayWrite file text answer = WritesNothing answer ⊎ PutsItsPair file text answer

module _ (file text : List ℕ) (answer : Answer) where
  by_given : (given : Result Database DatabaseRefusal) → GivesDatabase file text given → AnswersGiven (WritesPair file) given answer → MayWrite file text answer
  by_given (Ok db) is_in (names, are, e) = subst (λ (a : Answer). MayWrite file text a) (sym e) (inr (
    header_text db.messages names,
    source_text (database_name file) db.messages names,
    record {
      db = db;
      database_is = is_in;
      names = names;
      names_are = are;
      header_is = refl;
      source_is = refl;
      meaning = database_faithful file text db names is_in are;
    },
    refl,
  ))
  by_given (Err (in_text refusal)) is_in e = subst (λ (a : Answer). MayWrite file text a) (sym e) (inl (refl, refl))
  by_given (Err (in_database fault)) is_in e = subst (λ (a : Answer). MayWrite file text a) (sym e) (inl (refl, refl))

  may_write : Gives (generate_task file) (text ∷ []) answer → MayWrite file text answer
  may_write g = by_size (are_within (database_input file ∷ []) (text ∷ [])) g where
    by_size : (b : Bool) → MatchBool b (HasAnswer (WritesPair file) file text answer) (answer ≡ refused too_large_report) → MayWrite file text answer
    by_size true (given, is_in, e) = by_given given is_in e
    by_size false e = subst (λ (a : Answer). MayWrite file text a) (sym e) (inl (refl, refl))

-- ---- which of two writes is torn

abbrev tail_of : List Output → List Output
tail_of [] = []
tail_of (x ∷ xs) = xs

none_torn : (front : List Output) (torn : Output) (rest : List Output) → [] ≡ front ++ torn ∷ rest → ⊥
none_torn [] torn rest e = absurd cc
none_torn (y ∷ front) torn rest e = absurd cc

-- the one write that there is
the_one : (front : List Output) (torn : Output) (rest : List Output) (o : Output) (a b : Folder) → o ∷ [] ≡ front ++ torn ∷ rest → IsTornWrite (with_outputs a front) b torn.file torn.bytes
    → IsTornWrite a b o.file o.bytes
the_one [] torn rest o a b e t = let same : torn ≡ o = cc in subst (λ (x : Output). IsTornWrite a b x.file x.bytes) same t
the_one (x ∷ front) torn rest o a b e t = absurd (none_torn front torn rest (λ k. tail_of (e k)))

-- the first, or the second behind the first
one_of_two : (front : List Output) (torn : Output) (rest : List Output) (o u : Output) (a b : Folder) → o ∷ u ∷ [] ≡ front ++ torn ∷ rest
    → IsTornWrite (with_outputs a front) b torn.file torn.bytes → IsTornWrite a b o.file o.bytes ⊎ IsTornWrite (insert a o.file o.bytes) b u.file u.bytes
one_of_two [] torn rest o u a b e t = let same : torn ≡ o = cc in inl (subst (λ (x : Output). IsTornWrite a b x.file x.bytes) same t)
one_of_two (x ∷ front) torn rest o u a b e t =
    let first : x ≡ o = cc in
    let behind : IsTornWrite (with_outputs (insert a o.file o.bytes) front) b torn.file torn.bytes = subst (λ (y : Output). IsTornWrite (with_outputs (insert a y.file y.bytes) front) b torn.file torn.bytes) first t in
    inr (the_one front torn rest u (insert a o.file o.bytes) b (λ k. tail_of (e k)) behind)

-- ---- what stands in the files

-- where the text is told, this is its answer
abbrev OfAnswer : List ℕ → Answer → Option Folder → Type 0
OfAnswer file answer content = IfSome content (λ folder. IsSomeAnd (get folder file) (λ text. Gives (generate_task file) (text ∷ []) answer))

-- where the contents are told, the text has a pair of which this is so
abbrev OfPairAt : List ℕ → Option Folder → Option Folder → (List ℕ → List ℕ → Folder → Folder → Type 0) → Type 0
OfPairAt file old new P = IfTold old new (λ a b. IsSomeAnd (get a file) (λ text. HasPair file text (λ header source. P header source a b)))

module _ (file : List ℕ) (answer : Answer) where
  -- ---- whole pairs

  no_more : (b : Folder) (os : List Output) → Puts os None (Some b) → ⊥
  no_more b [] e = absurd cc
  no_more b (o ∷ os) e = e

  put : (text : List ℕ) (a b : Folder) → Puts (outputs_of answer) (Some a) (Some b) → PutsItsPair file text answer → HasPair file text (λ header source. PutsPair file header source a b)
  put text a b p w = (w.0, w.1, w.2, subst (λ (os : List Output). Puts os (Some a) (Some b)) w.3 p)

  may_put : (old new : Option Folder) → OfAnswer file answer old → Puts (outputs_of answer) old new → ((new ≡ old) × (status_of answer ≡ Refused)) ⊎ OfPairAt file old new (PutsPair file)
  may_put old None h p = inr tt
  may_put None (Some b) h p = absurd (no_more b (outputs_of answer) p)
  may_put (Some a) (Some b) h p = by_text (get a file) h where
    by_text : (o : Option (List ℕ)) → IsSomeAnd o (λ text. Gives (generate_task file) (text ∷ []) answer)
        → (◌≡◌ {A = Option Folder} (Some b) (Some a) × (status_of answer ≡ Refused)) ⊎ IsSomeAnd o (λ text. HasPair file text (λ header source. PutsPair file header source a b))
    by_text None e = absurd e
    by_text (Some text) e = by_write (may_write file text answer e) where
      by_write : MayWrite file text answer → (◌≡◌ {A = Option Folder} (Some b) (Some a) × (status_of answer ≡ Refused)) ⊎ HasPair file text (λ header source. PutsPair file header source a b)
      by_write (inl none) = inl (subst (λ (os : List Output). Puts os (Some a) (Some b)) none.0 p, none.1)
      by_write (inr w) = inr (put text a b p w)

  -- ---- torn pairs

  may_tear : (front : List Output) (torn : Output) (rest : List Output) (old new : Option Folder) → outputs_of answer ≡ front ++ torn ∷ rest → OfAnswer file answer old
      → IfTold old new (λ a b. IsTornWrite (with_outputs a front) b torn.file torn.bytes) → OfPairAt file old new (TearsPair file)
  may_tear front torn rest old None e h p = tt
  may_tear front torn rest None (Some b) e h p = absurd p
  may_tear front torn rest (Some a) (Some b) e h p =
      IsSomeAnd-weaker (get a file) (λ text. Gives (generate_task file) (text ∷ []) answer) (λ text. HasPair file text (λ header source. TearsPair file header source a b))
      (λ text g. by_write text (may_write file text answer g)) h where
        by_write : (text : List ℕ) → MayWrite file text answer → HasPair file text (λ header source. TearsPair file header source a b)
        by_write text (inl none) = absurd (none_torn front torn rest (sym none.0 ∙ e))
        by_write text (inr w) = (w.0, w.1, w.2, one_of_two front torn rest (header_output file w.0) (source_output file w.1) a b (sym w.3 ∙ e) p)

pub pair_stands : (file : List ℕ) (old new : World) (status : Status) → TaskEnds (generate_task file) old new status → PairStands file old.files new.files status
pair_stands file old new Done (answer, e, l, r) = by_put (may_put file answer old.files.content new.files.content l.found.whole l.written.content) where
  by_put : ((new.files.content ≡ old.files.content) × (status_of answer ≡ Refused)) ⊎ OfPair file old.files new.files (PutsPair file) → OfPair file old.files new.files (PutsPair file)
  by_put (inl none) = let never : Done ≡ Refused = sym e ∙ none.1 in absurd cc
  by_put (inr w) = w
pair_stands file old new FileFault (inl f, x) = inl f.failed.content
pair_stands file old new FileFault (inr w, x) =
    let t = w.2 in
    inr (may_tear file w.0 t.front t.torn t.rest old.files.content new.files.content t.outputs_are w.1.whole t.content)
pair_stands file old new OutFault (answer, l, t) = by_put (may_put file answer old.files.content new.files.content l.found.whole l.written.content) where
  by_put : ((new.files.content ≡ old.files.content) × (status_of answer ≡ Refused)) ⊎ OfPair file old.files new.files (PutsPair file)
      → (new.files.content ≡ old.files.content) ⊎ OfPair file old.files new.files (PutsPair file)
  by_put (inl none) = inl none.0
  by_put (inr w) = inr w
pair_stands file old new Negative x = tt
pair_stands file old new Usage x = tt
pair_stands file old new Refused x = tt
pair_stands file old new NoMemory x = tt
