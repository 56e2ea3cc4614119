-- What the text of a file gives, by the name of the file and what is read of it; and what is found in it.
use Rattle.std.proofs.Common.{◌≡◌, ℕ, suc, Bool, true, false, List, [], ◌∷◌, cond, Result, Ok, Err, refl, sym, ◌∙◌}
use Rattle.std.specs.Prelude.{slice_get}
use Rattle.std.specs.List.{find}
use Rattle.std.specs.declared.option.Option.{Option}
use Rattle.std.specs.declared.option.Option.TheVariants.{None, Some}
use Rattle.can_model.specs.declared.database.Database.{Database}
use Rattle.can_model.specs.declared.database.Message.{Message}
use Rattle.can_model.specs.Validity.{IsValid, IsOfValidDatabase}
use Rattle.db_text.specs.DatabaseOfText.{DatabaseRefusal, in_text, Spells}
use Rattle.cli_tool.specs.FileName.{is_sym}
use Rattle.cli_tool.specs.DatabaseInFile.{not_yet, GivesDatabase, refusal_answer, HasAnswer}
use Rattle.cli_tool.specs.Task.{Answer}

pub sym_given : (file text : List ℕ) → is_sym file ≡ true → GivesDatabase file text (Err (in_text (not_yet 0)))
sym_given file text e = rw e refl

pub dbc_given : (file text : List ℕ) (given : Result Database DatabaseRefusal) → is_sym file ≡ false → Spells text given → GivesDatabase file text given
dbc_given file text given e s = rw e s

-- what is found in a list stands in it
found_at : {A : Type 0} (p : A → Bool) (xs : List A) (x : A) → find p xs ≡ Some x → (i : ℕ) × (slice_get xs i ≡ Some x)
found_at p [] x e = absurd (cc)
found_at p (y ∷ ys) x e = by (p y) (found_at p ys x) e where
  by : (b : Bool) → (find p ys ≡ Some x → (i : ℕ) × (slice_get ys i ≡ Some x)) → cond b (Some y) (find p ys) ≡ Some x → (i : ℕ) × (slice_get (y ∷ ys) i ≡ Some x)
  by true more e = (0, e)
  by false more e = let later : (i : ℕ) × (slice_get ys i ≡ Some x) = more e in (suc later.0, later.1)

pub found_valid : (db : Database) (p : Message → Bool) (m : Message) → IsValid db → find p db.messages ≡ Some m → IsOfValidDatabase m
found_valid db p m valid e = let at : (i : ℕ) × (slice_get db.messages i ≡ Some m) = found_at p db.messages m e in (db, at.0, valid, at.1)

-- ---- what a command answers

pub of_database : (Answers : Database → Answer → Type 0) (file text : List ℕ) (db : Database) (answer : Answer) → GivesDatabase file text (Ok db) → Answers db answer → HasAnswer Answers file text answer
of_database Answers file text db answer given a = (Ok db, given, a)

pub of_refusal : (Answers : Database → Answer → Type 0) (file text : List ℕ) (answer : Answer) → (refusal : DatabaseRefusal) × GivesDatabase file text (Err refusal) × (answer ≡ refusal_answer refusal) → HasAnswer Answers file text answer
of_refusal Answers file text answer h = (Err h.0, h.1, h.2)
