-- The header and the source of the database in a file, and where they stand.
use Rattle.std.specs.Prelude.{◌≡◌, ◌⊎◌, ℕ, false, List, Ok, IsSomeAnd}
use Rattle.std.specs.FinMap.{get, insert}
use Rattle.cg_out.specs.Outside.{Folder, FilesSeen, IfTold, IsTornWrite}
use Rattle.can_model.specs.declared.database.Database.{Database}
use Rattle.name_rules.specs.declared.table.SymbolTable.{SymbolTable}
use Rattle.name_rules.specs.Symbols.{AreSymbols}
use Rattle.gen_unit.specs.Header.{header_text}
use Rattle.gen_unit.specs.Source.{source_text}
use Rattle.gen_unit.specs.Faithful.{Faithful}
use Rattle.cli_tool.specs.FileName.{database_name, header_path, source_path}
use Rattle.cli_tool.specs.DatabaseInFile.{GivesDatabase}
use Rattle.cli_tool.specs.declared.status.Status.{Status}
use Rattle.cli_tool.specs.declared.status.Status.TheVariants.{Done, FileFault, OutFault}

-- whose they are, their names and bytes, and what they say as C
pub record IsPairOf (file text header source : List ℕ) : Type 0 where
  pub db : Database
  pub database_is : GivesDatabase file text (Ok db)
  pub names : SymbolTable
  pub names_are : AreSymbols db (database_name file) false names
  pub header_is : header ≡ header_text db.messages names
  pub source_is : source ≡ source_text (database_name file) db.messages names
  pub meaning : Faithful (database_name file) db.messages names header source

-- the file's text has a header and a source of which this is so
abbrev pub HasPair : List ℕ → List ℕ → (List ℕ → List ℕ → Type 0) → Type 0
HasPair file text P = (header : List ℕ) × (source : List ℕ) × IsPairOf file text header source × P header source

-- where the contents are told, the same of both, with the contents before and after
abbrev pub OfPair : List ℕ → FilesSeen → FilesSeen → (List ℕ → List ℕ → Folder → Folder → Type 0) → Type 0
OfPair file old new P =
    IfTold old.content new.content (λ a b. IsSomeAnd (get a file) (λ text. HasPair file text (λ header source. P header source a b)))

-- the files after the header was set
abbrev pub with_header : List ℕ → Folder → List ℕ → Folder
with_header file files header = insert files (header_path file) header

-- the files after the header was set, and then the source
abbrev pub with_pair : List ℕ → Folder → List ℕ → List ℕ → Folder
with_pair file files header source = insert (with_header file files header) (source_path file) source

-- both stand in their files, and no other file changed
abbrev pub PutsPair : List ℕ → List ℕ → List ℕ → Folder → Folder → Type 0
PutsPair file header source a b = b ≡ with_pair file a header source

-- the write of the header failed, or that of the source behind a header that stands whole: the file of this write is as
-- it was or holds the first of its bytes, and no other file changed
abbrev pub TearsPair : List ℕ → List ℕ → List ℕ → Folder → Folder → Type 0
TearsPair file header source a b =
    IsTornWrite a b (header_path file) header ⊎ IsTornWrite (with_header file a header) b (source_path file) source

abbrev pub IsPairPut : List ℕ → FilesSeen → FilesSeen → Type 0
IsPairPut file old new = OfPair file old new (PutsPair file)

abbrev pub IsPairTorn : List ℕ → FilesSeen → FilesSeen → Type 0
IsPairTorn file old new = OfPair file old new (TearsPair file)

-- at status 0 both stand there, at 5 both may, and at 4 one may be torn; of other statuses `Ends` says all
abbrev pub PairStands : List ℕ → FilesSeen → FilesSeen → Status → Type 0
PairStands file old new Done = IsPairPut file old new
PairStands file old new FileFault = (new.content ≡ old.content) ⊎ IsPairTorn file old new
PairStands file old new OutFault = (new.content ≡ old.content) ⊎ IsPairPut file old new
PairStands file old new status = Unit {0}
