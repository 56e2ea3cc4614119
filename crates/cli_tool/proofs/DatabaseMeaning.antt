-- A valid database has small numbers, and its pair is faithful.
use Rattle.std.proofs.Common.{◌≡◌, ℕ, suc, ◌≤◌, Bool, true, false, List, [], ◌∷◌, take, Ok, Err, Result, refl, subst, arith}
use Rattle.std.specs.Prelude.{nat_lt, slice_get, MatchBool, Some}
use Rattle.std.specs.List.{AllByRecursion}
use Rattle.std.proofs.lemmas.Bool.Decides.{nat_tests}
use Rattle.can_model.specs.declared.database.Message.{Message}
use Rattle.can_model.specs.declared.database.Database.{Database}
use Rattle.can_model.specs.declared.check_kind.CheckKind.{CheckKind}
use Rattle.can_model.specs.declared.check_kind.CheckKind.TheVariants.{FrameIdRange, MessageTooLong}
use Rattle.can_model.specs.Formed.{HasNoParents}
use Rattle.can_model.specs.Validity.{Fault, message, greatest_id, message_has, IsValid, IsOfValidDatabase}
use Rattle.can_model.proofs.Elements.{and_some}
use Rattle.name_rules.specs.declared.table.SymbolTable.{SymbolTable}
use Rattle.name_rules.specs.IsIdentifier.{IsIdentifier}
use Rattle.name_rules.specs.Symbols.{AreSymbols}
use Rattle.name_rules.proofs.Shape.{identifier_of-IsIdentifier}
use Rattle.dbc_build.proofs.Kept.{no_parents}
use Rattle.db_text.specs.DatabaseOfText.{DatabaseRefusal, in_text, Spells}
use Rattle.gen_unit.specs.Header.{header_text}
use Rattle.gen_unit.specs.Source.{source_text}
use Rattle.gen_unit.specs.Small.{IsSmallMessage, AreSmall}
use Rattle.gen_unit.specs.Faithful.{Faithful}
use Rattle.gen_unit.proofs.PairMeaning.{pair-is-faithful}
use Rattle.cli_tool.specs.FileName.{base_name, stem_of, database_name, is_sym}
use Rattle.cli_tool.specs.DatabaseInFile.{not_yet, GivesDatabase}

-- ---- small numbers

at_most : (limit n : ℕ) → ¬ (nat_lt limit n ≡ true) → n ≤ limit
at_most limit n h = by_test (nat_lt limit n) refl where
  by_test : (b : Bool) → nat_lt limit n ≡ b → n ≤ limit
  by_test true e = absurd (h e)
  by_test false e = grind (arith, nat_tests)

id_limit : (extended : Bool) → greatest_id extended ≤ 536870911
id_limit true = omega arith
id_limit false = omega arith

-- no message of a valid database has a fault of its own
none_of_message : (db : Database) → IsValid db → (i : ℕ) (m : Message) → slice_get db.messages i ≡ Some m → (kind : CheckKind) → ¬ (message_has (take i db.messages) m kind ≡ true)
none_of_message db valid i m at kind has =
    let f : Fault = record { kind = kind; line = m.line; message = m.name; signal = [] } in
    valid (message i) f (and_some _ (slice_get db.messages i) m at (has, refl))

small_message : (db : Database) → IsValid db → (i : ℕ) (m : Message) → slice_get db.messages i ≡ Some m → IsSmallMessage m
small_message db valid i m at =
    let a = at_most (greatest_id m.extended) m.id (none_of_message db valid i m at FrameIdRange) in
    let most = id_limit m.extended in
    let b = at_most 2048 m.length (none_of_message db valid i m at MessageTooLong) in
    record { id = omega arith; length = omega arith }

-- ---- its messages

each_one : (P : Message → Type 0) (ms : List Message) → ((i : ℕ) (m : Message) → slice_get ms i ≡ Some m → P m) → AllByRecursion P ms
each_one P [] h = tt
each_one P (m ∷ ms) h = (h 0 m refl, each_one P ms (λ i n e. h (suc i) n e))

pub small_messages : (db : Database) → IsValid db → AreSmall db.messages
small_messages db valid = each_one IsSmallMessage db.messages (small_message db valid)

pub all_valid : (db : Database) → IsValid db → AllByRecursion IsOfValidDatabase db.messages
all_valid db valid = each_one IsOfValidDatabase db.messages (λ i m at. (db, i, valid, at))

-- ---- what a file gives

pub named-identifier : (file : List ℕ) → IsIdentifier (database_name file)
unfolding database_name
named-identifier file = identifier_of-IsIdentifier (stem_of (base_name file))

-- a database that a text spells is valid, and its statements make it
spelled : (file text : List ℕ) (db : Database) → GivesDatabase file text (Ok db) → Spells text (Ok db)
spelled file text db = by_name (is_sym file) where
  by_name : (b : Bool) → MatchBool b (◌≡◌ {A = Result Database DatabaseRefusal} (Ok db) (Err (in_text (not_yet 0)))) (Spells text (Ok db)) → Spells text (Ok db)
  by_name true h = absurd cc
  by_name false h = h

-- no signal of it is multiplexed, as none is of what statements make
pub flat_in : (file text : List ℕ) (db : Database) → GivesDatabase file text (Ok db) → HasNoParents db
flat_in file text db given =
    let makes = (spelled file text db given).0 in
    no_parents makes.statements (Ok db) makes.made_is

pub database_faithful : (file text : List ℕ) (db : Database) (names : SymbolTable) → GivesDatabase file text (Ok db) → AreSymbols db (database_name file) false names
    → Faithful (database_name file) db.messages names (header_text db.messages names) (source_text (database_name file) db.messages names)
database_faithful file text db names given are =
    let valid = (spelled file text db given).1 in
    pair-is-faithful (database_name file) db names
    (record { named = named-identifier file; small = small_messages db valid; prune = false; symbols = are })
    (all_valid db valid)
    (flat_in file text db given)
