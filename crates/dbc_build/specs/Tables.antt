-- What is said of messages and signals, by tables.
use Rattle.std.specs.Prelude.{nat_eq, ◌≡◌, ℕ, Bool, false, ◌&&◌, ◌==◌, List, bytes_eq, Option, Some, None}
use Rattle.std.specs.Borrow.{Bor}
use Rattle.std.specs.Option.{option_copied, option_eq}
use Rattle.indexmap.specs.IndexMap.{get}
use Rattle.cg_out.specs.Words.{or_else}
use Rattle.dbc_reader.specs.declared.statement.Owner.{Owner}
use Rattle.dbc_reader.specs.declared.statement.Value.{Value}
use Rattle.dbc_reader.specs.declared.statement.ChoicePair.{ChoicePair}
use Rattle.dbc_reader.specs.declared.statement.Body.{Body}
use Rattle.dbc_reader.specs.declared.statement.Statement.{Statement}
use Rattle.dbc_build.specs.declared.tables.Tables.{Tables}
use Rattle.dbc_build.specs.Facts.{is_message, is_signal, comment_in, attribute_in, default_in, choices_in, value_type_in}
use Rattle.dbc_build.specs.Last.{last_of}

-- a message by its id, or a signal of it by its name
abbrev pub Subject : Type 0
Subject = ℕ × Option (Bor (List ℕ))

abbrev pub same_name : Bor (List ℕ) → Bor (List ℕ) → Bool
same_name m n = bytes_eq m.now n.now

abbrev pub same_subject : Subject → Subject → Bool
same_subject s t = nat_eq s.0 t.0 && option_eq same_name s.1 t.1

abbrev pub same_pair : Bor (List ℕ) × Subject → Bor (List ℕ) × Subject → Bool
same_pair a b = same_name a.0 b.0 && same_subject a.1 b.1

-- a statement's target is this message or signal
abbrev pub is_about : Subject → Owner → Bool
is_about (id, None) target = is_message id target
is_about (id, Some name) target = is_signal id name.now target

-- choices with this id, where they have one, and this name are of this signal
abbrev pub is_signal_of : ℕ → List ℕ → Option ℕ → List ℕ → Bool
is_signal_of id name (Some i) n = i == id && bytes_eq n name
is_signal_of id name None n = false

-- this is the key, where there is one
abbrev pub is_key : {K : Type 0} → (K → K → Bool) → K → Option K → Bool
is_key same k (Some key) = same key k
is_key same k None = false

-- ---- what the tables hold

abbrev pub comment_at : Tables → Subject → Option (List ℕ)
comment_at t s = option_copied (get same_subject t.comments s)

abbrev pub attribute_at : Tables → Bor (List ℕ) → Subject → Option Value
attribute_at t name s = option_copied (get same_pair t.attributes (name, s))

abbrev pub default_at : Tables → Bor (List ℕ) → Option Value
default_at t name = option_copied (get same_name t.defaults name)

abbrev pub choices_at : Tables → ℕ → Bor (List ℕ) → Option (List ChoicePair)
choices_at t id name = option_copied (get same_subject t.choices (id, Some name))

abbrev pub value_type_at : Tables → ℕ → Bor (List ℕ) → Option ℕ
value_type_at t id name = option_copied (get same_subject t.value_types (id, Some name))

-- the tables with what one statement more says
pub record Notes (old : Tables) (body : Body) (new : Tables) : Type 0 where
  pub comment : (s : Subject) → comment_at new s ≡ or_else (comment_in (is_about s) body) (comment_at old s)
  pub attribute : (name : Bor (List ℕ)) (s : Subject) → attribute_at new name s ≡ or_else (attribute_in name.now (is_about s) body) (attribute_at old name s)
  pub default : (name : Bor (List ℕ)) → default_at new name ≡ or_else (default_in name.now body) (default_at old name)
  pub choices : (id : ℕ) (name : Bor (List ℕ)) → choices_at new id name ≡ or_else (choices_in id name.now body) (choices_at old id name)
  pub value_type : (id : ℕ) (name : Bor (List ℕ)) → value_type_at new id name ≡ or_else (value_type_in id name.now body) (value_type_at old id name)

-- the tables hold what these statements say
pub record Holds (t : Tables) (ss : List Statement) : Type 0 where
  pub comment : (s : Subject) → comment_at t s ≡ last_of (λ x. comment_in (is_about s) x.body) ss
  pub attribute : (name : Bor (List ℕ)) (s : Subject) → attribute_at t name s ≡ last_of (λ x. attribute_in name.now (is_about s) x.body) ss
  pub default : (name : Bor (List ℕ)) → default_at t name ≡ last_of (λ x. default_in name.now x.body) ss
  pub choices : (id : ℕ) (name : Bor (List ℕ)) → choices_at t id name ≡ last_of (λ x. choices_in id name.now x.body) ss
  pub value_type : (id : ℕ) (name : Bor (List ℕ)) → value_type_at t id name ≡ last_of (λ x. value_type_in id name.now x.body) ss
