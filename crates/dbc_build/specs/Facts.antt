-- What statements say of a message or a signal: each time the last one counts that speaks of it.
use Rattle.std.specs.Prelude.{ℕ, Bool, false, ◌&&◌, ◌==◌, if◌then◌else◌, List, bytes_eq, Option, Some, None}
use Rattle.cg_out.specs.Words.{or_else}
use Rattle.dbc_reader.specs.declared.statement.Statement.{Statement}
use Rattle.dbc_reader.specs.declared.statement.ChoicePair.{ChoicePair}
use Rattle.dbc_reader.specs.declared.statement.Value.{Value}
use Rattle.dbc_reader.specs.declared.statement.Owner.{Owner}
use Rattle.dbc_reader.specs.declared.statement.Owner.TheVariants as owners
use Rattle.dbc_reader.specs.declared.statement.Body.{Body}
use Rattle.dbc_reader.specs.declared.statement.Body.TheVariants.{Comment, Default, Attribute, Choices, ValueType}
use Rattle.dbc_build.specs.Last.{last_of}

-- a statement's target is the message with this id
abbrev pub is_message : ℕ → Owner → Bool
is_message id (owners.Message i) = i == id
is_message id target = false

-- a statement's target is the signal of this name in the message with this id
abbrev pub is_signal : ℕ → List ℕ → Owner → Bool
is_signal id name (owners.Signal i n) = i == id && bytes_eq n name
is_signal id name target = false

-- ---- what one statement says

abbrev pub comment_in : (Owner → Bool) → Body → Option (List ℕ)
comment_in is_it (Comment target text) = if is_it target then Some text else None
comment_in is_it body = None

abbrev pub attribute_in : List ℕ → (Owner → Bool) → Body → Option Value
attribute_in attribute is_it (Attribute name target value) = if bytes_eq name attribute && is_it target then Some value else None
attribute_in attribute is_it body = None

abbrev pub default_in : List ℕ → Body → Option Value
default_in attribute (Default name value) = if bytes_eq name attribute then Some value else None
default_in attribute body = None

abbrev pub choices_in : ℕ → List ℕ → Body → Option (List ChoicePair)
choices_in id name (Choices (Some i) n pairs) = if i == id && bytes_eq n name then Some pairs else None
choices_in id name body = None

abbrev pub value_type_in : ℕ → List ℕ → Body → Option ℕ
value_type_in id name (ValueType i n number) = if i == id && bytes_eq n name then Some number else None
value_type_in id name body = None

-- ---- what all statements say

abbrev pub comment_of : (Owner → Bool) → List Statement → Option (List ℕ)
comment_of is_it ss = last_of (λ s. comment_in is_it s.body) ss

-- the value of an attribute of what is meant, or else the value that it has where nothing is said
abbrev pub attribute_of : List ℕ → (Owner → Bool) → List Statement → Option Value
attribute_of attribute is_it ss =
    or_else (last_of (λ s. attribute_in attribute is_it s.body) ss) (last_of (λ s. default_in attribute s.body) ss)

abbrev pub choices_of : ℕ → List ℕ → List Statement → Option (List ChoicePair)
choices_of id name ss = last_of (λ s. choices_in id name s.body) ss

abbrev pub value_type_of : ℕ → List ℕ → List Statement → Option ℕ
value_type_of id name ss = last_of (λ s. value_type_in id name s.body) ss
