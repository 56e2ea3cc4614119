-- The numbers of a statement are below bounds.
use Rattle.std.specs.Prelude.{◌≤◌, List}
use Rattle.std.specs.List.{AllByRecursion}
use Rattle.dbc_reader.specs.declared.statement.Statement.{Statement}
use Rattle.dbc_reader.specs.declared.statement.Body.{Body}
use Rattle.dbc_reader.specs.declared.statement.Body.TheVariants.{Message, Signal}

-- the id of a message has 32 bits; its length, and the start and the length of a signal, have 16
abbrev pub IsBoundedBody : Body → Type 0
IsBoundedBody (Message id name len) = (id ≤ 4294967295) × (len ≤ 65535)
IsBoundedBody (Signal name start len motorola signed factor offset low high unit receivers) = (start ≤ 65535) × (len ≤ 65535)
IsBoundedBody body = Unit {0}

abbrev pub AreBounded : List Statement → Type 0
AreBounded ss = AllByRecursion (λ s. IsBoundedBody s.body) ss
