-- What the databases of all readers keep.
use Rattle.std.specs.Prelude.{◌≡◌, ◌≢◌, ◌<◌, true, [], length, Some, None, IfSome}
use Rattle.std.specs.List.{AllByRecursion}
use Rattle.can_model.specs.declared.database.Database.{Database}
use Rattle.can_model.specs.declared.database.Message.{Message}
use Rattle.can_model.specs.declared.database.Signal.{Signal}
use Rattle.can_model.specs.RawValue.{is_raw}

-- the start value and the values of the choices are raw values, and a parent has ranges and a selector of the message, where it has one
pub record IsFormedSignal (m : Message) (s : Signal) : Type 0 where
  pub initial : IfSome s.initial (λ v. is_raw s.length s.signed v ≡ true)
  pub choices : AllByRecursion (λ c. is_raw s.length s.signed c.value ≡ true) s.choices
  pub ranges : IfSome s.parent (λ p. p.ranges ≢ [])
  pub selector : IfSome s.parent (λ p. IfSome p.selector (λ i. i < length m.signals))

-- a cycle is not 0
pub record IsFormedMessage (m : Message) : Type 0 where
  pub cycle : m.cycle ≢ Some 0
  pub signals : AllByRecursion (IsFormedSignal m) m.signals

abbrev pub IsFormed : Database → Type 0
IsFormed db = AllByRecursion IsFormedMessage db.messages

-- no signal is multiplexed
abbrev pub HasNoParents : Database → Type 0
HasNoParents db = AllByRecursion (λ m. AllByRecursion (λ s. s.parent ≡ None) m.signals) db.messages
