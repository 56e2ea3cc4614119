-- What the databases of all readers keep, and that no signal is multiplexed.
use Rattle.std.proofs.Common.{◌≡◌, ◌≢◌, ℕ, zero, suc, Bool, true, false, cond, List, [], ◌∷◌, ℤ, pos, negsuc, Option, Some, None, Result, Ok, Err, IfOk, refl, subst}
use Rattle.std.specs.Prelude.{IfSome, filter, filter_map, option_and_then, ◌&&◌, int_le}
use Rattle.std.specs.List.{AllByRecursion, cons_option}
use Rattle.can_model.specs.declared.database.Choice.{Choice}
use Rattle.can_model.specs.declared.database.Database.{Database}
use Rattle.can_model.specs.declared.database.Message.{Message}
use Rattle.can_model.specs.declared.database.Signal.{Signal}
use Rattle.can_model.specs.declared.refusal.TextFault.{TextFault}
use Rattle.can_model.specs.Formed.{IsFormedSignal, IsFormedMessage, IsFormed, HasNoParents}
use Rattle.can_model.specs.RawValue.{is_raw}
use Rattle.can_model.specs.Refusal.{Gives}
use Rattle.dbc_reader.specs.declared.statement.ChoicePair.{ChoicePair}
use Rattle.dbc_reader.specs.declared.statement.Statement.{Statement}
use Rattle.dbc_reader.specs.declared.statement.Body.{Body}
use Rattle.dbc_reader.specs.declared.statement.Body.TheVariants as bodies
use Rattle.dbc_build.specs.Facts.{attribute_of, choices_of, is_signal, is_message}
use Rattle.dbc_build.specs.Reading.{whole_in, cycle_from, raw_in, choice_named, choice_from, choices_from, start_attribute, cycle_attribute}
use Rattle.dbc_build.specs.DatabaseOfStatements.{with_signal, signals_in, message_of, with_message, messages_in, is_kept, late_signal, unless_late, database_of}

-- ---- one signal

raw_kept : (len : ℕ) (signed : Bool) (z : ℤ) → IfSome (raw_in len signed z) (λ v. is_raw len signed v ≡ true)
raw_kept len signed z = by (is_raw len signed z) refl where
  by : (b : Bool) → is_raw len signed z ≡ b → IfSome (cond b (Some z) None) (λ v. is_raw len signed v ≡ true)
  by true e = e
  by false e = tt

raw_of_kept : (len : ℕ) (signed : Bool) (o : Option ℤ) → IfSome (option_and_then (raw_in len signed) o) (λ v. is_raw len signed v ≡ true)
raw_of_kept len signed (Some z) = raw_kept len signed z
raw_of_kept len signed None = tt

abbrev IsRawChoice : ℕ → Bool → Choice → Type 0
IsRawChoice len signed c = is_raw len signed c.value ≡ true

named_kept : (len : ℕ) (signed : Bool) (name : List ℕ) (o : Option ℤ) → IfSome o (λ v. is_raw len signed v ≡ true) → IfSome (choice_named name o) (IsRawChoice len signed)
named_kept len signed name (Some v) h = h
named_kept len signed name None h = tt

module _ {A B : Type 0} (P : B → Type 0) (f : A → Option B) where
  some_more : (o : Option B) (more : List B) → IfSome o P → AllByRecursion P more → AllByRecursion P (cons_option o more)
  some_more (Some b) more h hs = (h, hs)
  some_more None more h hs = hs

  all_some : ((a : A) → IfSome (f a) P) → (xs : List A) → AllByRecursion P (filter_map f xs)
  all_some h [] = tt
  all_some h (x ∷ xs) = some_more (f x) (filter_map f xs) (h x) (all_some h xs)

choices_kept : (len : ℕ) (signed : Bool) (o : Option (List ChoicePair)) → AllByRecursion (IsRawChoice len signed) (choices_from len signed o)
choices_kept len signed (Some pairs) = all_some (IsRawChoice len signed) (choice_from len signed) (λ p. named_kept len signed p.text _ (raw_of_kept len signed _)) pairs
choices_kept len signed None = tt

-- ---- all signals

AllSignals : (Signal → Type 0) → List Statement → ℕ → List Statement → Type 0
AllSignals P all id ss = AllByRecursion P (signals_in all id ss)

module _ (P : Signal → Type 0) (all : List Statement) (id : ℕ) where
  all_signals : ((line : ℕ) (body : Body) (more : List Signal) → AllByRecursion P more → AllByRecursion P (with_signal all id line body more)) → (ss : List Statement) → AllByRecursion P (signals_in all id ss)
  all_signals h [] = tt
  all_signals h (s ∷ ss) = h s.line s.body (signals_in all id ss) (all_signals h ss)

formed_with : (m : Message) (all : List Statement) (id line : ℕ) (body : Body) (more : List Signal) → AllByRecursion (IsFormedSignal m) more → AllByRecursion (IsFormedSignal m) (with_signal all id line body more)
formed_with m all id line (bodies.Signal name start len motorola signed factor offset low high unit receivers) more h = (
  record {
    initial = raw_of_kept len signed (whole_in (attribute_of start_attribute (is_signal id name) all));
    choices = choices_kept len signed (choices_of id name all);
    ranges = tt;
    selector = tt;
  },
  h,
)
formed_with m all id line (bodies.Message i name len) more h = tt
formed_with m all id line body more h = h

no_parent_with : (all : List Statement) (id line : ℕ) (body : Body) (more : List Signal) → AllByRecursion (λ s. s.parent ≡ None) more → AllByRecursion (λ s. s.parent ≡ None) (with_signal all id line body more)
no_parent_with all id line (bodies.Signal name start len motorola signed factor offset low high unit receivers) more h = (refl, h)
no_parent_with all id line (bodies.Message i name len) more h = tt
no_parent_with all id line body more h = h

-- ---- messages

cycle_kept : (o : Option ℤ) → cycle_from o ≢ Some 0
cycle_kept (Some (pos zero)) = λ e. cc
cycle_kept (Some (pos (suc n))) = by (int_le (pos 1) (pos (suc n)) && int_le (pos (suc n)) (pos 4294967295)) where
  by : (b : Bool) → cond b (Some (suc n)) None ≢ Some 0
  by true = λ e. cc
  by false = λ e. cc
cycle_kept (Some (negsuc n)) = λ e. cc
cycle_kept None = λ e. cc

module _ (P : Message → Type 0) (all : List Statement) where
  all_messages : ((line : ℕ) (body : Body) (rest : List Statement) (more : List Message) → AllByRecursion P more → AllByRecursion P (with_message all line body rest more)) → (ss : List Statement) → AllByRecursion P (messages_in all ss)
  all_messages h [] = tt
  all_messages h (s ∷ ss) = h s.line s.body ss (messages_in all ss) (all_messages h ss)

formed_message_with : (all : List Statement) (line : ℕ) (body : Body) (rest : List Statement) (more : List Message) → AllByRecursion IsFormedMessage more → AllByRecursion IsFormedMessage (with_message all line body rest more)
formed_message_with all line (bodies.Message id name len) rest more h = (
  record {
    cycle = cycle_kept (whole_in (attribute_of cycle_attribute (is_message id) all));
    signals = all_signals (IsFormedSignal (message_of all line id name len (signals_in all id rest))) all id (formed_with (message_of all line id name len (signals_in all id rest)) all id) rest;
  },
  h,
)
formed_message_with all line body rest more h = h

abbrev HasNone : Message → Type 0
HasNone m = AllByRecursion (λ s. s.parent ≡ None) m.signals

no_parents_with : (all : List Statement) (line : ℕ) (body : Body) (rest : List Statement) (more : List Message) → AllByRecursion HasNone more → AllByRecursion HasNone (with_message all line body rest more)
no_parents_with all line (bodies.Message id name len) rest more h = (all_signals (λ s. s.parent ≡ None) all id (no_parent_with all id) rest, h)
no_parents_with all line body rest more h = h

-- ---- the database

module _ {A : Type 0} (P : A → Type 0) (p : A → Bool) where
  kept_more : (b : Bool) (x : A) (more : List A) → P x → AllByRecursion P more → AllByRecursion P (cond b (x ∷ more) more)
  kept_more true x more h hs = (h, hs)
  kept_more false x more h hs = hs

  all_filter : (xs : List A) → AllByRecursion P xs → AllByRecursion P (filter p xs)
  all_filter [] h = tt
  all_filter (x ∷ xs) h = kept_more (p x) x (filter p xs) h.0 (all_filter xs h.1)

unless_late_kept : (P : Message → Type 0) (o : Option ℕ) (messages : List Message) (d : Database) → AllByRecursion P messages → unless_late o messages ≡ Ok d → AllByRecursion P d.messages
unless_late_kept P (Some line) messages d h e = absurd cc
unless_late_kept P None messages d h e = let same : record { messages = filter is_kept messages } ≡ d = cc in subst (λ (d : Database). AllByRecursion P d.messages) same (all_filter P is_kept messages h)

pub formed : (list : List Statement) (r : Result Database TextFault) → Gives (λ d. d) r (database_of list) → IfOk r (λ d. IsFormed d)
formed list (Ok d) e = unless_late_kept IsFormedMessage (late_signal list) (messages_in list list) d (all_messages IsFormedMessage list (formed_message_with list) list) e
formed list (Err f) e = tt

pub no_parents : (list : List Statement) (r : Result Database TextFault) → Gives (λ d. d) r (database_of list) → IfOk r (λ d. HasNoParents d)
no_parents list (Ok d) e = unless_late_kept HasNone (late_signal list) (messages_in list list) d (all_messages HasNone list (no_parents_with list) list) e
no_parents list (Err f) e = tt
