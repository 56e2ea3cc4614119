-- Worked values of the definitions, by computation.
use Rattle.std.proofs.Common.{◌≡◌, ℕ, false, List, [], ◌∷◌, Some, None, Ok, Err, refl, pos}
use Rattle.std.specs.Prelude.{codes, ◌+◌}
use Rattle.limit_fraction.specs.declared.number.Decimal.{Decimal}
use Rattle.limit_fraction.specs.Decimal.{zero_decimal}
use Rattle.limit_fraction.specs.Negated.{negated}
use Rattle.can_model.specs.declared.refusal.TextKind.TheVariants.{LateSignal}
use Rattle.dbc_reader.specs.declared.statement.ChoicePair.{ChoicePair}
use Rattle.dbc_reader.specs.declared.statement.Owner.TheVariants as owners
use Rattle.dbc_reader.specs.declared.statement.Statement.{Statement}
use Rattle.dbc_reader.specs.declared.statement.Body.{Body}
use Rattle.dbc_reader.specs.declared.statement.Body.TheVariants as bodies
use Rattle.dbc_reader.specs.declared.statement.Value.TheVariants as values
use Rattle.dbc_build.specs.Facts.{is_message, attribute_of, choices_of}
use Rattle.dbc_build.specs.Reading.{cycle_attribute, whole_in, cycle_from, long_name, initial_from, limit_from}
use Rattle.dbc_build.specs.DatabaseOfStatements.{message_of, is_placeholder, database_of}

-- the bodies on lines 1, 2 and so on
unfoldable on_lines : ℕ → List Body → List Statement
on_lines line [] = []
on_lines line (body ∷ more) = record { line = line; body = body } ∷ on_lines (line + 1) more

-- BO_ with this id and name
unfoldable bo : ℕ → List ℕ → Body
bo id name = bodies.Message id name 8

-- SG_ of 8 bits with this name
unfoldable sg : List ℕ → Body
sg name = bodies.Signal name 0 8 false false zero_decimal zero_decimal zero_decimal (negated zero_decimal) [] []

-- ---- the last one counts

of_two_choices : (first last : List ChoicePair) → choices_of 1 (codes "S") (on_lines 1 (bodies.Choices (Some 1) (codes "S") first ∷ bodies.Choices (Some 1) (codes "S") last ∷ [])) ≡ Some last
unfolding on_lines
of_two_choices first last = refl

-- also where it does not count: a word is no cycle, and the default does not step in
of_a_word : (d : Decimal) (word : List ℕ) → cycle_from (whole_in (attribute_of cycle_attribute (is_message 1) (on_lines 1 (bodies.Default cycle_attribute (values.Number d) ∷ bodies.Attribute cycle_attribute (owners.Message 1) (values.Word word) ∷ [])))) ≡ None
unfolding on_lines
of_a_word d word = refl

-- ---- what does not count

of_an_empty_name : long_name (codes "S") (Some (values.String [])) ≡ codes "S"
of_an_empty_name = refl

of_no_limits : limit_from zero_decimal (negated zero_decimal) zero_decimal ≡ None
of_no_limits = refl

of_a_large_start : initial_from 8 false (Some (pos 256)) ≡ None
of_a_large_start = refl

of_a_start : initial_from 8 false (Some (pos 255)) ≡ Some (pos 255)
of_a_start = refl

of_an_unknown_signal : (text : List ℕ) → database_of (on_lines 1 (bo 1 (codes "M") ∷ sg (codes "S") ∷ bodies.Comment (owners.Signal 1 (codes "T")) text ∷ [])) ≡ database_of (on_lines 1 (bo 1 (codes "M") ∷ sg (codes "S") ∷ []))
unfolding on_lines bo sg is_placeholder
of_an_unknown_signal text = refl

-- ---- messages

-- the placeholder is dropped by its long name
of_the_placeholder : database_of (on_lines 1 (bo 1 (codes "M") ∷ sg (codes "S") ∷ bodies.Attribute (codes "SystemMessageLongSymbol") (owners.Message 1) (values.String (codes "VECTOR__INDEPENDENT_SIG_MSG")) ∷ [])) ≡ Ok (record { messages = [] })
unfolding on_lines bo sg is_placeholder
of_the_placeholder = refl

-- bit 31 of an id is taken off
of_an_extended_id : (message_of [] 1 2147483905 (codes "M") 8 []).id ≡ 257
of_an_extended_id = refl

of_a_late_signal : database_of (on_lines 1 (bodies.Skipped ∷ sg (codes "S") ∷ bo 1 (codes "M") ∷ [])) ≡ Err (record { kind = LateSignal; line = 2 })
unfolding on_lines sg bo
of_a_late_signal = refl
