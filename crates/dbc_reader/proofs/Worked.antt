-- Worked values of the definitions, by computation.
use native.Mathlib.Decide.{dec_lt, dec_le, ℕ_discrete}
use Rattle.std.proofs.Common.{◌≡◌, [], ◌∷◌, Ok, Err, refl}
use Rattle.std.specs.Prelude.{codes}
use Rattle.std.specs.declared.option.Option.TheVariants.{None, Some}
use Rattle.can_model.specs.declared.refusal.TextKind.TheVariants.{BadNumber, Unexpected, NotYet}
use Rattle.limit_fraction.specs.Decimal.{kept_parts}
use Rattle.limit_fraction.specs.Reading.{decimal_of, without_tens}
use Rattle.dbc_reader.specs.declared.statement.Body.TheVariants.{Comment, Choices, Skipped, ValueType, Ranges}
use Rattle.dbc_reader.specs.declared.statement.Owner.TheVariants as owners
use Rattle.dbc_reader.specs.Keywords.{keyword}
use Rattle.dbc_reader.specs.MuxWord.{is_mux}
use Rattle.dbc_reader.specs.Number.{whole_in}
use Rattle.dbc_reader.specs.Reading.{fault_at, rounds_at, too_large, statements_of}

-- a mark is optional, a lone `;` is a statement, and so is one of no known word
of_a_value_type : statements_of (codes "SIG_VALTYPE_ 1 A : 2; ; FOO 1 ;") ≡ Ok (record { line = 1; body = ValueType 1 (codes "A") 2 } ∷ record { line = 1; body = Skipped } ∷ record { line = 1; body = Skipped } ∷ [])
unfolding too_large rounds_at keyword whole_in decimal_of kept_parts without_tens dec_lt dec_le ℕ_discrete
of_a_value_type = refl

of_ranges : statements_of (codes "SG_MUL_VAL_ 1 A B 1-2, 3-4;") ≡ Ok (record { line = 1; body = Ranges 1 (codes "A") (codes "B") (record { first = 1; last = 2 } ∷ record { first = 3; last = 4 } ∷ []) } ∷ [])
unfolding too_large rounds_at keyword whole_in decimal_of kept_parts without_tens dec_lt dec_le ℕ_discrete
of_ranges = refl

-- the names of a target may be keywords, and the line is that of the first token
of_a_comment : statements_of (codes "\nCM_ SG_ 7 SG_ \"a;b\"\n;") ≡ Ok (record { line = 2; body = Comment (owners.Signal 7 (codes "SG_")) (codes "a;b") } ∷ [])
unfolding too_large rounds_at keyword whole_in decimal_of kept_parts without_tens dec_lt dec_le ℕ_discrete
of_a_comment = refl

-- a variable's values, and none
of_no_choices : statements_of (codes "VAL_ A ; VAL_ 1 A ;") ≡ Ok (record { line = 1; body = Choices None (codes "A") [] } ∷ record { line = 1; body = Choices (Some 1) (codes "A") [] } ∷ [])
unfolding too_large rounds_at keyword whole_in decimal_of kept_parts without_tens dec_lt dec_le ℕ_discrete
of_no_choices = refl

-- ---- faults

-- words of multiplexed signals, whatever their digits, and a word that is none
of_a_child : statements_of (codes "SG_ A m18446744073709551616M : 0") ≡ Err (fault_at NotYet 1)
unfolding too_large rounds_at keyword is_mux whole_in decimal_of kept_parts without_tens dec_lt dec_le ℕ_discrete
of_a_child = refl

of_another_word : statements_of (codes "SG_ A mm : 0") ≡ Err (fault_at Unexpected 1)
unfolding too_large rounds_at keyword is_mux whole_in decimal_of kept_parts without_tens dec_lt dec_le ℕ_discrete
of_another_word = refl

-- no number may stand behind the name of a signal; it may where a choice is wanted
of_a_number : statements_of (codes "SG_ A 1 : 0") ≡ Err (fault_at Unexpected 1)
unfolding too_large rounds_at keyword is_mux whole_in decimal_of kept_parts without_tens dec_lt dec_le ℕ_discrete
of_a_number = refl

of_a_large_number : statements_of (codes "VAL_ 4294967296 A ;") ≡ Err (fault_at BadNumber 1)
unfolding too_large rounds_at keyword whole_in decimal_of kept_parts without_tens dec_lt dec_le ℕ_discrete
of_a_large_number = refl

-- the end inside a statement, at its own line
of_the_end : statements_of (codes "CM_ \"a\"\n\n") ≡ Err (fault_at Unexpected 3)
unfolding too_large rounds_at keyword whole_in decimal_of kept_parts without_tens dec_lt dec_le ℕ_discrete
of_the_end = refl
