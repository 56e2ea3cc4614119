-- Parts of statements, and what is seen in what they keep.
use Rattle.std.specs.Prelude.{◌⊎◌, ℕ, List, [], ◌∷◌, codes, map, Option, Some, None}
use Rattle.std.proofs.Common.{inl, inr}
use Rattle.limit_fraction.specs.declared.number.Decimal.{Decimal}
use Rattle.limit_fraction.specs.Negated.{negated}
use Rattle.can_model.specs.declared.database.MuxRange.{MuxRange}
use Rattle.dbc_reader.specs.declared.statement.ChoicePair.{ChoicePair}
use Rattle.dbc_reader.specs.declared.statement.Value.{Value}
use Rattle.dbc_reader.specs.declared.statement.Value.TheVariants as values
use Rattle.dbc_reader.specs.declared.statement.Owner.{Owner}
use Rattle.dbc_reader.specs.declared.statement.Owner.TheVariants as owners
use Rattle.dbc_reader.specs.Template.{Test, is_string, is_word, is_name, is_word_in, is_mark, is_number_or, word, string, mark, whole_number, decimal, Template, done, take, both, choose, repeat, Kept}

-- the next token is this word
abbrev pub is_the : List ℕ → Test
is_the w = is_word_in (w ∷ [])

-- whole numbers of 32, 16 and 64 bits
abbrev pub whole_32 : Template
whole_32 = take (whole_number 4294967295)

abbrev pub whole_16 : Template
whole_16 = take (whole_number 65535)

abbrev pub whole_64 : Template
whole_64 = take (whole_number 18446744073709551615)

-- what may stand there or not
abbrev pub option_of : {A : Type 0} → A ⊎ Unit {0} → Option A
option_of (inl x) = Some x
option_of (inr x) = None

-- `-`, or an optional `+`, and a number
abbrev pub value : Template
value = both (choose (is_mark 45) (take (mark 45)) (choose (is_mark 43) (take (mark 43)) done)) (take decimal)

abbrev pub value_of : Kept value → Decimal
value_of (inl minus, size) = negated size
value_of (inr plus, size) = size

-- two values in brackets with a mark between them
abbrev pub enclosed : ℕ → ℕ → ℕ → Template
enclosed left between right = both (take (mark left)) (both value (both (take (mark between)) (both value (take (mark right)))))

abbrev pub enclosed_of : (left between right : ℕ) → Kept (enclosed left between right) → Decimal × Decimal
enclosed_of left between right (o, (a, (b, (c, d)))) = (value_of a, value_of c)

-- nothing, or a node, a message, a signal or a variable
abbrev pub target : Template
target =
    choose (is_the (codes "BU_")) (both (take word) (take word))
    (choose (is_the (codes "BO_")) (both (take word) whole_32)
    (choose (is_the (codes "SG_")) (both (take word) (both whole_32 (take word)))
    (choose (is_the (codes "EV_")) (both (take word) (take word)) done)))

abbrev pub owner_of : Kept target → Owner
owner_of (inl (w, name)) = owners.Node name
owner_of (inr (inl (w, id))) = owners.Message id
owner_of (inr (inr (inl (w, (id, name))))) = owners.Signal id name
owner_of (inr (inr (inr (inl (w, name))))) = owners.Variable name
owner_of (inr (inr (inr (inr nothing)))) = owners.None

-- a string, or a value
abbrev pub attribute_value : Template
attribute_value = choose is_string (take string) value

abbrev pub attribute_value_of : Kept attribute_value → Value
attribute_value_of (inl text) = values.String text
attribute_value_of (inr v) = values.Number (value_of v)

-- a string, a word or a value
abbrev pub default_value : Template
default_value = choose is_string (take string) (choose is_word (take word) value)

abbrev pub default_value_of : Kept default_value → Value
default_value_of (inl text) = values.String text
default_value_of (inr (inl w)) = values.Word w
default_value_of (inr (inr v)) = values.Number (value_of v)

-- a value and its name
abbrev pub pair : Template
pair = both value (take string)

abbrev pub pair_of : Kept pair → ChoicePair
pair_of (v, text) = record { value = value_of v; text = text }

-- pairs, as long as a number or a sign follows
abbrev pub pairs : Template
pairs = repeat (is_number_or (43 ∷ 45 ∷ [])) pair

abbrev pub pairs_of : Kept pairs → List ChoicePair
pairs_of ps = map pair_of ps

-- two whole numbers with `-` between them
abbrev pub range : Template
range = both whole_64 (both (take (mark 45)) whole_64)

abbrev pub range_of : Kept range → MuxRange
range_of (a, (m, b)) = record { first = a; last = b }

-- `,` and one more
abbrev pub with_comma : Template → Template
with_comma t = both (take (mark 44)) t

-- further ones, each behind a `,`
abbrev pub further : Template → Template
further t = repeat (is_mark 44) (with_comma t)

-- a word, and a range, behind its `,`
abbrev pub word_behind : Kept (with_comma (take word)) → List ℕ
word_behind (m, w) = w

abbrev pub range_behind : Kept (with_comma range) → MuxRange
range_behind (m, r) = range_of r

-- a range, or a word, with those behind it
abbrev pub with_ranges : MuxRange → Kept (further range) → List MuxRange
with_ranges first rs = first ∷ map range_behind rs

abbrev pub with_words : List ℕ → Kept (further (take word)) → List (List ℕ)
with_words first ws = first ∷ map word_behind ws

-- ranges, and words, one or more with `,` between them
abbrev pub some_ranges : Template
some_ranges = both range (further range)

abbrev pub some_ranges_of : Kept some_ranges → List MuxRange
some_ranges_of (r, rs) = with_ranges (range_of r) rs

abbrev pub some_words : Template
some_words = both (take word) (further (take word))

abbrev pub some_words_of : Kept some_words → List (List ℕ)
some_words_of (w, ws) = with_words w ws

-- words, where the first is no keyword; or nothing
abbrev pub receivers : Template
receivers = choose is_name some_words done

abbrev pub receivers_of : Kept receivers → List (List ℕ)
receivers_of (inl ws) = some_words_of ws
receivers_of (inr nothing) = []
