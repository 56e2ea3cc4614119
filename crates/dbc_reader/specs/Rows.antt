-- The statements: for each first word the template behind it, and what is made of what that keeps.
use Rattle.std.specs.Prelude.{ℕ, ◌==◌, List, [], ◌∷◌, codes}
use Rattle.can_model.specs.declared.refusal.TextKind.TheVariants.{NotYet}
use Rattle.limit_fraction.specs.declared.number.Decimal.{Decimal}
use Rattle.dbc_reader.specs.declared.statement.Body.{Body}
use Rattle.dbc_reader.specs.declared.statement.Body.TheVariants as bodies
use Rattle.dbc_reader.specs.declared.rows.Layout.{Layout}
use Rattle.dbc_reader.specs.Template.{is_string, is_number, is_name, is_mark, is_number_or, unless_word, unless_mark, is_mux_word, word, string, mark, sign, whole_number, Template, done, take, both, choose, skip, stop, Kept}
use Rattle.dbc_reader.specs.Parts.{whole_32, whole_16, option_of, enclosed, enclosed_of, target, owner_of, attribute_value, attribute_value_of, default_value, default_value_of, pairs, pairs_of, some_ranges, some_ranges_of, receivers, receivers_of}

-- `VERSION`: an optional string
abbrev pub version : Template
version = choose is_string (take string) done

-- `NS_`: all tokens up to the next of these words
abbrev pub sections : Template
sections = skip (unless_word (codes "BS_" ∷ codes "BU_" ∷ codes "BO_" ∷ []))

-- `BS_`: `:` and a run of numbers, `:` and `,`
abbrev pub speeds : Template
speeds = both (take (mark 58)) (skip (is_number_or (58 ∷ 44 ∷ [])))

-- `BU_`: `:` and a run of words that are no keywords
abbrev pub nodes : Template
nodes = both (take (mark 58)) (skip is_name)

-- `BO_`: the id, the name, `:`, the length and the sender
abbrev pub message : Template
message = both whole_32 (both (take word) (both (take (mark 58)) (both whole_16 (take word))))

abbrev pub message_body : Kept message → Body
message_body (id, (name, (m, (len, sender)))) = bodies.Message id name len

-- the start, `|`, the length, `@`, 1 for Intel or 0 for Motorola, and the sign
abbrev pub layout : Template
layout = both whole_16 (both (take (mark 124)) (both whole_16 (both (take (mark 64)) (both (take (whole_number 1)) (take sign)))))

abbrev pub layout_of : Kept layout → Layout
layout_of (start, (b, (len, (at, (order, minus))))) = record { start = start; length = len; motorola = order == 0; signed = minus }

-- factor and offset, and limits
abbrev pub scaling : Template
scaling = enclosed 40 44 41

abbrev pub limits : Template
limits = enclosed 91 124 93

-- `SG_`: the name, `:`, the layout, the scaling, the limits, the unit and the receivers; words of multiplexed signals are not read yet
abbrev pub signal : Template
signal = both (take word) (both (stop is_mux_word NotYet) (both (take (mark 58)) (both layout (both scaling (both limits (both (take string) receivers))))))

abbrev pub signal_from : List ℕ → Layout → Decimal × Decimal → Decimal × Decimal → List ℕ → List (List ℕ) → Body
signal_from name l scaling limits unit rs =
    bodies.Signal name l.start l.length l.motorola l.signed scaling.0 scaling.1 limits.0 limits.1 unit rs

abbrev pub signal_body : Kept signal → Body
signal_body (name, (x, (c, (l, (s, (r, (unit, rs))))))) =
    signal_from name (layout_of l) (enclosed_of 40 44 41 s) (enclosed_of 91 124 93 r) unit (receivers_of rs)

-- `CM_`: a target, a string and `;`
abbrev pub comment : Template
comment = both target (both (take string) (take (mark 59)))

abbrev pub comment_body : Kept comment → Body
comment_body (o, (text, m)) = bodies.Comment (owner_of o) text

-- `BA_DEF_DEF_`: an attribute's name, its value where no other is given, and `;`
abbrev pub default : Template
default = both (take string) (both default_value (take (mark 59)))

abbrev pub default_body : Kept default → Body
default_body (name, (v, m)) = bodies.Default name (default_value_of v)

-- `BA_`: an attribute's name, a target, its value and `;`
abbrev pub attribute : Template
attribute = both (take string) (both target (both attribute_value (take (mark 59))))

abbrev pub attribute_body : Kept attribute → Body
attribute_body (name, (o, (v, m))) = bodies.Attribute name (owner_of o) (attribute_value_of v)

-- a message's id, where a number follows
abbrev pub choices_id : Template
choices_id = choose is_number whole_32 done

-- `VAL_`: an optional id, a name, pairs and `;`
abbrev pub choices : Template
choices = both choices_id (both (take word) (both pairs (take (mark 59))))

abbrev pub choices_body : Kept choices → Body
choices_body (id, (name, (ps, m))) = bodies.Choices (option_of id) name (pairs_of ps)

-- `SIG_VALTYPE_`: an id, a name, an optional `:`, a number up to 255 and `;`
abbrev pub value_type : Template
value_type = both whole_32 (both (take word) (both (choose (is_mark 58) (take (mark 58)) done) (both (take (whole_number 255)) (take (mark 59)))))

abbrev pub value_type_body : Kept value_type → Body
value_type_body (id, (name, (c, (n, m)))) = bodies.ValueType id name n

-- `SG_MUL_VAL_`: an id, a name, the name of its selector, ranges with `,` between them, and `;`
abbrev pub ranges : Template
ranges = both whole_32 (both (take word) (both (take word) (both some_ranges (take (mark 59)))))

abbrev pub ranges_body : Kept ranges → Body
ranges_body (id, (child, (selector, (rs, m)))) = bodies.Ranges id child selector (some_ranges_of rs)

-- any other statement: all tokens up to and with the next `;`
abbrev pub other : Template
other = both (skip (unless_mark 59)) (take (mark 59))

-- a statement of one kind: its first word, the template behind it, and what that makes
pub record Row : Type 0 where
  pub first : List ℕ
  pub template : Template
  pub body : Kept template → Body

abbrev pub nothing_kept : {A : Type 0} → A → Body
nothing_kept x = bodies.Skipped

-- statements of what is sent, then those that say more of it
abbrev pub rows_of_facts : List Row
rows_of_facts =
    record { first = codes "CM_"; template = comment; body = comment_body }
    ∷ record { first = codes "BA_DEF_DEF_"; template = default; body = default_body }
    ∷ record { first = codes "BA_"; template = attribute; body = attribute_body }
    ∷ record { first = codes "VAL_"; template = choices; body = choices_body }
    ∷ record { first = codes "SIG_VALTYPE_"; template = value_type; body = value_type_body }
    ∷ record { first = codes "SG_MUL_VAL_"; template = ranges; body = ranges_body }
    ∷ []

abbrev pub rows : List Row
rows =
    record { first = codes "VERSION"; template = version; body = nothing_kept }
    ∷ record { first = codes "NS_"; template = sections; body = nothing_kept }
    ∷ record { first = codes "BS_"; template = speeds; body = nothing_kept }
    ∷ record { first = codes "BU_"; template = nodes; body = nothing_kept }
    ∷ record { first = codes "BO_"; template = message; body = message_body }
    ∷ record { first = codes "SG_"; template = signal; body = signal_body }
    ∷ rows_of_facts
