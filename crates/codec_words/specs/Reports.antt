-- What `encode` and `decode` tell.
use Rattle.std.specs.Prelude.{◌≡◌, ℕ, nat_lt, List, [], ◌∷◌, ◌++◌, map, length, codes, Option, Some, None, ℤ, MatchBool, MatchOption}
use Rattle.std.specs.Fmt.{signed_decimal}
use Rattle.hex.specs.Hex.{encode_lower}
use Rattle.can_model.specs.declared.database.Message.{Message}
use Rattle.can_model.specs.declared.database.Signal.{Signal}
use Rattle.can_model.specs.Frame.{IsFrame, AreRawValues}
use Rattle.codec_words.specs.NamedValues.{values_of}

-- the bytes of a frame in hexadecimal digits, small ones
unfoldable pub frame_report : List ℕ → List ℕ
frame_report bytes = encode_lower bytes ++ codes "\n"

-- the report of the frame in which the signals have the values that words give them, and 0 where they give none; none where a word is wrong
abbrev pub IsFrameReport : Message → List (List ℕ) → Option (List ℕ) → Type 0
IsFrameReport m words report =
    MatchOption (values_of m words) (report ≡ None) (λ values. (bytes : List ℕ) × IsFrame m (map Some values) bytes × (report ≡ Some (frame_report bytes)))

-- a signal's name and value on a line; nothing where it has no value
unfoldable pub value_line : Signal → ℤ → List ℕ
value_line s v = s.name ++ codes "=" ++ signed_decimal v ++ codes "\n"

abbrev pub value_lines : List Signal → List (Option ℤ) → List ℕ
value_lines [] values = []
value_lines (s ∷ ss) [] = []
value_lines (s ∷ ss) (None ∷ values) = value_lines ss values
value_lines (s ∷ ss) (Some v ∷ values) = value_line s v ++ value_lines ss values

-- the report of the values in a frame's first bytes; none where it has fewer bytes than the message
abbrev pub IsValuesReport : Message → List ℕ → Option (List ℕ) → Type 0
IsValuesReport m bytes report =
    MatchBool (nat_lt (length bytes) m.length) (report ≡ None)
    ((values : List (Option ℤ)) × AreRawValues m bytes values × (report ≡ Some (value_lines m.signals values)))
