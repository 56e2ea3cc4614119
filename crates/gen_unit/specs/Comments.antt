-- Comments of C (ISO/IEC 9899:1999, 6.4.9), as generated texts have them.
use Rattle.std.specs.Prelude.{ℕ, ◌||◌, ◌==◌, nat_lt, if◌then◌else◌, List, [], ◌∷◌, map, codes}
use Rattle.c_printed.specs.PrintedUnit.{Part, comment}

-- what every text begins with
unfoldable pub opening_text : List ℕ
opening_text = codes "Generated from a CAN database. Do not edit."

-- what may stand in a comment: no byte that could end it, splice a line or begin a trigraph, and none outside ASCII's printed ones
abbrev pub shown_byte : ℕ → ℕ
shown_byte b = if nat_lt b 32 || nat_lt 126 b || b == 42 || b == 63 || b == 92 then 46 else b

-- a comment with these words, as far as they may stand there
abbrev pub remark : List ℕ → Part
remark words = comment (map shown_byte words)

-- a comment follows a blank, where there is one
abbrev pub after_blank : List ℕ → List ℕ
after_blank [] = []
after_blank (b ∷ bs) = 32 ∷ b ∷ bs
