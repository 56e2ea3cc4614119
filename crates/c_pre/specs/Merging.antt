-- The lines of a file, in which adjacent lines of text are one.
use Rattle.std.specs.Prelude.{Bool, false, ◌&&◌, if◌then◌else◌, List, [], ◌∷◌, ◌++◌, codes}
use Rattle.c_text.specs.declared.token.Token.{Token}
use Rattle.c_text.specs.StandardHeader.{is_mark}

abbrev pub begins_directive : Token → Bool
begins_directive t = t.fresh && is_mark (codes "#") t.kind

abbrev pub is_directive : List Token → Bool
is_directive [] = false
is_directive (t ∷ ts) = begins_directive t

-- a line of text before lines that are merged
abbrev pub with_text : List Token → List (List Token) → List (List Token)
with_text ts [] = ts ∷ []
with_text ts (l ∷ ls) = if is_directive l then ts ∷ l ∷ ls else (ts ++ l) ∷ ls

abbrev pub merged : List (List Token) → List (List Token)
merged [] = []
merged (l ∷ ls) = if is_directive l then l ∷ merged ls else with_text l (merged ls)
