-- Punctuators (ISO/IEC 9899:1999, 6.4.6), without digraphs.
use Rattle.std.specs.Prelude.{ℕ, Bool, true, false, ◌&&◌, ◌==◌, if◌then◌else◌, List, [], ◌∷◌, ◌++◌, codes, Option, Some, None}
use Rattle.std.specs.List.{list_any}

-- those of three characters, of two, and of one
abbrev pub threes : List (List ℕ)
threes = codes "..." ∷ codes "<<=" ∷ codes ">>=" ∷ []

abbrev pub twos : List (List ℕ)
twos =
    codes "->" ∷ codes "++" ∷ codes "--" ∷ codes "<<" ∷ codes ">>" ∷ codes "<=" ∷ codes ">=" ∷ codes "==" ∷ codes "!=" ∷ codes "&&" ∷ codes "||"
    ∷ codes "*=" ∷ codes "/=" ∷ codes "%=" ∷ codes "+=" ∷ codes "-=" ∷ codes "&=" ∷ codes "^=" ∷ codes "|=" ∷ codes "##" ∷ []

abbrev pub ones : List (List ℕ)
ones =
    codes "[" ∷ codes "]" ∷ codes "(" ∷ codes ")" ∷ codes "{" ∷ codes "}" ∷ codes "." ∷ codes "&" ∷ codes "*" ∷ codes "+" ∷ codes "-" ∷ codes "~" ∷ codes "!"
    ∷ codes "/" ∷ codes "%" ∷ codes "<" ∷ codes ">" ∷ codes "^" ∷ codes "|" ∷ codes "?" ∷ codes ":" ∷ codes ";" ∷ codes "=" ∷ codes "," ∷ codes "#" ∷ []

-- the other spellings of [ ] { } and # (6.4.6p3), which are refused; the one of ## begins with that of #
abbrev pub digraphs : List (List ℕ)
digraphs = codes "<:" ∷ codes ":>" ∷ codes "<%" ∷ codes "%>" ∷ codes "%:" ∷ []

-- the spelling stands in front
abbrev pub begins : List ℕ → List ℕ → Bool
begins [] bs = true
begins (x ∷ xs) [] = false
begins (x ∷ xs) (b ∷ bs) = b == x && begins xs bs

abbrev pub first_in : List (List ℕ) → List ℕ → Option (List ℕ)
first_in [] bs = None
first_in (x ∷ xs) bs = if begins x bs then Some x else first_in xs bs

-- the longest punctuator in front, where that is no digraph
unfoldable pub mark_at : List ℕ → Option (List ℕ)
mark_at bs =
    if list_any (λ d. begins d bs) digraphs then None
    else first_in (threes ++ (twos ++ ones)) bs
