-- Line splices and trigraphs (ISO/IEC 9899:1999, 5.1.1.2 and 5.2.1.1), which are refused wherever they stand.
use Rattle.std.specs.Prelude.{ℕ, ◌+◌, Bool, not, ◌||◌, ◌&&◌, ◌==◌, if◌then◌else◌, List, [], ◌∷◌, Option, Some, None}
use Rattle.c_text.specs.declared.place.Place.{Place}
use Rattle.c_text.specs.Characters.{is_line_end, first_is}

-- the line of the byte behind one
abbrev pub line_after : ℕ → ℕ → ℕ
line_after line b = if is_line_end b then line + 1 else line

-- a backslash, or the first of two question marks
abbrev pub begins_splice : ℕ → List ℕ → Bool
begins_splice b bs = b == 92 || (b == 63 && first_is 63 bs)

-- the first of these in the bytes, of which the first stands on this line at this offset
abbrev pub first_splice : Bool → ℕ → ℕ → List ℕ → Option Place
first_splice header line at [] = None
first_splice header line at (b ∷ bs) =
    if begins_splice b bs then Some (record { header = header; line = line; start = at; end = at + 1 })
    else first_splice header (line_after line b) (at + 1) bs

-- a byte that begins none of these, whatever follows
abbrev pub is_plain : ℕ → Bool
is_plain b = not (b == 92) && not (b == 63)
