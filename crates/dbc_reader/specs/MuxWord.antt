-- Words of multiplexed signals: `M`, or `m` and digits, or `m`, digits and `M`.
use Rattle.std.specs.Prelude.{ℕ, Bool, true, false, ◌&&◌, ◌||◌, ◌==◌, List, [], ◌∷◌, drop, bytes_eq}
use Rattle.std.specs.Char.{is_ascii_digit}
use Rattle.dbc_reader.specs.Tokens.{digits_length}

-- what follows the digits at the front
abbrev pub behind_digits : List ℕ → List ℕ
behind_digits bytes = drop (digits_length bytes) bytes

abbrev pub is_empty : List ℕ → Bool
is_empty [] = true
is_empty (b ∷ bs) = false

-- nothing, or `M`
abbrev pub is_end : List ℕ → Bool
is_end bytes = is_empty bytes || bytes_eq bytes (77 ∷ [])

-- at least one digit, and then nothing or `M`
abbrev pub is_number_of_child : List ℕ → Bool
is_number_of_child [] = false
is_number_of_child (b ∷ bs) = is_ascii_digit b && is_end (behind_digits (b ∷ bs))

-- `m` and what a child has behind it
abbrev pub is_child : List ℕ → Bool
is_child [] = false
is_child (b ∷ bs) = b == 109 && is_number_of_child bs

unfoldable pub is_mux : List ℕ → Bool
is_mux bytes = bytes_eq bytes (77 ∷ []) || is_child bytes
