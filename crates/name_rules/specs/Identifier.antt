-- The identifier of a text: six rules, one after the other. A line is the byte `_`.
use Rattle.std.specs.Prelude.{ℕ, ◌-◌, Bool, ◌||◌, ◌&&◌, ◌==◌, if◌then◌else◌, List, [], ◌∷◌, map, take, length, slice_index}
use Rattle.std.specs.Char.{is_ascii_digit, is_ascii_alphanumeric, is_ascii_uppercase, is_ascii_lowercase, to_ascii_lowercase}

-- each byte that is no ASCII letter or digit becomes a line
abbrev pub cleaned_byte : ℕ → ℕ
cleaned_byte b = if is_ascii_alphanumeric b then b else 95

-- a word ends between a and b: b is a capital, and a is a small letter or a digit, or a capital too where a small letter c follows b
abbrev pub is_break : ℕ → ℕ → ℕ → Bool
is_break a b c = is_ascii_uppercase b && (is_ascii_lowercase a || is_ascii_digit a || (is_ascii_uppercase a && is_ascii_lowercase c))

abbrev pub first_or_zero : List ℕ → ℕ
first_or_zero [] = 0
first_or_zero (b ∷ bs) = b

-- a line is put at each end of a word, where the byte a stands before the text
abbrev pub broken : ℕ → List ℕ → List ℕ
broken a [] = []
broken a (b ∷ bs) = if is_break a b (first_or_zero bs) then 95 ∷ b ∷ broken b bs else b ∷ broken b bs

-- each run of lines becomes one: a line is kept where no line follows
abbrev pub unrun : List ℕ → List ℕ
unrun [] = []
unrun (b ∷ bs) = if b == 95 && first_or_zero bs == 95 then unrun bs else b ∷ unrun bs

-- a line at either end is taken off
abbrev pub without_first_line : List ℕ → List ℕ
without_first_line [] = []
without_first_line (b ∷ bs) = if b == 95 then bs else b ∷ bs

abbrev pub without_last_line : List ℕ → List ℕ
without_last_line bs = if slice_index bs (length bs - 1) == 95 then take (length bs - 1) bs else bs

-- an empty text becomes x, and one that begins with a digit gets an x before it
abbrev pub begun : List ℕ → List ℕ
begun [] = 120 ∷ []
begun (b ∷ bs) = if is_ascii_digit b then 120 ∷ b ∷ bs else b ∷ bs

-- the first 128 bytes are kept
unfoldable pub cut_short : List ℕ → List ℕ
cut_short bs = take 128 bs

abbrev pub identifier_of : List ℕ → List ℕ
identifier_of text =
    cut_short (begun (map to_ascii_lowercase (without_last_line (without_first_line (unrun (broken 0 (map cleaned_byte text)))))))
