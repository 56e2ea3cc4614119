-- The standard headers that may be included, and what their names stand for (ISO/IEC 9899:1999, 7.16, 7.17, 7.18, 7.21).
use Rattle.std.specs.Prelude.{ℕ, Bool, true, false, ◌&&◌, if◌then◌else◌, List, [], ◌∷◌, codes, bytes_eq, Option, Some, None}
use Rattle.c_text.specs.declared.token.TokenKind.{TokenKind}
use Rattle.c_text.specs.declared.token.TokenKind.TheVariants.{Word, Constant as Number, Mark, TypeName, Null, Memset}
use Rattle.c_text.specs.declared.token.Spelled.TheVariants.{Exact, Size}
use Rattle.cg_out.specs.Words.{look_up}

pub data Header : Type 0 where
  stdbool_h : Header
  stddef_h : Header
  stdint_h : Header
  string_h : Header

-- ---- tokens with a given text

abbrev pub is_word : List ℕ → TokenKind → Bool
is_word w (Word name) = bytes_eq name w
is_word w other = false

abbrev pub is_mark : List ℕ → TokenKind → Bool
is_mark m (Mark spelling) = bytes_eq spelling m
is_mark m other = false

-- ---- headers by their names

-- the name with `.h` behind it
abbrev pub is_header : List ℕ → List TokenKind → Bool
is_header w (name ∷ point ∷ h ∷ []) = is_word w name && is_mark (codes ".") point && is_word (codes "h") h
is_header w other = false

unfoldable pub header_of : List TokenKind → Option Header
header_of ks =
    if is_header (codes "stdbool") ks then Some stdbool_h
    else if is_header (codes "stddef") ks then Some stddef_h
    else if is_header (codes "stdint") ks then Some stdint_h
    else if is_header (codes "string") ks then Some string_h
    else None

-- ---- what a header gives

abbrev pub truth : ℕ → TokenKind
truth value = Number (record { value = value; base = 10; unsigned = false; longs = 0 })

-- its names, and the token that each becomes
abbrev pub names_of : Header → List (List ℕ × TokenKind)
names_of stdbool_h = (codes "bool", Word (codes "_Bool")) ∷ (codes "true", truth 1) ∷ (codes "false", truth 0) ∷ []
names_of stddef_h = (codes "size_t", TypeName Size) ∷ (codes "NULL", Null) ∷ []
names_of stdint_h =
    (codes "int8_t", TypeName (Exact 8 true)) ∷ (codes "int16_t", TypeName (Exact 16 true)) ∷ (codes "int32_t", TypeName (Exact 32 true)) ∷ (codes "int64_t", TypeName (Exact 64 true))
    ∷ (codes "uint8_t", TypeName (Exact 8 false)) ∷ (codes "uint16_t", TypeName (Exact 16 false)) ∷ (codes "uint32_t", TypeName (Exact 32 false)) ∷ (codes "uint64_t", TypeName (Exact 64 false)) ∷ []
names_of string_h = (codes "size_t", TypeName Size) ∷ (codes "NULL", Null) ∷ (codes "memset", Memset) ∷ []

-- the token that a name becomes behind a header
unfoldable pub kind_in : Header → List ℕ → Option TokenKind
kind_in h name = look_up name (names_of h)
