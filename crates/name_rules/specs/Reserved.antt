-- Words that no generated name may be (ISO/IEC 9899:1999, 6.4.1, 7.16, 7.17, 7.18, 7.21).
use Rattle.std.specs.Prelude.{ℕ, Bool, ◌||◌, List, [], ◌∷◌, ◌++◌, map, codes, bytes_eq}
use Rattle.std.specs.List.{list_any, flat_map}

unfoldable pub keywords : List (List ℕ)
keywords =
    codes "auto" ∷ codes "break" ∷ codes "case" ∷ codes "char" ∷ codes "const" ∷ codes "continue" ∷ codes "default" ∷ codes "do"
    ∷ codes "double" ∷ codes "else" ∷ codes "enum" ∷ codes "extern" ∷ codes "float" ∷ codes "for" ∷ codes "goto" ∷ codes "if"
    ∷ codes "inline" ∷ codes "int" ∷ codes "long" ∷ codes "register" ∷ codes "restrict" ∷ codes "return" ∷ codes "short"
    ∷ codes "signed" ∷ codes "sizeof" ∷ codes "static" ∷ codes "struct" ∷ codes "switch" ∷ codes "typedef" ∷ codes "union"
    ∷ codes "unsigned" ∷ codes "void" ∷ codes "volatile" ∷ codes "while" ∷ codes "_Bool" ∷ codes "_Complex" ∷ codes "_Imaginary"
    ∷ []

-- what the included headers and the error's macro give a meaning
unfoldable pub given_names : List (List ℕ)
given_names =
    codes "bool" ∷ codes "true" ∷ codes "false" ∷ codes "NULL" ∷ codes "EINVAL" ∷ codes "memset" ∷ codes "size_t" ∷ codes "ptrdiff_t"
    ∷ codes "wchar_t" ∷ codes "intptr_t" ∷ codes "uintptr_t" ∷ codes "intmax_t" ∷ codes "uintmax_t"
    ∷ []

-- each of these with each width behind it, and then this
abbrev pub at_widths : List (List ℕ) → List ℕ → List (List ℕ)
at_widths stems end = flat_map (λ stem. map (λ n. stem ++ n ++ end) (codes "8" ∷ codes "16" ∷ codes "32" ∷ codes "64" ∷ [])) stems

-- `int8_t`, `uint_fast64_t`, and all others of their kind
unfoldable pub sized_types : List (List ℕ)
sized_types =
    at_widths (codes "int" ∷ codes "uint" ∷ codes "int_least" ∷ codes "uint_least" ∷ codes "int_fast" ∷ codes "uint_fast" ∷ []) (codes "_t")

-- the static functions of a generated source, as `pack_left_shift_u8`
unfoldable pub helper_names : List (List ℕ)
helper_names =
    at_widths (codes "pack_left_shift_u" ∷ codes "pack_right_shift_u" ∷ codes "unpack_left_shift_u" ∷ codes "unpack_right_shift_u" ∷ []) []

-- the parameters of pack and unpack functions
unfoldable pub parameter_names : List (List ℕ)
parameter_names = codes "dst_p" ∷ codes "src_p" ∷ codes "size" ∷ []

abbrev pub is_among : List (List ℕ) → List ℕ → Bool
is_among names x = list_any (bytes_eq x) names

-- no name at file scope or in a struct is one of these
abbrev pub is_reserved : List ℕ → Bool
is_reserved x = is_among keywords x || is_among given_names x || is_among sized_types x

-- no local variable is one of these
abbrev pub is_reserved_local : List ℕ → Bool
is_reserved_local x = is_reserved x || is_among parameter_names x || is_among helper_names x
