-- A whole header, cut and preprocessed by computation.
use Rattle.std.proofs.Common.{◌≡◌, refl, ℕ, Bool, true, false, List, [], ◌∷◌, ◌++◌, Ok}
use Rattle.std.specs.Prelude.{codes}
use Rattle.c_text.specs.declared.token.TokenKind.{TokenKind}
use Rattle.c_text.specs.declared.token.TokenKind.TheVariants.{Constant as Number, Mark}
use Rattle.c_text.specs.IntegerConstant.{constant_of, value_limit}
use Rattle.c_text.specs.Punctuator.{mark_at}
use Rattle.c_text.specs.StandardHeader.{header_of, kind_in}
use Rattle.c_text.specs.Directive.{directive_word}
use Rattle.c_text.specs.Preprocessing.{preprocessed_texts}
use Rattle.c_text.specs.BarePreprocessing.{bare_preprocessed}

-- lines, each with its end
abbrev text_of : List (List ℕ) → List ℕ
text_of [] = []
text_of (l ∷ ls) = l ++ 10 ∷ text_of ls

abbrev header : List ℕ
header = text_of
    (codes "/* Generated from a CAN database. Do not edit. */"
    ∷ []
    ∷ codes "#ifndef CAN_H"
    ∷ codes "#define CAN_H"
    ∷ []
    ∷ codes "#include <stdbool.h>"
    ∷ codes "#include <stddef.h>"
    ∷ codes "#include <stdint.h>"
    ∷ []
    ∷ codes "#ifndef EINVAL"
    ∷ codes "#define EINVAL 22"
    ∷ codes "#endif"
    ∷ []
    ∷ codes "/* Message Ping */"
    ∷ codes "#define CAN_PING_FRAME_ID (0x123u)"
    ∷ codes "#define CAN_PING_LENGTH (2u)"
    ∷ codes "#define CAN_PING_IS_EXTENDED (0)"
    ∷ []
    ∷ codes "/* Message Pong */"
    ∷ codes "#define CAN_PONG_FRAME_ID (0x1u)"
    ∷ codes "#define CAN_PONG_LENGTH (0u)"
    ∷ codes "#define CAN_PONG_IS_EXTENDED (1)"
    ∷ []
    ∷ codes "#endif"
    ∷ [])

-- #include "can.h"
abbrev source : List ℕ
source = text_of ((codes "#include " ++ 34 ∷ (codes "can.h" ++ 34 ∷ [])) ∷ [])

abbrev in_brackets : ℕ → ℕ → Bool → List TokenKind
in_brackets value base unsigned = Mark (codes "(") ∷ Number (record { value = value; base = base; unsigned = unsigned; longs = 0 }) ∷ Mark (codes ")") ∷ []

header_of_two_messages : bare_preprocessed (preprocessed_texts header (codes "can.h") source) ≡ Ok (record {
  tokens = [];
  macros =
      (codes "CAN_H", [])
      ∷ (codes "EINVAL", Number (record { value = 22; base = 10; unsigned = false; longs = 0 }) ∷ [])
      ∷ (codes "CAN_PING_FRAME_ID", in_brackets 291 16 true)
      ∷ (codes "CAN_PING_LENGTH", in_brackets 2 10 true)
      ∷ (codes "CAN_PING_IS_EXTENDED", in_brackets 0 10 false)
      ∷ (codes "CAN_PONG_FRAME_ID", in_brackets 1 16 true)
      ∷ (codes "CAN_PONG_LENGTH", in_brackets 0 10 true)
      ∷ (codes "CAN_PONG_IS_EXTENDED", in_brackets 1 10 false) ∷ [];
})
unfolding constant_of value_limit mark_at header_of kind_in directive_word
header_of_two_messages = refl
