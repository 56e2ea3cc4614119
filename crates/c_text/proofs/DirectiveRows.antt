-- Texts preprocessed, by computation.
use Rattle.std.proofs.Common.{◌≡◌, refl, ℕ, Bool, true, false, List, [], ◌∷◌, ◌++◌, map, Result, Ok, Err}
use Rattle.std.specs.Prelude.{codes}
use Rattle.c_text.specs.declared.token.Token.{Token}
use Rattle.c_text.specs.declared.token.TokenKind.{TokenKind}
use Rattle.c_text.specs.declared.token.TokenKind.TheVariants.{Word, Constant as Number, Mark, TypeName, Null, Memset}
use Rattle.c_text.specs.declared.token.Spelled.TheVariants.{Exact, Size}
use Rattle.c_text.specs.declared.preprocessed.Preprocessed.{Preprocessed}
use Rattle.c_text.specs.declared.refusal.CKind.TheVariants.{OpenComment, BadDirective, UnknownHeader, MacroBody, Redefined, Unbalanced}
use Rattle.c_text.specs.Refusal.{Refusal}
use Rattle.c_text.specs.IntegerConstant.{constant_of, value_limit}
use Rattle.c_text.specs.Punctuator.{mark_at}
use Rattle.c_text.specs.StandardHeader.{header_of, kind_in}
use Rattle.c_text.specs.Directive.{directive_word}
use Rattle.c_text.specs.Preprocessing.{preprocessed_texts}

-- lines, each with its end
abbrev text_of : List (List ℕ) → List ℕ
text_of [] = []
text_of (l ∷ ls) = l ++ 10 ∷ text_of ls

abbrev number : ℕ → ℕ → Bool → ℕ → TokenKind
number value base unsigned longs = Number (record { value = value; base = base; unsigned = unsigned; longs = longs })

-- the kinds of the tokens, and the macros with those of their bodies
abbrev Outcome : Type 0
Outcome = List TokenKind × List (List ℕ × List TokenKind)

abbrev kinds_of : List Token → List TokenKind
kinds_of ts = map (λ t. t.kind) ts

abbrev outcome : Result Preprocessed Refusal → Result Outcome Refusal
outcome (Ok p) = Ok (kinds_of p.tokens, map (λ m. (m.name, kinds_of m.body)) p.macros)
outcome (Err e) = Err e

-- of a header `h.h` and a source
abbrev of : List ℕ → List ℕ → Result Outcome Refusal
of header source = outcome (preprocessed_texts header (codes "h.h") source)

end_alone : of [] (text_of (codes "#endif" ∷ [])) ≡ Err (record { kind = Unbalanced; place = record { header = false; line = 1; start = 0; end = 1 } })
unfolding constant_of value_limit mark_at header_of kind_in directive_word
end_alone = refl

else_alone : of [] (text_of (codes "a" ∷ codes "#else" ∷ [])) ≡ Err (record { kind = Unbalanced; place = record { header = false; line = 2; start = 2; end = 3 } })
unfolding constant_of value_limit mark_at header_of kind_in directive_word
else_alone = refl

-- it comes before later faults
never_ended : of [] (text_of (codes "#ifdef A" ∷ codes "#bogus" ∷ [])) ≡ Err (record { kind = Unbalanced; place = record { header = false; line = 1; start = 0; end = 1 } })
unfolding constant_of value_limit mark_at header_of kind_in directive_word
never_ended = refl

fault_before : of [] (text_of (codes "#bogus" ∷ codes "#ifdef A" ∷ [])) ≡ Err (record { kind = BadDirective; place = record { header = false; line = 1; start = 0; end = 1 } })
unfolding constant_of value_limit mark_at header_of kind_in directive_word
fault_before = refl

second_else : of [] (text_of (codes "#ifdef A" ∷ codes "#else" ∷ codes "#else" ∷ codes "#endif" ∷ [])) ≡ Err (record { kind = Unbalanced; place = record { header = false; line = 3; start = 15; end = 16 } })
unfolding constant_of value_limit mark_at header_of kind_in directive_word
second_else = refl

-- also in a part that is not read
second_else_not_read : of [] (text_of (codes "#ifdef A" ∷ codes "#ifdef B" ∷ codes "#else" ∷ codes "#else" ∷ codes "#endif" ∷ codes "#endif" ∷ [])) ≡ Err (record { kind = Unbalanced; place = record { header = false; line = 4; start = 24; end = 25 } })
unfolding constant_of value_limit mark_at header_of kind_in directive_word
second_else_not_read = refl

-- in a part that is not read, malformed lines are nothing
not_read : of [] (text_of (codes "#ifdef A" ∷ codes "a" ∷ codes "#bogus" ∷ codes "#endif x" ∷ codes "#if 1" ∷ codes "#else" ∷ codes "b" ∷ codes "#endif" ∷ [])) ≡ Ok (Word (codes "b") ∷ [], [])
unfolding constant_of value_limit mark_at header_of kind_in directive_word
not_read = refl

read : of [] (text_of (codes "#define A" ∷ codes "#ifdef A" ∷ codes "a" ∷ codes "#else" ∷ codes "b" ∷ codes "#endif" ∷ [])) ≡ Ok (Word (codes "a") ∷ [], (codes "A", []) ∷ [])
unfolding constant_of value_limit mark_at header_of kind_in directive_word
read = refl

nested : of [] (text_of (codes "#ifndef A" ∷ codes "#ifdef B" ∷ codes "a" ∷ codes "#else" ∷ codes "b" ∷ codes "#endif" ∷ codes "#else" ∷ codes "c" ∷ codes "#endif" ∷ [])) ≡ Ok (Word (codes "b") ∷ [], [])
unfolding constant_of value_limit mark_at header_of kind_in directive_word
nested = refl

equal_bodies : of [] (text_of (codes "#define A 1" ∷ codes "#define A 1" ∷ [])) ≡ Ok ([], (codes "A", number 1 10 false 0 ∷ []) ∷ [])
unfolding constant_of value_limit mark_at header_of kind_in directive_word
equal_bodies = refl

unequal_bodies : of [] (text_of (codes "#define A 1" ∷ codes "#define A 2" ∷ [])) ≡ Err (record { kind = Redefined; place = record { header = false; line = 2; start = 12; end = 13 } })
unfolding constant_of value_limit mark_at header_of kind_in directive_word
unequal_bodies = refl

equal_spellings : of [] (text_of (codes "#define A 0x1F" ∷ codes "#define A 0X1f" ∷ [])) ≡ Ok ([], (codes "A", number 31 16 false 0 ∷ []) ∷ [])
unfolding constant_of value_limit mark_at header_of kind_in directive_word
equal_spellings = refl

octal_is_another : of [] (text_of (codes "#define A 1" ∷ codes "#define A 01" ∷ [])) ≡ Err (record { kind = Redefined; place = record { header = false; line = 2; start = 12; end = 13 } })
unfolding constant_of value_limit mark_at header_of kind_in directive_word
octal_is_another = refl

word_in_body : of [] (text_of (codes "#define A (b)" ∷ [])) ≡ Err (record { kind = MacroBody; place = record { header = false; line = 1; start = 0; end = 1 } })
unfolding constant_of value_limit mark_at header_of kind_in directive_word
word_in_body = refl

keyword_in_body : of [] (text_of (codes "#define A int" ∷ [])) ≡ Err (record { kind = MacroBody; place = record { header = false; line = 1; start = 0; end = 1 } })
unfolding constant_of value_limit mark_at header_of kind_in directive_word
keyword_in_body = refl

parameters : of [] (text_of (codes "#define A(b) b" ∷ [])) ≡ Err (record { kind = BadDirective; place = record { header = false; line = 1; start = 0; end = 1 } })
unfolding constant_of value_limit mark_at header_of kind_in directive_word
parameters = refl

bracket_behind_blank : of [] (text_of (codes "#define A (1)" ∷ codes "A;" ∷ [])) ≡ Ok (Mark (codes "(") ∷ number 1 10 false 0 ∷ Mark (codes ")") ∷ Mark (codes ";") ∷ [], (codes "A", Mark (codes "(") ∷ number 1 10 false 0 ∷ Mark (codes ")") ∷ []) ∷ [])
unfolding constant_of value_limit mark_at header_of kind_in directive_word
bracket_behind_blank = refl

no_name : of [] (text_of (codes "#define" ∷ [])) ≡ Err (record { kind = BadDirective; place = record { header = false; line = 1; start = 0; end = 1 } })
unfolding constant_of value_limit mark_at header_of kind_in directive_word
no_name = refl

null_directive : of [] (text_of (codes "#" ∷ [])) ≡ Err (record { kind = BadDirective; place = record { header = false; line = 1; start = 0; end = 1 } })
unfolding constant_of value_limit mark_at header_of kind_in directive_word
null_directive = refl

-- only a fresh # begins a directive
hash_inside : of [] (text_of (codes "a #define" ∷ [])) ≡ Ok (Word (codes "a") ∷ Mark (codes "#") ∷ Word (codes "define") ∷ [], [])
unfolding constant_of value_limit mark_at header_of kind_in directive_word
hash_inside = refl

not_yet : of [] (text_of (codes "A" ∷ codes "#define A 1" ∷ codes "A" ∷ [])) ≡ Ok (Word (codes "A") ∷ number 1 10 false 0 ∷ [], (codes "A", number 1 10 false 0 ∷ []) ∷ [])
unfolding constant_of value_limit mark_at header_of kind_in directive_word
not_yet = refl

header_seen : of (text_of (codes "#define A 1" ∷ codes "B" ∷ [])) (text_of ((codes "#include " ++ (34 ∷ (codes "h.h" ++ (34 ∷ [])))) ∷ codes "A" ∷ [])) ≡ Ok (Word (codes "B") ∷ number 1 10 false 0 ∷ [], (codes "A", number 1 10 false 0 ∷ []) ∷ [])
unfolding constant_of value_limit mark_at header_of kind_in directive_word
header_seen = refl

header_not_included : of (text_of (codes "#bogus" ∷ [])) (text_of (codes "a" ∷ [])) ≡ Ok (Word (codes "a") ∷ [], [])
unfolding constant_of value_limit mark_at header_of kind_in directive_word
header_not_included = refl

guarded : of (text_of (codes "#ifndef G" ∷ codes "#define G" ∷ codes "a" ∷ codes "#endif" ∷ [])) (text_of ((codes "#include " ++ (34 ∷ (codes "h.h" ++ (34 ∷ [])))) ∷ (codes "#include " ++ (34 ∷ (codes "h.h" ++ (34 ∷ [])))) ∷ [])) ≡ Ok (Word (codes "a") ∷ [], (codes "G", []) ∷ [])
unfolding constant_of value_limit mark_at header_of kind_in directive_word
guarded = refl

-- conditionals are whole within a file
header_not_balanced : of (text_of (codes "#ifdef G" ∷ [])) (text_of ((codes "#include " ++ (34 ∷ (codes "h.h" ++ (34 ∷ [])))) ∷ codes "#endif" ∷ [])) ≡ Err (record { kind = Unbalanced; place = record { header = true; line = 1; start = 0; end = 1 } })
unfolding constant_of value_limit mark_at header_of kind_in directive_word
header_not_balanced = refl

quoted_in_header : of (text_of ((codes "#include " ++ (34 ∷ (codes "h.h" ++ (34 ∷ [])))) ∷ [])) (text_of ((codes "#include " ++ (34 ∷ (codes "h.h" ++ (34 ∷ [])))) ∷ [])) ≡ Err (record { kind = UnknownHeader; place = record { header = true; line = 1; start = 0; end = 1 } })
unfolding constant_of value_limit mark_at header_of kind_in directive_word
quoted_in_header = refl

other_quoted : of [] (text_of ((codes "#include " ++ (34 ∷ (codes "g.h" ++ (34 ∷ [])))) ∷ [])) ≡ Err (record { kind = UnknownHeader; place = record { header = false; line = 1; start = 0; end = 1 } })
unfolding constant_of value_limit mark_at header_of kind_in directive_word
other_quoted = refl

unknown_header : of [] (text_of (codes "#include <stdio.h>" ∷ [])) ≡ Err (record { kind = UnknownHeader; place = record { header = false; line = 1; start = 0; end = 1 } })
unfolding constant_of value_limit mark_at header_of kind_in directive_word
unknown_header = refl

blank_in_name : of [] (text_of (codes "#include < stdint.h>" ∷ [])) ≡ Err (record { kind = BadDirective; place = record { header = false; line = 1; start = 0; end = 1 } })
unfolding constant_of value_limit mark_at header_of kind_in directive_word
blank_in_name = refl

empty_name : of [] (text_of (codes "#include <>" ∷ [])) ≡ Err (record { kind = BadDirective; place = record { header = false; line = 1; start = 0; end = 1 } })
unfolding constant_of value_limit mark_at header_of kind_in directive_word
empty_name = refl

no_greater : of [] (text_of (codes "#include <stdint.h" ∷ [])) ≡ Err (record { kind = BadDirective; place = record { header = false; line = 1; start = 0; end = 1 } })
unfolding constant_of value_limit mark_at header_of kind_in directive_word
no_greater = refl

behind_greater : of [] (text_of (codes "#include <stdint.h> a" ∷ [])) ≡ Err (record { kind = BadDirective; place = record { header = false; line = 1; start = 0; end = 1 } })
unfolding constant_of value_limit mark_at header_of kind_in directive_word
behind_greater = refl

types : of [] (text_of (codes "uint8_t" ∷ codes "#include <stdint.h>" ∷ codes "uint8_t int64_t size_t" ∷ [])) ≡ Ok (Word (codes "uint8_t") ∷ TypeName (Exact 8 false) ∷ TypeName (Exact 64 true) ∷ Word (codes "size_t") ∷ [], [])
unfolding constant_of value_limit mark_at header_of kind_in directive_word
types = refl

null_and_memset : of [] (text_of (codes "#include <string.h>" ∷ codes "NULL size_t memset bool" ∷ [])) ≡ Ok (Null ∷ TypeName Size ∷ Memset ∷ Word (codes "bool") ∷ [], [])
unfolding constant_of value_limit mark_at header_of kind_in directive_word
null_and_memset = refl

truths : of [] (text_of (codes "#include <stdbool.h>" ∷ codes "bool true false" ∷ [])) ≡ Ok (Word (codes "_Bool") ∷ number 1 10 false 0 ∷ number 0 10 false 0 ∷ [], [])
unfolding constant_of value_limit mark_at header_of kind_in directive_word
truths = refl

macro_first : of [] (text_of (codes "#include <stddef.h>" ∷ codes "#define NULL 3" ∷ codes "NULL size_t" ∷ [])) ≡ Ok (number 3 10 false 0 ∷ TypeName Size ∷ [], (codes "NULL", number 3 10 false 0 ∷ []) ∷ [])
unfolding constant_of value_limit mark_at header_of kind_in directive_word
macro_first = refl

words_asked : of [] (text_of (codes "#include <stddef.h>" ∷ codes "#ifdef NULL" ∷ codes "a" ∷ codes "#endif" ∷ [])) ≡ Ok ([], [])
unfolding constant_of value_limit mark_at header_of kind_in directive_word
words_asked = refl

stages : of (text_of (codes "/*" ∷ [])) (text_of (codes "@" ∷ [])) ≡ Err (record { kind = OpenComment; place = record { header = true; line = 1; start = 0; end = 2 } })
unfolding constant_of value_limit mark_at header_of kind_in directive_word
stages = refl

no_name_asked : of [] (text_of (codes "#ifdef" ∷ [])) ≡ Err (record { kind = BadDirective; place = record { header = false; line = 1; start = 0; end = 1 } })
unfolding constant_of value_limit mark_at header_of kind_in directive_word
no_name_asked = refl

no_identifier : of [] (text_of (codes "#define 1" ∷ [])) ≡ Err (record { kind = BadDirective; place = record { header = false; line = 1; start = 0; end = 1 } })
unfolding constant_of value_limit mark_at header_of kind_in directive_word
no_identifier = refl

another_suffix : of [] (text_of (codes "#define A 1" ∷ codes "#define A 1u" ∷ [])) ≡ Err (record { kind = Redefined; place = record { header = false; line = 2; start = 12; end = 13 } })
unfolding constant_of value_limit mark_at header_of kind_in directive_word
another_suffix = refl

if_is_no_directive : of [] (text_of (codes "#if 1" ∷ codes "#endif" ∷ [])) ≡ Err (record { kind = BadDirective; place = record { header = false; line = 1; start = 0; end = 1 } })
unfolding constant_of value_limit mark_at header_of kind_in directive_word
if_is_no_directive = refl

other_place_of_the_name : of [] (text_of (codes "#include stdint.h" ∷ [])) ≡ Err (record { kind = BadDirective; place = record { header = false; line = 1; start = 0; end = 1 } })
unfolding constant_of value_limit mark_at header_of kind_in directive_word
other_place_of_the_name = refl

-- two bodies of unequal lengths
longer_body : of [] (text_of (codes "#define A 1" ∷ codes "#define A 1 1" ∷ [])) ≡ Err (record { kind = Redefined; place = record { header = false; line = 2; start = 12; end = 13 } })
unfolding constant_of value_limit mark_at header_of kind_in directive_word
longer_body = refl

-- a comment before a directive leaves it fresh
behind_comment : of [] (text_of (codes "/* a */ #define A" ∷ codes "b" ∷ [])) ≡ Ok (Word (codes "b") ∷ [], (codes "A", []) ∷ [])
unfolding constant_of value_limit mark_at header_of kind_in directive_word
behind_comment = refl

-- a keyword may be a macro's name
keyword_as_name : of [] (text_of (codes "#define int 1" ∷ codes "int" ∷ [])) ≡ Ok (number 1 10 false 0 ∷ [], (codes "int", number 1 10 false 0 ∷ []) ∷ [])
unfolding constant_of value_limit mark_at header_of kind_in directive_word
keyword_as_name = refl

unknown_header_not_read : of [] (text_of (codes "#ifdef A" ∷ codes "#include <stdio.h>" ∷ codes "#endif" ∷ [])) ≡ Ok ([], [])
unfolding constant_of value_limit mark_at header_of kind_in directive_word
unknown_header_not_read = refl

line_end_in_comment : of [] (text_of (codes "#define A /*" ∷ codes "*/ 1" ∷ codes "A" ∷ [])) ≡ Ok (number 1 10 false 0 ∷ [], (codes "A", number 1 10 false 0 ∷ []) ∷ [])
unfolding constant_of value_limit mark_at header_of kind_in directive_word
line_end_in_comment = refl
