-- Texts cut to tokens, by computation.
use Rattle.std.proofs.Common.{◌≡◌, refl, ℕ, Bool, true, false, List, [], ◌∷◌, ◌++◌, Result, Ok, Err}
use Rattle.std.specs.Prelude.{codes}
use Rattle.c_text.specs.declared.token.Token.{Token}
use Rattle.c_text.specs.declared.token.TokenKind.{TokenKind}
use Rattle.c_text.specs.declared.token.TokenKind.TheVariants.{Word, Constant as Number, Quoted, Mark}
use Rattle.c_text.specs.declared.refusal.CKind.{CKind}
use Rattle.c_text.specs.declared.refusal.CKind.TheVariants.{BadToken, Splice, OpenComment}
use Rattle.c_text.specs.Refusal.{Refusal}
use Rattle.c_text.specs.IntegerConstant.{constant_of, value_limit}
use Rattle.c_text.specs.Punctuator.{mark_at}
use Rattle.c_text.specs.Tokens.{tokens}

-- a token of the source
abbrev tk : TokenKind → Bool → ℕ → ℕ → ℕ → Token
tk k fresh line start end = record { kind = k; place = record { header = false; line = line; start = start; end = end }; fresh = fresh }

-- a fault in the source
abbrev refused : CKind → ℕ → ℕ → ℕ → Result (List Token) Refusal
refused k line start end = Err (record { kind = k; place = record { header = false; line = line; start = start; end = end } })

abbrev number : ℕ → ℕ → Bool → ℕ → TokenKind
number value base unsigned longs = Number (record { value = value; base = base; unsigned = unsigned; longs = longs })

abbrev source : List ℕ → Result (List Token) Refusal
source text = tokens false text

-- ---- constants

hexadecimal : tokens true (codes "0x1f0u") ≡ Ok (record { kind = number 496 16 true 0; place = record { header = true; line = 1; start = 0; end = 6 }; fresh = true } ∷ [])
unfolding constant_of value_limit
hexadecimal = refl

octal_eight : source (codes "08") ≡ refused BadToken 1 0 1
unfolding constant_of value_limit
octal_eight = refl

octal : source (codes "017") ≡ Ok (tk (number 15 8 false 0) true 1 0 3 ∷ [])
unfolding constant_of value_limit
octal = refl

zero_is_decimal : source (codes "0L") ≡ Ok (tk (number 0 10 false 1) true 1 0 2 ∷ [])
unfolding constant_of value_limit
zero_is_decimal = refl

exponent_and_sign : source (codes "0x1e+1") ≡ refused BadToken 1 0 1
unfolding constant_of value_limit
exponent_and_sign = refl

exponent_and_blank : source (codes "0x1e +1") ≡ Ok (tk (number 30 16 false 0) true 1 0 4 ∷ tk (Mark (codes "+")) false 1 5 6 ∷ tk (number 1 10 false 0) false 1 6 7 ∷ [])
unfolding constant_of value_limit mark_at
exponent_and_blank = refl

greatest : source (codes "18446744073709551615") ≡ Ok (tk (number 18446744073709551615 10 false 0) true 1 0 20 ∷ [])
unfolding constant_of value_limit
greatest = refl

too_great : source (codes "18446744073709551616") ≡ refused BadToken 1 0 1
unfolding constant_of value_limit
too_great = refl

suffixes : source (codes "1ull 2LLU 3uL") ≡ Ok (tk (number 1 10 true 2) true 1 0 4 ∷ tk (number 2 10 true 2) false 1 5 9 ∷ tk (number 3 10 true 1) false 1 10 13 ∷ [])
unfolding constant_of value_limit
suffixes = refl

two_cases : source (codes "1lL") ≡ refused BadToken 1 0 1
unfolding constant_of value_limit
two_cases = refl

two_unsigned : source (codes "1ulu") ≡ refused BadToken 1 0 1
unfolding constant_of value_limit
two_unsigned = refl

no_digits : source (codes "0x") ≡ refused BadToken 1 0 1
unfolding constant_of value_limit
no_digits = refl

point_behind : source (codes "1.5") ≡ refused BadToken 1 0 1
unfolding constant_of value_limit
point_behind = refl

point_before : source (codes ".5") ≡ Ok (tk (Mark (codes ".")) true 1 0 1 ∷ tk (number 5 10 false 0) false 1 1 2 ∷ [])
unfolding constant_of value_limit mark_at
point_before = refl

either_case : constant_of (codes "0x1F") ≡ constant_of (codes "0X1f")
unfolding constant_of value_limit
either_case = refl

-- ---- punctuators

decrement : source (codes "a--b") ≡ Ok (tk (Word (codes "a")) true 1 0 1 ∷ tk (Mark (codes "--")) false 1 1 3 ∷ tk (Word (codes "b")) false 1 3 4 ∷ [])
unfolding mark_at
decrement = refl

three_signs : source (codes "a---b") ≡ Ok (tk (Word (codes "a")) true 1 0 1 ∷ tk (Mark (codes "--")) false 1 1 3 ∷ tk (Mark (codes "-")) false 1 3 4 ∷ tk (Word (codes "b")) false 1 4 5 ∷ [])
unfolding mark_at
three_signs = refl

digraph : source (codes "a<:") ≡ refused BadToken 1 1 2
unfolding mark_at
digraph = refl

two_question_marks : source (codes "? ?") ≡ Ok (tk (Mark (codes "?")) true 1 0 1 ∷ tk (Mark (codes "?")) false 1 2 3 ∷ [])
unfolding mark_at
two_question_marks = refl

-- ---- splices

trigraph : source (codes "a??") ≡ refused Splice 1 1 2
unfolding mark_at
trigraph = refl

-- "a\b"
splice_in_string : source (34 ∷ 97 ∷ 92 ∷ 98 ∷ 34 ∷ []) ≡ refused Splice 1 2 3
splice_in_string = refl

-- "a\
splice_in_open_string : source (34 ∷ 97 ∷ 92 ∷ []) ≡ refused BadToken 1 0 1
splice_in_open_string = refl

-- // \
splice_in_comment : source (47 ∷ 47 ∷ 32 ∷ 92 ∷ []) ≡ refused Splice 1 3 4
splice_in_comment = refl

-- \ alone
splice_alone : source (92 ∷ []) ≡ refused Splice 1 0 1
unfolding mark_at
splice_alone = refl

-- @\
earlier_fault : source (64 ∷ 92 ∷ []) ≡ refused BadToken 1 0 1
unfolding mark_at
earlier_fault = refl

-- ---- comments and lines

open_comment : source (codes "/*") ≡ refused OpenComment 1 0 2
open_comment = refl

open_comment_and_splice : source (codes "/*/ ??") ≡ refused OpenComment 1 0 2
open_comment_and_splice = refl

line_comment : source (codes "a // b" ++ 10 ∷ codes "c") ≡ Ok (tk (Word (codes "a")) true 1 0 1 ∷ tk (Word (codes "c")) true 2 7 8 ∷ [])
line_comment = refl

line_end_in_comment : source (codes "a /*" ++ 10 ∷ codes "*/ b") ≡ Ok (tk (Word (codes "a")) true 1 0 1 ∷ tk (Word (codes "b")) false 2 8 9 ∷ [])
line_end_in_comment = refl

string : source (34 ∷ 104 ∷ 46 ∷ 104 ∷ 34 ∷ []) ≡ Ok (tk (Quoted (codes "h.h")) true 1 0 5 ∷ [])
string = refl

string_over_line_end : source (34 ∷ 97 ∷ 10 ∷ 34 ∷ []) ≡ refused BadToken 1 0 1
string_over_line_end = refl

-- ---- further texts

three_question_marks : source (codes "a ???") ≡ refused Splice 1 2 3
unfolding mark_at
three_question_marks = refl

trigraph_in_comment : source (codes "/* ?? */") ≡ refused Splice 1 3 4
trigraph_in_comment = refl

-- "??"
trigraph_in_string : source (34 ∷ 63 ∷ 63 ∷ 34 ∷ []) ≡ refused Splice 1 1 2
trigraph_in_string = refl

-- "?"?
marks_apart : source (34 ∷ 63 ∷ 34 ∷ 63 ∷ []) ≡ Ok (tk (Quoted (codes "?")) true 1 0 3 ∷ tk (Mark (codes "?")) false 1 3 4 ∷ [])
unfolding mark_at
marks_apart = refl

digraph_of_hash : source (codes "%:") ≡ refused BadToken 1 0 1
unfolding mark_at
digraph_of_hash = refl

shift_before_colon : source (codes "a<<:") ≡ Ok (tk (Word (codes "a")) true 1 0 1 ∷ tk (Mark (codes "<<")) false 1 1 3 ∷ tk (Mark (codes ":")) false 1 3 4 ∷ [])
unfolding mark_at
shift_before_colon = refl

two_points : source (codes "..") ≡ Ok (tk (Mark (codes ".")) true 1 0 1 ∷ tk (Mark (codes ".")) false 1 1 2 ∷ [])
unfolding mark_at
two_points = refl

comment_between : source (codes "a/**/b") ≡ Ok (tk (Word (codes "a")) true 1 0 1 ∷ tk (Word (codes "b")) false 1 5 6 ∷ [])
comment_between = refl

line_comment_at_end : source (codes "a//") ≡ Ok (tk (Word (codes "a")) true 1 0 1 ∷ [])
line_comment_at_end = refl

-- a carriage return ends no line
carriage_return : source (97 ∷ 13 ∷ 98 ∷ []) ≡ Ok (tk (Word (codes "a")) true 1 0 1 ∷ tk (Word (codes "b")) false 1 2 3 ∷ [])
carriage_return = refl

no_byte_of_a_token : source (codes "a @") ≡ refused BadToken 1 2 3
unfolding mark_at
no_byte_of_a_token = refl

nothing : source [] ≡ Ok []
nothing = refl
