-- Operators, constants and types as their texts are read.
use Rattle.std.proofs.Common.{◌≡◌, ℕ, zero, suc, ◌-◌, ◌^◌, ◌<◌, ◌≤◌, Bool, true, false, cond, List, [], ◌∷◌, ◌++◌, length, replicate, Option, Some, refl, sym, ap, subst, ◌∙◌, append_assoc, arith}
use Rattle.std.specs.Prelude.{codes}
use Rattle.std.specs.List.{list_all}
use Rattle.std.specs.Fmt.{decimal, digits}
use Rattle.std.specs.Char.{digit_value}
use Rattle.std.specs.Str.Parse.{AllDigits, digits_value}
use Rattle.std.proofs.lemmas.Fmt.{digits_is_IsNumeral, decimal_is_IsNumeral}
use Rattle.std.proofs.lemmas.Bool.{lt-ltb}
use Rattle.std.proofs.lemmas.Bool.Decides.{nat_tests}
use Rattle.c_text.specs.declared.token.Constant.{Constant}
use Rattle.c_text.specs.declared.token.IntType.{IntType}
use Rattle.c_text.specs.declared.token.Spelled.{Spelled}
use Rattle.c_text.specs.declared.token.Spelled.TheVariants.{Exact, Size, Plain}
use Rattle.c_text.specs.declared.token.TokenKind.{TokenKind}
use Rattle.c_text.specs.declared.token.TokenKind.TheVariants.{Word, Constant as Number, Mark}
use Rattle.c_tree.specs.declared.expression.Callee.{Callee}
use Rattle.c_tree.specs.declared.expression.Callee.TheVariants as callee
use Rattle.c_tree.specs.declared.expression.UnaryOp.{UnaryOp}
use Rattle.c_tree.specs.declared.expression.BinaryOp.{BinaryOp}
use Rattle.c_tree.specs.declared.statement.AssignOp.{AssignOp}
use Rattle.c_text.specs.Characters.{is_letter, goes_on, first_passes, Pass, IsName}
use Rattle.c_text.specs.Punctuator.{mark_at}
use Rattle.c_text.specs.Piece.{Lexeme, token, space}
use Rattle.c_text.specs.Splice.{is_plain}
use Rattle.c_text.specs.Tokens.{kinds}
use Rattle.c_text.specs.IntegerConstant.{Suffix, suffix_of, in_base, is_x, constant_from, constant_in, constant_of}
use Rattle.c_text.proofs.Boundary.{pass-append, pass-all, goes_on_with_number, kinds-constant}
use Rattle.c_text.proofs.PrintedLines.{bytes-plain}
use Rattle.c_text.proofs.Constants.{IsSuffix, IsSuffixOfZero, constant, digits-go_on, constant_in-digits, kinds-decimal, kinds-hexadecimal, no-suffix, u-suffix, l-suffix, ll-suffix, ul-suffix, ull-suffix}
use Rattle.c_text.proofs.Marks.{extends, kinds-part, kinds-whole}
use Rattle.c_printed.specs.Spelling.{sign_text, operator_text, assign_text, between, suffix_text, hex_width, hex_digits, value_text, constant_text, plain_words, sign_letter, width_text, type_words, spaced, type_text, words, callee_text}
use Rattle.c_printed.specs.Printable.{IsBase, eight, ten, sixteen, IsWidth, w8, w16, w32, w64, IsConstant, IsType, IsFreeCallee}
use Rattle.c_printed.proofs.Pieces.{Reads, joined, then, given, named, stops, fine}
use Rattle.c_printed.proofs.SmallLaws.{not-true, passes-append}
use Rattle.c_text.specs.declared.token.IntType.TheVariants as int
use Rattle.c_tree.specs.declared.expression.UnaryOp.TheVariants as sign
use Rattle.c_tree.specs.declared.expression.BinaryOp.TheVariants as op
use Rattle.c_tree.specs.declared.statement.AssignOp.TheVariants as set

-- ---- operators between blanks

abbrev spaced_mark : List ℕ → List Lexeme
spaced_mark m = space ∷ token (Mark m) ∷ space ∷ []

pub reads-operator : (o : BinaryOp) → Reads true true (between (operator_text o)) (Mark (operator_text o) ∷ [])
unfolding mark_at
reads-operator op.LogicalOr = given _ (spaced_mark (codes "||")) (λ rest. refl) refl refl
reads-operator op.LogicalAnd = given _ (spaced_mark (codes "&&")) (λ rest. refl) refl refl
reads-operator op.BitOr = given _ (spaced_mark (codes "|")) (λ rest. refl) refl refl
reads-operator op.BitXor = given _ (spaced_mark (codes "^")) (λ rest. refl) refl refl
reads-operator op.BitAnd = given _ (spaced_mark (codes "&")) (λ rest. refl) refl refl
reads-operator op.Equal = given _ (spaced_mark (codes "==")) (λ rest. refl) refl refl
reads-operator op.NotEqual = given _ (spaced_mark (codes "!=")) (λ rest. refl) refl refl
reads-operator op.Less = given _ (spaced_mark (codes "<")) (λ rest. refl) refl refl
reads-operator op.Greater = given _ (spaced_mark (codes ">")) (λ rest. refl) refl refl
reads-operator op.LessEqual = given _ (spaced_mark (codes "<=")) (λ rest. refl) refl refl
reads-operator op.GreaterEqual = given _ (spaced_mark (codes ">=")) (λ rest. refl) refl refl
reads-operator op.ShiftLeft = given _ (spaced_mark (codes "<<")) (λ rest. refl) refl refl
reads-operator op.ShiftRight = given _ (spaced_mark (codes ">>")) (λ rest. refl) refl refl
reads-operator op.Add = given _ (spaced_mark (codes "+")) (λ rest. refl) refl refl
reads-operator op.Subtract = given _ (spaced_mark (codes "-")) (λ rest. refl) refl refl

pub reads-assign : (o : AssignOp) → Reads true true (between (assign_text o)) (Mark (assign_text o) ∷ [])
unfolding mark_at
reads-assign set.Set = given _ (spaced_mark (codes "=")) (λ rest. refl) refl refl
reads-assign set.BitOr = given _ (spaced_mark (codes "|=")) (λ rest. refl) refl refl
reads-assign set.BitAnd = given _ (spaced_mark (codes "&=")) (λ rest. refl) refl refl
reads-assign set.BitXor = given _ (spaced_mark (codes "^=")) (λ rest. refl) refl refl
reads-assign set.Add = given _ (spaced_mark (codes "+=")) (λ rest. refl) refl refl
reads-assign set.Subtract = given _ (spaced_mark (codes "-=")) (λ rest. refl) refl refl
reads-assign set.ShiftLeft = given _ (spaced_mark (codes "<<=")) (λ rest. refl) refl refl
reads-assign set.ShiftRight = given _ (spaced_mark (codes ">>=")) (λ rest. refl) refl refl

-- ---- given marks

pub opening : Reads true true (codes "(") (Mark (codes "(") ∷ [])
unfolding mark_at
opening = given _ (token (Mark (codes "(")) ∷ []) (λ rest. refl) refl refl

pub closing : Reads true true (codes ")") (Mark (codes ")") ∷ [])
unfolding mark_at
closing = given _ (token (Mark (codes ")")) ∷ []) (λ rest. refl) refl refl

pub opening_square : Reads true true (codes "[") (Mark (codes "[") ∷ [])
unfolding mark_at
opening_square = given _ (token (Mark (codes "[")) ∷ []) (λ rest. refl) refl refl

pub closing_square : Reads true true (codes "]") (Mark (codes "]") ∷ [])
unfolding mark_at
closing_square = given _ (token (Mark (codes "]")) ∷ []) (λ rest. refl) refl refl

pub arrow : Reads true true (codes "->") (Mark (codes "->") ∷ [])
unfolding mark_at
arrow = given _ (token (Mark (codes "->")) ∷ []) (λ rest. refl) refl refl

pub comma_mark : Reads true true (codes ", ") (Mark (codes ",") ∷ [])
unfolding mark_at
comma_mark = given _ (token (Mark (codes ",")) ∷ space ∷ []) (λ rest. refl) refl refl

pub blank : Reads true true (codes " ") []
blank = given _ (space ∷ []) (λ rest. refl) refl refl

-- ---- signs, before a text that extends no mark

pub sign-cut : (u : UnaryOp) (ys : List ℕ) → first_passes extends ys ≡ false → kinds 0 (sign_text u ++ ys) ≡ token (Mark (sign_text u)) ∷ kinds 0 ys
sign-cut sign.Plus ys e = kinds-part (codes "+") ys refl e
sign-cut sign.Minus ys e = kinds-part (codes "-") ys refl e
sign-cut sign.Complement ys e = kinds-whole (codes "~") ys refl
sign-cut sign.Not ys e = kinds-part (codes "!") ys refl e

sign-clean : (u : UnaryOp) → list_all (fine true) (token (Mark (sign_text u)) ∷ []) ≡ true
sign-clean sign.Plus = refl
sign-clean sign.Minus = refl
sign-clean sign.Complement = refl
sign-clean sign.Not = refl

sign-plain : (u : UnaryOp) → Pass is_plain (sign_text u)
sign-plain sign.Plus = (refl, tt)
sign-plain sign.Minus = (refl, tt)
sign-plain sign.Complement = (refl, tt)
sign-plain sign.Not = (refl, tt)

pub signed : (g : Bool) (u : UnaryOp) (x : List ℕ) (ks : List TokenKind) → ((rest : List ℕ) → kinds 0 (sign_text u ++ (x ++ rest)) ≡ token (Mark (sign_text u)) ∷ kinds 0 (x ++ rest)) → Reads true g x ks → Reads true g (sign_text u ++ x) (Mark (sign_text u) ∷ ks)
signed g u x ks e p = record {
  lexemes = token (Mark (sign_text u)) ∷ p.lexemes;
  cut = λ rest f.
      ap (kinds 0) (append_assoc (sign_text u) x rest) ∙ e rest ∙ ap (λ ls. token (Mark (sign_text u)) ∷ ls) (p.cut rest f);
  clean = passes-append (fine true) (token (Mark (sign_text u)) ∷ []) p.lexemes (sign-clean u) p.clean;
  are = ap (λ ls. Mark (sign_text u) ∷ ls) p.are;
  plain = pass-append is_plain (sign_text u) x (sign-plain u) p.plain;
}

-- ---- types

two_words : (a b : List ℕ) → IsName a → IsName b → Reads true false (spaced (a ∷ b ∷ [])) (words (a ∷ b ∷ []))
two_words a b h k = joined false false a (32 ∷ b) (Word a ∷ []) (Word b ∷ []) (λ rest e. refl) (named a h) (then false (32 ∷ []) b [] (Word b ∷ []) blank (named b k))

three_words : (a b c : List ℕ) → IsName a → IsName b → IsName c → Reads true false (spaced (a ∷ b ∷ c ∷ [])) (words (a ∷ b ∷ c ∷ []))
three_words a b c h k l =
    joined false false a (32 ∷ (b ++ 32 ∷ c)) (Word a ∷ []) (words (b ∷ c ∷ [])) (λ rest e. refl) (named a h) (then false (32 ∷ []) (b ++ 32 ∷ c) [] (words (b ∷ c ∷ [])) blank (two_words b c k l))

name-of : (n : List ℕ) → Pass goes_on n → first_passes is_letter n ≡ true → IsName n
name-of [] h e = cc
name-of (b ∷ bs) h e = (e, h.1)

pub given-name : (n : List ℕ) → list_all goes_on n ≡ true → first_passes is_letter n ≡ true → IsName n
given-name n h e = name-of n (pass-all goes_on n h) e

reads-plain : (t : IntType) → Reads true false (spaced (plain_words t)) (words (plain_words t))
reads-plain int.Bool = named (codes "bool") (given-name (codes "bool") refl refl)
reads-plain int.SignedChar = two_words (codes "signed") (codes "char") (given-name (codes "signed") refl refl) (given-name (codes "char") refl refl)
reads-plain int.UnsignedChar = two_words (codes "unsigned") (codes "char") (given-name (codes "unsigned") refl refl) (given-name (codes "char") refl refl)
reads-plain int.Short = named (codes "short") (given-name (codes "short") refl refl)
reads-plain int.UnsignedShort = two_words (codes "unsigned") (codes "short") (given-name (codes "unsigned") refl refl) (given-name (codes "short") refl refl)
reads-plain int.Int = named (codes "int") (given-name (codes "int") refl refl)
reads-plain int.UnsignedInt = two_words (codes "unsigned") (codes "int") (given-name (codes "unsigned") refl refl) (given-name (codes "int") refl refl)
reads-plain int.Long = named (codes "long") (given-name (codes "long") refl refl)
reads-plain int.UnsignedLong = two_words (codes "unsigned") (codes "long") (given-name (codes "unsigned") refl refl) (given-name (codes "long") refl refl)
reads-plain int.LongLong = two_words (codes "long") (codes "long") (given-name (codes "long") refl refl) (given-name (codes "long") refl refl)
reads-plain int.UnsignedLongLong = three_words (codes "unsigned") (codes "long") (codes "long") (given-name (codes "unsigned") refl refl) (given-name (codes "long") refl refl) (given-name (codes "long") refl refl)

exact-name : (w : ℕ) (s : Bool) → IsWidth w → IsName (sign_letter s ++ (codes "int" ++ (width_text w ++ codes "_t")))
exact-name _ true w8 = given-name (codes "int8_t") refl refl
exact-name _ true w16 = given-name (codes "int16_t") refl refl
exact-name _ true w32 = given-name (codes "int32_t") refl refl
exact-name _ true w64 = given-name (codes "int64_t") refl refl
exact-name _ false w8 = given-name (codes "uint8_t") refl refl
exact-name _ false w16 = given-name (codes "uint16_t") refl refl
exact-name _ false w32 = given-name (codes "uint32_t") refl refl
exact-name _ false w64 = given-name (codes "uint64_t") refl refl

pub reads-type : (s : Spelled) → IsType s → Reads true false (type_text s) (words (type_words s))
reads-type (Exact w signed) h = named (sign_letter signed ++ (codes "int" ++ (width_text w ++ codes "_t"))) (exact-name w signed h)
reads-type Size h = named (codes "size_t") (given-name (codes "size_t") refl refl)
reads-type (Plain t) h = reads-plain t

-- ---- what a call names

pub callee-name : (f : Callee) → IsFreeCallee f → IsName (callee_text f)
callee-name (callee.Name f) h = h.0
callee-name callee.Memset h = given-name (codes "memset") refl refl

-- ---- constants

abbrev suffix : Bool → ℕ → Suffix
suffix u n = record { unsigned = u; longs = n }

is-suffix : (u : Bool) (n : ℕ) → n ≤ 2 → IsSuffixOfZero (suffix_text u n) (suffix u n)
is-suffix true zero h = u-suffix
is-suffix false zero h = no-suffix
is-suffix true (suc zero) h = ul-suffix
is-suffix false (suc zero) h = l-suffix
is-suffix true (suc (suc zero)) h = ull-suffix
is-suffix false (suc (suc zero)) h = ll-suffix
is-suffix u (suc (suc (suc n))) h = absurd (omega arith)

stops-number : (rest : List ℕ) → stops rest ≡ true → first_passes goes_on_with_number rest ≡ false
stops-number rest e = not-true (first_passes goes_on_with_number rest) e

-- digits with zeros before them
zeros-all : (n : ℕ) (ds : List ℕ) → AllDigits 16 ds → AllDigits 16 (replicate n 48 ++ ds)
zeros-all zero ds h = h
zeros-all (suc n) ds h = (omega arith, zeros-all n ds h)

zeros-value : (n : ℕ) (ds : List ℕ) → digits_value 16 (replicate n 48 ++ ds) ≡ digits_value 16 ds
zeros-value zero ds = refl
zeros-value (suc n) ds = zeros-value n ds

zeros-some : (n : ℕ) (ds : List ℕ) → 0 < length ds → 0 < length (replicate n 48 ++ ds)
zeros-some zero ds h = h
zeros-some (suc n) ds h = omega arith

abbrev AreDigits : ℕ → ℕ → List ℕ → Type 0
AreDigits base v ds = AllDigits base ds × (0 < length ds) × (digits_value base ds ≡ v)

shortest : (base v : ℕ) → 2 ≤ base → base ≤ 16 → v < base ^ 64 → AreDigits base v (digits base false v)
shortest base v b c h = let i = digits_is_IsNumeral base false b (omega (arith, c)) v h in (i.0.1, i.0.0, i.1)

wider : (n v : ℕ) (ds : List ℕ) → AreDigits 16 v ds → AreDigits 16 v (replicate n 48 ++ ds)
wider n v ds h = (zeros-all n ds h.0, zeros-some n ds h.1, zeros-value n ds ∙ h.2)

hex-are : (wide : Bool) (v : ℕ) → v < 2 ^ 64 → AreDigits 16 v (hex_digits wide v)
unfolding hex_digits
hex-are true v h = wider (hex_width v - length (digits 16 false v)) v (digits 16 false v) (shortest 16 v (omega arith) (omega arith) (omega arith))
hex-are false v h = shortest 16 v (omega arith) (omega arith) (omega arith)

reads-hex : (wide : Bool) (v : ℕ) (u : Bool) (n : ℕ) → v < 2 ^ 64 → n ≤ 2 → Reads true false ((48 ∷ 120 ∷ hex_digits wide v) ++ suffix_text u n) (Number (constant v 16 (suffix u n)) ∷ [])
reads-hex wide v u n h l =
    let d = hex-are wide v h in
    let x = (is-suffix u n l).suffix in
    record {
      lexemes = token (Number (constant v 16 (suffix u n))) ∷ [];
      cut = λ rest e.
          kinds-hexadecimal (hex_digits wide v) (suffix_text u n) rest (suffix u n) d.0 d.1 (subst (λ w. w < 2 ^ 64) (sym d.2) h) x (stops-number rest e)
          ∙ ap (λ w. token (Number (constant w 16 (suffix u n))) ∷ kinds 0 rest) d.2;
      clean = refl;
      are = refl;
      plain = (refl, (refl, bytes-plain (hex_digits wide v ++ suffix_text u n) (pass-append goes_on (hex_digits wide v) (suffix_text u n) (digits-go_on 16 (hex_digits wide v) (omega arith) d.0) x.go_on)));
    }

reads-decimal : (v : ℕ) (u : Bool) (n : ℕ) → v < 2 ^ 64 → n ≤ 2 → Reads true false (decimal v ++ suffix_text u n) (Number (constant v 10 (suffix u n)) ∷ [])
reads-decimal v u n h l =
    let x = is-suffix u n l in
    let i = decimal_is_IsNumeral v h in
    record {
      lexemes = token (Number (constant v 10 (suffix u n))) ∷ [];
      cut = λ rest e. kinds-decimal v (suffix_text u n) rest (suffix u n) h x (stops-number rest e);
      clean = refl;
      are = refl;
      plain = bytes-plain (decimal v ++ suffix_text u n) (pass-append goes_on (decimal v) (suffix_text u n) (digits-go_on 10 (decimal v) (omega arith) i.0.1) x.suffix.go_on);
    }

-- octal digits behind a zero
octal-first : (d : ℕ) → digit_value d < 8 → (is_x d ≡ false) × (in_base 8 d ≡ true)
octal-first d h = (grind (arith, nat_tests), lt-ltb (digit_value d) 8 h)

choose-octal : (a b : Bool) (x y z : Option Constant) → a ≡ false → b ≡ true → cond a x (cond b y z) ≡ y
choose-octal true b x y z e f = cc
choose-octal false true x y z e f = refl
choose-octal false false x y z e f = cc

octal-is : (ds bs : List ℕ) (s : Suffix) → AllDigits 8 ds → 0 < length ds → digits_value 8 ds < 2 ^ 64 → IsSuffix bs s → constant_of (48 ∷ (ds ++ bs)) ≡ Some (constant (digits_value 8 ds) 8 s)
unfolding constant_of
octal-is [] bs s all some small x = absurd (omega arith)
octal-is (d ∷ ds) bs s all some small x =
    let f = octal-first d all.0 in
    choose-octal (is_x d) (in_base 8 d) (constant_in 16 (ds ++ bs)) (constant_in 8 ((d ∷ ds) ++ bs)) (constant_from 10 (48 ∷ []) (suffix_of ((d ∷ ds) ++ bs))) f.0 f.1
    ∙ constant_in-digits 8 (d ∷ ds) bs s (omega arith) all some small x

reads-octal : (v : ℕ) (u : Bool) (n : ℕ) → v < 2 ^ 64 → n ≤ 2 → Reads true false ((48 ∷ digits 8 false v) ++ suffix_text u n) (Number (constant v 8 (suffix u n)) ∷ [])
reads-octal v u n h l =
    let ds = digits 8 false v in
    let d = shortest 8 v (omega arith) (omega arith) (omega arith) in
    let x = (is-suffix u n l).suffix in
    let go_on = pass-append goes_on ds (suffix_text u n) (digits-go_on 8 ds (omega arith) d.0) x.go_on in
    record {
      lexemes = token (Number (constant v 8 (suffix u n))) ∷ [];
      cut = λ rest e.
          kinds-constant 48 (ds ++ suffix_text u n) rest (constant (digits_value 8 ds) 8 (suffix u n)) refl go_on
          (octal-is ds (suffix_text u n) (suffix u n) d.0 d.1 (subst (λ w. w < 2 ^ 64) (sym d.2) h) x) (stops-number rest e)
          ∙ ap (λ w. token (Number (constant w 8 (suffix u n))) ∷ kinds 0 rest) d.2;
      clean = refl;
      are = refl;
      plain = (refl, bytes-plain (ds ++ suffix_text u n) go_on);
    }

reads-by : (wide : Bool) (v b : ℕ) (u : Bool) (n : ℕ) → IsBase b v → v < 2 ^ 64 → n ≤ 2 → Reads true false (value_text wide b v ++ suffix_text u n) (Number (constant v b (suffix u n)) ∷ [])
reads-by wide _ _ u n (eight {v}) h l = reads-octal (suc v) u n h l
reads-by wide v _ u n ten h l = reads-decimal v u n h l
reads-by wide v _ u n sixteen h l = reads-hex wide v u n h l

pub reads-constant : (wide : Bool) (c : Constant) → IsConstant c → Reads true false (constant_text wide c) (Number c ∷ [])
reads-constant wide c h = reads-by wide c.value c.base c.unsigned c.longs h.base h.small h.longs
