-- Worked values of the texts, by computation.
use Rattle.std.proofs.Common.{◌≡◌, ℕ, Bool, true, false, [], ◌∷◌, ◌++◌, Some, None, refl, arith}
use Rattle.std.specs.Prelude.{codes}
use Rattle.std.specs.Fmt.{digits}
use Rattle.std.proofs.lemmas.Fmt.{decimal_digit}
use Rattle.c_text.specs.declared.token.IntType.TheVariants as int
use Rattle.c_text.specs.declared.token.Spelled.TheVariants.{Exact, Size, Plain}
use Rattle.c_tree.specs.declared.expression.Callee.TheVariants as callee
use Rattle.c_tree.specs.declared.expression.UnaryOp.TheVariants as sign
use Rattle.c_tree.specs.declared.expression.BinaryOp.TheVariants as op
use Rattle.c_tree.specs.declared.statement.AssignOp.TheVariants as set
use Rattle.c_tree.specs.declared.item.CType.TheVariants.{Void, Integer, Pointer}
use Rattle.c_tree.specs.declared.item.Target.TheVariants.{Byte, Struct}
use Rattle.c_tree.specs.BareExpression.{Tree, constant, name, null, member, element, unary, cast, binary, bracket, none, more}
use Rattle.c_tree.specs.BareExpression as e
use Rattle.c_tree.specs.BareStatement.{Action, assign, discard, empty, block, when, choose, return, break, switch, no_more, then, done, label, statement}
use Rattle.c_tree.specs.BareStatement as a
use Rattle.c_tree.specs.BareUnit.{BareHead}
use Rattle.c_printed.specs.Spelling.{hex_digits}
use Rattle.c_printed.specs.PrintedExpression.{printed}
use Rattle.c_printed.specs.PrintedStatement.{action_text}
use Rattle.c_printed.specs.PrintedUnit.{comment, include, include_beside, define, if_not_defined, end_if, structure, routine, part_text}

abbrev hexadecimal : ℕ → Bool → ℕ → Tree
hexadecimal v unsigned longs = constant (record { value = v; base = 16; unsigned = unsigned; longs = longs })

abbrev x : Tree
x = name (codes "x")

-- ---- constants

four_digits_in_a_function : printed true (hexadecimal 2048 false 0) ≡ codes "0x0800"
unfolding hex_digits digits
four_digits_in_a_function = refl

the_unsigned_suffix_first : printed true (hexadecimal 255 true 2) ≡ codes "0xffull"
unfolding hex_digits digits
the_unsigned_suffix_first = refl

no_leading_zero_in_a_macro : printed false (hexadecimal 496 true 0) ≡ codes "0x1f0u"
unfolding hex_digits digits
no_leading_zero_in_a_macro = refl

octal_behind_a_zero : printed true (constant (record { value = 8; base = 8; unsigned = false; longs = 1 })) ≡ codes "010l"
unfolding digits
octal_behind_a_zero = refl

a_decimal_number : printed true (constant (record { value = 8; base = 10; unsigned = true; longs = 0 })) ≡ codes "8u"
a_decimal_number = rw (decimal_digit 8 (omega arith)) refl

-- ---- expressions

a_blank_on_each_side : printed true (binary op.ShiftLeft x (unary sign.Minus x)) ≡ codes "x << -x"
a_blank_on_each_side = refl

no_blank_behind_a_cast : printed true (cast (Exact 8 false) (bracket (unary sign.Complement (unary sign.Not x)))) ≡ codes "(uint8_t)(~!x)"
no_blank_behind_a_cast = refl

two_arguments : printed true (e.call (callee.Name (codes "f")) (more (member (codes "p") (codes "s")) (more (element (codes "d") x) none))) ≡ codes "f(p->s, d[x])"
two_arguments = refl

-- ---- statements

a_fill : action_text 4 (a.call callee.Memset (more x (more null none))) ≡ codes "    memset(x, NULL);\n"
a_fill = refl

a_compound_assignment : action_text 0 (assign x set.ShiftRight x) ≡ codes "x >>= x;\n"
a_compound_assignment = refl

a_declaration : action_text 4 (a.declare (Plain int.UnsignedLong) (codes "y") (Some x)) ≡ codes "    unsigned long y = x;\n"
a_declaration = refl

an_else_on_the_line_of_the_brace : action_text 0 (choose x (block (then (discard (codes "x")) no_more)) (block (then empty no_more))) ≡ codes "if (x) {\n    (void)x;\n} else {\n    ;\n}\n"
an_else_on_the_line_of_the_brace = refl

a_block_by_itself : action_text 4 (block (then (return None) no_more)) ≡ codes "    {\n        return;\n    }\n"
a_block_by_itself = refl

an_if_alone : action_text 4 (when (binary op.Equal x null) (block (then (return (Some (bracket (unary sign.Minus (name (codes "EINVAL")))))) no_more))) ≡ codes "    if (x == NULL) {\n        return (-EINVAL);\n    }\n"
an_if_alone = refl

labels_stand_at_the_switch : action_text 4 (switch x (label (Some (hexadecimal 1 false 0)) (label None (statement break done)))) ≡ codes "    switch (x) {\n    case 0x01:\n    default:\n        break;\n    }\n"
unfolding hex_digits digits
labels_stand_at_the_switch = refl

-- ---- parts

a_comment : part_text (comment (codes "Message A")) ≡ codes "/* Message A */\n"
a_comment = refl

includes : part_text (include (codes "string.h")) ++ part_text (include_beside (codes "can.h")) ≡ codes "#include <string.h>\n#include \"can.h\"\n"
includes = refl

an_empty_macro : part_text (if_not_defined (codes "A_H")) ++ (part_text (define (codes "A_H") None) ++ part_text end_if) ≡ codes "#ifndef A_H\n#define A_H\n#endif\n"
an_empty_macro = refl

a_struct : part_text (structure (codes "s_t") (record { about = codes "On [-]"; named = record { kind = Integer (Exact 8 false); name = codes "on" } } ∷ record { about = []; named = record { kind = Integer Size; name = codes "n" } } ∷ []))
    ≡ codes "struct s_t {\n    /* On [-] */\n    uint8_t on;\n    size_t n;\n};\n"
a_struct = refl

abbrev head : BareHead
head = record {
  fixed = true;
  returns = Integer (Plain int.Int);
  name = codes "f";
  params = record { kind = Pointer Byte false; name = codes "d" } ∷ record { kind = Pointer (Struct (codes "s_t")) true; name = codes "p" } ∷ [];
}

a_prototype : part_text (routine head None) ≡ codes "static int f(uint8_t *d, const struct s_t *p);\n"
a_prototype = refl

a_definition : part_text (routine (record { fixed = false; returns = Void; name = codes "g"; params = [] }) (Some (then empty no_more))) ≡ codes "void g(void)\n{\n    ;\n}\n"
a_definition = refl
