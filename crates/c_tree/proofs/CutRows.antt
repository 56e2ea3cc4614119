-- Token lists cut into units, by computation.
use Rattle.std.proofs.Common.{◌≡◌, refl, ℕ, ◌+◌, false, List, [], ◌∷◌, ◌++◌, Some, None, Result, Ok, Err}
use Rattle.std.specs.Prelude.{codes}
use Rattle.c_text.specs.declared.place.Place.{Place}
use Rattle.c_text.specs.declared.token.Token.{Token}
use Rattle.c_text.specs.declared.token.Spelled.TheVariants.{Plain}
use Rattle.c_text.specs.declared.token.IntType.TheVariants.{Int}
use Rattle.c_text.specs.declared.token.TokenKind.{TokenKind}
use Rattle.c_text.specs.declared.token.TokenKind.TheVariants.{Word, Constant as Number, Mark}
use Rattle.c_tree.specs.declared.expression.Expr.{Expr}
use Rattle.c_tree.specs.declared.expression.ExprKind.TheVariants as k
use Rattle.c_tree.specs.declared.expression.BinaryOp.TheVariants as op
use Rattle.c_tree.specs.declared.statement.Stmt.{Stmt}
use Rattle.c_tree.specs.declared.statement.StmtKind.TheVariants as s
use Rattle.c_tree.specs.declared.statement.SwitchPart.TheVariants as part
use Rattle.c_tree.specs.declared.expression.UnaryOp.TheVariants as sign
use Rattle.c_tree.specs.declared.item.CType.TheVariants as t
use Rattle.c_tree.specs.declared.item.Item.TheVariants as item
use Rattle.c_tree.specs.declared.item.Unit.{Unit as Whole}
use Rattle.c_text.specs.Refusal.{Refusal}
use Rattle.c_tree.specs.Brackets.{bracket_fault, syntax}
use Rattle.c_tree.specs.Symbol.{keyword_in, mark_in}
use Rattle.c_tree.specs.TypeName.{spelled_of, front_type}
use Rattle.c_tree.specs.ExpressionCut.{node, loosest, expression_of as cut_expression}
use Rattle.c_tree.specs.StatementCut.{stmt, form_of, statement_of}
use Rattle.c_tree.specs.CaseValue.{case_value}
use Rattle.c_tree.specs.UnitCut.{whole, unit_of_tokens}

-- the place of the n-th token, in these rows
abbrev nth : ℕ → Place
nth n = record { header = false; line = 1; start = n; end = n }

abbrev number : ℕ → TokenKind
number n = Number (record { value = n; base = 10; unsigned = false; longs = 0 })

abbrev from : ℕ → List TokenKind → List Token
from n [] = []
from n (x ∷ xs) = record { kind = x; place = nth n; fresh = false } ∷ from (n + 1) xs

abbrev w : List ℕ → TokenKind
w text = Word text

abbrev m : List ℕ → TokenKind
m text = Mark text

-- `int f(void) { body }`
abbrev function : List TokenKind → List Token
function body = from 0 (w (codes "int") ∷ w (codes "f") ∷ m (codes "(") ∷ w (codes "void") ∷ m (codes ")") ∷ m (codes "{") ∷ (body ++ m (codes "}") ∷ []))

abbrev function_tree : List Stmt → Place → Whole
function_tree body close =
    whole (item.Function (record { fixed = false; returns = t.Integer (Plain Int); name = codes "f"; params = []; body = Some body; place = nth 1; close = close }) ∷ [])

abbrev constant : ℕ → ℕ → Expr
constant at n = node (nth at) (k.Constant (record { value = n; base = 10; unsigned = false; longs = 0 }))

empty_unit : unit_of_tokens [] ≡ Ok (whole [])
unfolding bracket_fault
empty_unit = refl

difference : cut_expression 64 (from 0 (number 10 ∷ m (codes "-") ∷ number 4 ∷ m (codes "-") ∷ number 3 ∷ [])) (nth 5)
    ≡ Ok (node (nth 3) (k.Binary op.Subtract (node (nth 1) (k.Binary op.Subtract (constant 0 10) (constant 2 4))) (constant 4 3)))
unfolding keyword_in mark_in spelled_of loosest cut_expression
difference = refl

difference_in_function :
    unit_of_tokens (function (w (codes "return") ∷ number 10 ∷ m (codes "-") ∷ number 4 ∷ m (codes "-") ∷ number 3 ∷ m (codes ";") ∷ []))
    ≡ Ok (function_tree (stmt (nth 6) (s.Return (Some (node (nth 10) (k.Binary op.Subtract (node (nth 8) (k.Binary op.Subtract (constant 7 10) (constant 9 4))) (constant 11 3))))) ∷ []) (nth 13))
unfolding bracket_fault keyword_in mark_in spelled_of front_type loosest cut_expression form_of case_value statement_of
difference_in_function = refl

-- an expression of these tokens, in which brackets may be open up to the limit
abbrev expression : List TokenKind → Result Expr Refusal
expression ks = cut_expression 64 (from 0 ks) (nth 99)

abbrev refused : ℕ → {A : Type 0} → Result A Refusal
refused n = Err (syntax (nth n))

abbrev name : ℕ → List ℕ → Expr
name at text = node (nth at) (k.Name text)

sign_of_the_left_operand : expression (m (codes "-") ∷ w (codes "a") ∷ m (codes "-") ∷ w (codes "b") ∷ [])
    ≡ Ok (node (nth 2) (k.Binary op.Subtract (node (nth 0) (k.Unary sign.Minus (name 1 (codes "a")))) (name 3 (codes "b"))))
unfolding keyword_in mark_in spelled_of loosest cut_expression
sign_of_the_left_operand = refl

less_before_equal : expression (w (codes "a") ∷ m (codes "<") ∷ w (codes "b") ∷ m (codes "==") ∷ w (codes "c") ∷ [])
    ≡ Ok (node (nth 3) (k.Binary op.Equal (node (nth 1) (k.Binary op.Less (name 0 (codes "a")) (name 2 (codes "b")))) (name 4 (codes "c"))))
unfolding keyword_in mark_in spelled_of loosest cut_expression
less_before_equal = refl

cast_of_a_signed_operand : expression (m (codes "(") ∷ w (codes "int") ∷ m (codes ")") ∷ m (codes "-") ∷ w (codes "a") ∷ [])
    ≡ Ok (node (nth 0) (k.Cast (Plain Int) (node (nth 3) (k.Unary sign.Minus (name 4 (codes "a"))))))
unfolding keyword_in mark_in spelled_of loosest cut_expression
cast_of_a_signed_operand = refl

brackets_round_a_name : expression (m (codes "(") ∷ w (codes "a") ∷ m (codes ")") ∷ m (codes "-") ∷ w (codes "b") ∷ [])
    ≡ Ok (node (nth 3) (k.Binary op.Subtract (node (nth 0) (k.Bracket (name 1 (codes "a")))) (name 4 (codes "b"))))
unfolding keyword_in mark_in spelled_of loosest cut_expression
brackets_round_a_name = refl

void_is_no_type_there : expression (m (codes "(") ∷ w (codes "void") ∷ m (codes ")") ∷ m (codes "-") ∷ number 1 ∷ []) ≡ refused 1
unfolding keyword_in mark_in spelled_of loosest cut_expression
void_is_no_type_there = refl

operand_behind_the_end : expression (w (codes "a") ∷ m (codes "+") ∷ []) ≡ refused 99
unfolding keyword_in mark_in spelled_of loosest cut_expression
operand_behind_the_end = refl

two_names : expression (w (codes "a") ∷ m (codes "+") ∷ w (codes "b") ∷ w (codes "c") ∷ []) ≡ refused 2
unfolding keyword_in mark_in spelled_of loosest cut_expression
two_names = refl

call_with_an_empty_argument : expression (w (codes "f") ∷ m (codes "(") ∷ w (codes "a") ∷ m (codes ",") ∷ m (codes ")") ∷ []) ≡ refused 4
unfolding keyword_in mark_in spelled_of loosest cut_expression
call_with_an_empty_argument = refl

-- ---- statements

else_of_the_inner_if :
    unit_of_tokens (function (w (codes "if") ∷ m (codes "(") ∷ number 1 ∷ m (codes ")") ∷ w (codes "if") ∷ m (codes "(") ∷ number 0 ∷ m (codes ")") ∷ m (codes ";") ∷ w (codes "else") ∷ m (codes ";") ∷ []))
    ≡ Ok (function_tree
    (stmt (nth 6) (s.If (constant 8 1) (stmt (nth 10) (s.If (constant 12 0) (stmt (nth 14) s.Empty) (Some (stmt (nth 16) s.Empty)))) None) ∷ []) (nth 17))
unfolding bracket_fault keyword_in mark_in spelled_of front_type loosest cut_expression form_of case_value statement_of
else_of_the_inner_if = refl

no_semicolon : unit_of_tokens (function (w (codes "return") ∷ number 1 ∷ [])) ≡ refused 6
unfolding bracket_fault keyword_in mark_in spelled_of front_type loosest cut_expression form_of case_value statement_of
no_semicolon = refl

two_assignments : unit_of_tokens (function (w (codes "a") ∷ m (codes "=") ∷ w (codes "b") ∷ m (codes "=") ∷ w (codes "c") ∷ m (codes ";") ∷ [])) ≡ refused 8
unfolding bracket_fault keyword_in mark_in spelled_of front_type loosest cut_expression form_of case_value statement_of
two_assignments = refl

break_outside_a_switch : unit_of_tokens (function (w (codes "break") ∷ m (codes ";") ∷ [])) ≡ refused 6
unfolding bracket_fault keyword_in mark_in spelled_of front_type loosest cut_expression form_of case_value statement_of
break_outside_a_switch = refl

switch_with_labels :
    unit_of_tokens (function (w (codes "switch") ∷ m (codes "(") ∷ w (codes "a") ∷ m (codes ")") ∷ m (codes "{")
    ∷ w (codes "case") ∷ m (codes "-") ∷ number 1 ∷ m (codes ":") ∷ w (codes "break") ∷ m (codes ";") ∷ w (codes "default") ∷ m (codes ":") ∷ m (codes "}") ∷ []))
    ≡ Ok (function_tree
    (stmt (nth 6) (s.Switch (name 8 (codes "a"))
    (part.Label (Some (node (nth 12) (k.Unary sign.Minus (constant 13 1)))) (nth 11) ∷ part.Statement (stmt (nth 15) s.Break) ∷ part.Label None (nth 17) ∷ [])) ∷ []) (nth 20))
unfolding bracket_fault keyword_in mark_in spelled_of front_type loosest cut_expression form_of case_value statement_of
switch_with_labels = refl

-- ---- items

empty_struct : unit_of_tokens (from 0 (w (codes "struct") ∷ w (codes "s") ∷ m (codes "{") ∷ m (codes "}") ∷ m (codes ";") ∷ [])) ≡ refused 3
unfolding bracket_fault keyword_in mark_in spelled_of front_type loosest cut_expression form_of case_value statement_of
empty_struct = refl

no_parameters : unit_of_tokens (from 0 (w (codes "int") ∷ w (codes "f") ∷ m (codes "(") ∷ m (codes ")") ∷ m (codes ";") ∷ [])) ≡ refused 3
unfolding bracket_fault keyword_in mark_in spelled_of front_type loosest cut_expression form_of case_value statement_of
no_parameters = refl

-- ---- brackets

closing_without_opening : unit_of_tokens (from 0 (w (codes "int") ∷ m (codes "(") ∷ m (codes "]") ∷ m (codes ")") ∷ [])) ≡ refused 2
unfolding bracket_fault keyword_in mark_in
closing_without_opening = refl

opening_without_closing : unit_of_tokens (from 0 (w (codes "int") ∷ m (codes "{") ∷ m (codes "(") ∷ m (codes ")") ∷ [])) ≡ refused 1
unfolding bracket_fault keyword_in mark_in
opening_without_closing = refl
