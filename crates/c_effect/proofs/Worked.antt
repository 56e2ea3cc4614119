-- Worked programs and faults, each by computation: what each tree means is rewritten by the equations, and all else computes.
use Rattle.std.proofs.Common.{◌≡◌, ℕ, false, List, [], ◌∷◌, Some, None, refl, Ok, Err, pos}
use Rattle.std.specs.Prelude.{codes}
use Rattle.c_text.specs.declared.place.Place.{Place}
use Rattle.c_text.specs.declared.token.IntType.TheVariants as t
use Rattle.c_text.specs.declared.token.Spelled.{Spelled}
use Rattle.c_text.specs.declared.token.Spelled.TheVariants.{Exact, Plain}
use Rattle.c_tree.specs.declared.expression.BinaryOp.TheVariants as o
use Rattle.c_tree.specs.declared.expression.Callee.TheVariants.{Name, Memset}
use Rattle.c_tree.specs.declared.expression.Expr.{Expr}
use Rattle.c_tree.specs.declared.expression.ExprKind.TheVariants as k
use Rattle.c_tree.specs.declared.expression.UnaryOp.TheVariants as u
use Rattle.c_tree.specs.declared.item.CType.TheVariants as c
use Rattle.c_tree.specs.declared.item.CType.{CType}
use Rattle.c_tree.specs.declared.item.Field.{Field}
use Rattle.c_tree.specs.declared.item.Function.{Function}
use Rattle.c_tree.specs.declared.statement.AssignOp.TheVariants as a
use Rattle.c_tree.specs.declared.statement.Stmt.{Stmt}
use Rattle.c_tree.specs.declared.item.Item.{Item}
use Rattle.c_tree.specs.declared.item.Item.TheVariants as item
use Rattle.c_tree.specs.declared.item.Unit.{Unit as Whole}
use Rattle.c_tree.specs.declared.statement.StmtKind.TheVariants as s
use Rattle.c_tree.specs.declared.statement.SwitchPart.TheVariants as p
use Rattle.c_tree.specs.declared.item.Target.TheVariants as target
use Rattle.c_mem.specs.declared.undefined.Undefined.{Undefined}
use Rattle.c_mem.specs.declared.undefined.Undefined.TheVariants.{NullUse, OutOfBounds, Indeterminate, NoValue, Overflow, ShiftCount, ShiftOverflow, NegativeRightShift}
use Rattle.c_mem.specs.declared.objects.Object.TheVariants.{Bytes, Fields}
use Rattle.c_mem.specs.declared.objects.Pointer.TheVariants.{Stray, At}
use Rattle.c_widths.specs.DataModel.{DataModel}
use Rattle.c_widths.specs.IntegerType.{exact_type, size_type}
use Rattle.c_widths.specs.Conversion.{wrap}
use Rattle.c_widths.specs.ConstantType.{constant_type}
use Rattle.c_operators.specs.Value.{typed}
use Rattle.c_operators.specs.Operator.{operate}
use Rattle.c_operators.proofs.Models.{IsOneOf, for_each}
use Rattle.c_effect.specs.declared.state.Arg.{Arg}
use Rattle.c_effect.specs.declared.state.Arg.TheVariants as arg
use Rattle.c_effect.specs.declared.state.Held.TheVariants.{Pointer as Address}
use Rattle.c_effect.specs.Locals.{read_local, read_pointer, set_local, declare_local}
use Rattle.c_effect.specs.Loading.{slot_named}
use Rattle.c_effect.specs.World.{World, world, no_calls, stop}
use Rattle.c_effect.specs.ExpressionValue.{value}
use Rattle.c_effect.specs.Ending.{after}
use Rattle.c_effect.specs.Choosing.{chosen}
use Rattle.c_effect.specs.StatementEffect.{effect}
use Rattle.c_effect.specs.FunctionCall.{ended, run_in, unit_calls, call}
use Rattle.c_effect.proofs.Equations.{node, stmt, meanings}

abbrev at : Place
at = record { header = false; line = 1; start = 0; end = 0 }

abbrev number : ℕ → Expr
number n = node at (k.Constant (record { value = n; base = 10; unsigned = false; longs = 0 }))

abbrev UnderBoth : (DataModel → Type 0) → Type 0
UnderBoth P = (m : DataModel) → IsOneOf m → P m

-- ---- undefined behaviour

-- an expression, without locals and objects, is undefined
abbrev Faults : Undefined → Expr → DataModel → Type 0
Faults kind x m = value (world m [] no_calls) x [] [] ≡ Err (stop kind at)

abbrev minus_one : Expr
minus_one = node at (k.Unary u.Minus (number 1))

-- 1 << 32 (6.5.7p3)
shift-by-the-width : UnderBoth (Faults ShiftCount (node at (k.Binary o.ShiftLeft (number 1) (number 32))))
unfolding constant_type wrap operate
shift-by-the-width = for_each _ (simp meanings) (simp meanings)

-- -1 << 0 (6.5.7p4)
negative-shifted-left : UnderBoth (Faults ShiftOverflow (node at (k.Binary o.ShiftLeft minus_one (number 0))))
unfolding constant_type wrap operate
negative-shifted-left = for_each _ (simp meanings) (simp meanings)

-- -1 >> 0 (6.5.7p5)
negative-shifted-right : UnderBoth (Faults NegativeRightShift (node at (k.Binary o.ShiftRight minus_one (number 0))))
unfolding constant_type wrap operate
negative-shifted-right = for_each _ (simp meanings) (simp meanings)

-- 2147483647 + 1 (6.5p5)
sum-too-large : UnderBoth (Faults Overflow (node at (k.Binary o.Add (number 2147483647) (number 1))))
unfolding constant_type wrap operate
sum-too-large = for_each _ (simp meanings) (simp meanings)

-- memset(NULL, 0, 0); (7.1.4, 7.21.1p2)
null-filled : UnderBoth (λ m. effect (world m [] no_calls) (stmt at (s.Call Memset (node at k.Null ∷ number 0 ∷ number 0 ∷ []))) [] [] ≡ after (Err (stop NullUse at)) [] [])
unfolding constant_type wrap size_type
null-filled = for_each _ (simp meanings) (simp meanings)

-- p == NULL, of a pointer to no object (6.2.4p2, 6.5.9)
stray-compared : (w : World) → value w (node at (k.Binary o.Equal (node at (k.Name (codes "p"))) (node at k.Null))) (((codes "p", Address Stray) ∷ []) ∷ []) [] ≡ Err (stop OutOfBounds at)
unfolding read_local
stray-compared w = simp meanings

-- ---- functions

abbrev int : Spelled
int = Plain t.Int

abbrev param : CType → List ℕ → Field
param kind n = record { kind = kind; name = n; place = at }

abbrev function : List ℕ → List Field → CType → List Stmt → Function
function n params returns body = record { fixed = false; returns = returns; name = n; params = params; body = Some body; place = at; close = at }

abbrev name : List ℕ → Expr
name n = node at (k.Name n)

abbrev declare : List ℕ → Stmt
declare n = stmt at (s.Declare int n None)

abbrev set_to : List ℕ → ℕ → Stmt
set_to n z = stmt at (s.Assign (name n) a.Set (number z))

abbrev return_of : Expr → Stmt
return_of x = stmt at (s.Return (Some x))

-- int id(int a) { return a; } int top(void) { return id(5); }
abbrev id_function : Function
id_function = function (codes "id") (param (c.Integer int) (codes "a") ∷ []) (c.Integer int) (return_of (name (codes "a")) ∷ [])

abbrev top_function : Function
top_function = function (codes "top") [] (c.Integer int) (return_of (node at (k.Call (Name (codes "id")) (number 5 ∷ []))) ∷ [])

abbrev unit : Whole
unit = record { items = item.Function id_function ∷ item.Function top_function ∷ [] }

-- a call without objects gives an int
abbrev Returns : Function → List Arg → ℕ → DataModel → Type 0
Returns f args n m = call m unit f args [] ≡ ended (Ok (Some (typed t.Int (pos n)))) []

top-gives-five : UnderBoth (Returns top_function [] 5)
unfolding constant_type wrap read_local run_in unit_calls
top-gives-five = for_each _ (simp meanings) (simp meanings)

-- int f(void) { int a; a = 1; { int a; a = 2; } return a; }
abbrev hiding : Function
hiding = function (codes "f") [] (c.Integer int) (declare (codes "a") ∷ set_to (codes "a") 1 ∷ stmt at (s.Block (declare (codes "a") ∷ set_to (codes "a") 2 ∷ [])) ∷ return_of (name (codes "a")) ∷ [])

-- a local of a block hides the one around it, and is gone behind the block (6.2.1p4)
hidden : UnderBoth (Returns hiding [] 1)
unfolding constant_type wrap read_local set_local declare_local run_in
hidden = for_each _ (simp meanings) (simp meanings)

-- int f(int x) { int a; a = 1; switch (x) { case 2: case 3: a = 5; break; default: a = 7; } return a; }
abbrev choosing : Function
choosing = function (codes "f") (param (c.Integer int) (codes "x") ∷ []) (c.Integer int) (declare (codes "a") ∷ set_to (codes "a") 1
    ∷ stmt at (s.Switch (name (codes "x")) (p.Label (Some (number 2)) at ∷ p.Label (Some (number 3)) at ∷ p.Statement (set_to (codes "a") 5) ∷ p.Statement (stmt at s.Break) ∷ p.Label None at ∷ p.Statement (set_to (codes "a") 7) ∷ []))
    ∷ return_of (name (codes "a")) ∷ [])

case-met : UnderBoth (Returns choosing (arg.Integer (pos 2) ∷ []) 5)
unfolding constant_type wrap read_local set_local declare_local chosen run_in
case-met = for_each _ (simp meanings) (simp meanings)

default-met : UnderBoth (Returns choosing (arg.Integer (pos 4) ∷ []) 7)
unfolding constant_type wrap read_local set_local declare_local chosen run_in
default-met = for_each _ (simp meanings) (simp meanings)

-- int f(void) { int a; return a; } (6.7.8p10)
unset-read : UnderBoth (λ m. call m unit (function (codes "f") [] (c.Integer int) (declare (codes "a") ∷ return_of (name (codes "a")) ∷ [])) [] [] ≡ ended (Err (stop Indeterminate at)) [])
unfolding read_local declare_local run_in
unset-read = for_each _ (simp meanings) (simp meanings)

-- int f(void) { } (6.9.1p12)
end-met : UnderBoth (λ m. call m unit (function (codes "f") [] (c.Integer int) []) [] [] ≡ ended (Err (stop NoValue at)) [])
unfolding run_in
end-met = for_each _ refl refl

-- ---- objects

abbrev bytes : CType
bytes = c.Pointer target.Byte false

-- void f(uint8_t *p) { memset(p, 258, 2); p[0] |= 1; }: memset takes the low byte
abbrev filling : Function
filling = function (codes "f") (param bytes (codes "p") ∷ []) c.Void (stmt at (s.Call Memset (name (codes "p") ∷ number 258 ∷ number 2 ∷ []))
    ∷ stmt at (s.Assign (node at (k.Element (codes "p") (number 0))) a.BitOr (number 1)) ∷ [])

filled-bytes : UnderBoth (λ m. call m unit filling (arg.Pointer (At 0) ∷ []) (Bytes (None ∷ None ∷ None ∷ []) ∷ []) ≡ ended (Ok None) (Bytes (Some 3 ∷ Some 2 ∷ None ∷ []) ∷ []))
unfolding constant_type wrap size_type operate read_local read_pointer run_in
filled-bytes = for_each _ (simp meanings) (simp meanings)

-- struct s { uint16_t a; uint8_t b; };
abbrev struct_s : Item
struct_s = item.Struct (record { tag = codes "s"; fields = param (c.Integer (Exact 16 false)) (codes "a") ∷ param (c.Integer (Exact 8 false)) (codes "b") ∷ []; place = at })

-- void f(struct s *p) { p->b = 300; }
abbrev storing : Function
storing = function (codes "f") (param (c.Pointer (target.Struct (codes "s")) false) (codes "p") ∷ []) c.Void (stmt at (s.Assign (node at (k.Member (codes "p") (codes "b"))) a.Set (number 300)) ∷ [])

-- the number is converted to the type of the field (6.5.16.1p2)
field-stored : UnderBoth (λ m. call m (record { items = struct_s ∷ [] }) storing (arg.Pointer (At 0) ∷ []) (Fields (codes "s") (Some (pos 7) ∷ None ∷ []) ∷ []) ≡ ended (Ok None) (Fields (codes "s") (Some (pos 7) ∷ Some (pos 44) ∷ []) ∷ []))
unfolding constant_type wrap exact_type read_pointer slot_named run_in
field-stored = for_each _ (simp meanings) (simp meanings)
