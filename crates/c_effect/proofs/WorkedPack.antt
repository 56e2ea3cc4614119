-- A worked function by the steps, for every model and number: it asks the size, clears its buffer, ors what a helper gives of a field, and returns.
use Rattle.std.proofs.Common.{◌≡◌, ℕ, ◌*◌, ◌%◌, ◌^◌, ◌<◌, ◌≤◌, false, List, [], ◌∷◌, Option, Some, None, refl, ◌∙◌, arith, Ok, pos, inl, true}
use Rattle.std.specs.Prelude.{codes, bit_and, bit_or, int_lt}
use Rattle.std.proofs.lemmas.Bool.Decides.{nat_tests}
use Rattle.std.proofs.lemmas.Nat.{and_le_r}
use Rattle.c_text.specs.declared.token.IntType.TheVariants as t
use Rattle.c_text.specs.declared.token.Spelled.TheVariants.{Size, Plain}
use Rattle.c_tree.specs.declared.expression.BinaryOp.TheVariants as o
use Rattle.c_tree.specs.declared.expression.Callee.TheVariants.{Name, Memset}
use Rattle.c_tree.specs.declared.expression.Expr.{Expr}
use Rattle.c_tree.specs.declared.expression.ExprKind.TheVariants as k
use Rattle.c_tree.specs.declared.expression.UnaryOp.TheVariants as u
use Rattle.c_tree.specs.declared.item.CType.{CType}
use Rattle.c_tree.specs.declared.item.CType.TheVariants as c
use Rattle.c_tree.specs.declared.item.Field.{Field}
use Rattle.c_tree.specs.declared.item.Function.{Function}
use Rattle.c_tree.specs.declared.item.Item.{Item}
use Rattle.c_tree.specs.declared.item.Item.TheVariants as item
use Rattle.c_tree.specs.declared.item.Target.TheVariants as target
use Rattle.c_tree.specs.declared.item.Unit.{Unit as Whole}
use Rattle.c_tree.specs.declared.statement.AssignOp.TheVariants as a
use Rattle.c_tree.specs.declared.statement.Stmt.{Stmt}
use Rattle.c_tree.specs.declared.statement.StmtKind.TheVariants as s
use Rattle.c_mem.specs.declared.objects.Object.{Object}
use Rattle.c_mem.specs.declared.objects.Object.TheVariants.{Bytes, Fields}
use Rattle.c_mem.specs.declared.objects.Pointer.TheVariants.{At}
use Rattle.c_widths.specs.DataModel.{DataModel}
use Rattle.c_widths.specs.IntegerType.{size_type, exact_type}
use Rattle.c_operators.specs.Value.{typed}
use Rattle.c_operators.proofs.Models.{IsOneOf}
use Rattle.c_operators.proofs.Numbers.{convert-fits, fits-Int, operate-Less}
use Rattle.c_operators.proofs.Exact.{sizes, size-fits, exact-byte}
use Rattle.c_types.specs.Setting.{structs}
use Rattle.c_effect.specs.declared.state.Arg.{Arg}
use Rattle.c_effect.specs.declared.state.Arg.TheVariants as arg
use Rattle.c_effect.specs.declared.state.Flow.TheVariants.{Next}
use Rattle.c_effect.specs.Locals.{Block}
use Rattle.c_effect.specs.World.{World}
use Rattle.c_effect.specs.FunctionCall.{call, ended, unit_world}
use Rattle.c_effect.proofs.Equations.{node, stmt}
use Rattle.c_effect.proofs.Expressions.{Gives, AtBytes, AtField, gives-Name, gives-Binary, gives-Member, gives-int, gives-unsigned, slot-is}
use Rattle.c_effect.proofs.Locals.{reads-number, reads-pointer, points-at}
use Rattle.c_effect.proofs.Statements.{Ends, ends-If-passed, memset-fills, ors-element, ends-Return}
use Rattle.c_effect.proofs.Sequences.{sequence-first, sequence-last}
use Rattle.c_effect.proofs.Calls.{AllGive, give-nil, give-cons, gives-call-of, parameters, runs-returned}
use Rattle.c_effect.proofs.WorkedHelper.{at, byte, name, param, helper, helper-gives}

abbrev number : ℕ → Expr
number n = node at (k.Constant (record { value = n; base = 10; unsigned = false; longs = 0 }))

abbrev unsigned : ℕ → Expr
unsigned n = node at (k.Constant (record { value = n; base = 10; unsigned = true; longs = 0 }))

abbrev of_type : CType → List ℕ → Field
of_type kind n = record { kind = kind; name = n; place = at }

-- struct s { uint8_t a; };
abbrev struct_s : Item
struct_s = item.Struct (record { tag = codes "s"; fields = param byte (codes "a") ∷ []; place = at })

-- if (size < 1u) { return (-22); }
abbrev ask_size : Stmt
ask_size = stmt at (s.If (node at (k.Binary o.Less (name (codes "size")) (unsigned 1))) (stmt at (s.Block (stmt at (s.Return (Some (node at (k.Bracket (node at (k.Unary u.Minus (number 22))))))) ∷ []))) None)

-- memset(to, 0, 1);
abbrev clear : Stmt
clear = stmt at (s.Call Memset (name (codes "to") ∷ number 0 ∷ number 1 ∷ []))

-- left_shift(from->a, 0u, 255u)
abbrev part_of_a : Expr
part_of_a = node at (k.Call (Name (codes "left_shift")) (node at (k.Member (codes "from") (codes "a")) ∷ unsigned 0 ∷ unsigned 255 ∷ []))

-- to[0] |= left_shift(from->a, 0u, 255u);
abbrev or_part : Stmt
or_part = stmt at (s.Assign (node at (k.Element (codes "to") (number 0))) a.BitOr part_of_a)

-- return 1;
abbrev answer : Stmt
answer = stmt at (s.Return (Some (number 1)))

-- int pack(uint8_t *to, const struct s *from, size_t size)
abbrev pack : Function
pack = record {
  fixed = false;
  returns = c.Integer (Plain t.Int);
  name = codes "pack";
  params = of_type (c.Pointer target.Byte false) (codes "to") ∷ of_type (c.Pointer (target.Struct (codes "s")) true) (codes "from") ∷ of_type (c.Integer Size) (codes "size") ∷ [];
  body = Some (ask_size ∷ clear ∷ or_part ∷ answer ∷ []);
  place = at;
  close = at;
}

abbrev unit : Whole
unit = record { items = struct_s ∷ item.Function (helper 8) ∷ item.Function pack ∷ [] }

abbrev arguments : ℕ → List Arg
arguments size = arg.Pointer (At 0) ∷ arg.Pointer (At 1) ∷ arg.Integer (pos size) ∷ []

-- a buffer of one byte, and a struct
abbrev objects : Option ℕ → ℕ → List Object
objects cell x = Bytes (cell ∷ []) ∷ Fields (codes "s") (Some (pos x) ∷ []) ∷ []

module _ (m : DataModel) (one : IsOneOf m) (size x : ℕ) (cell : Option ℕ) (room : 1 ≤ size) (hs : size < 2 ^ 32) (hx : x < 2 ^ 8) where
  abbrev w : World
  w = unit_world m unit.items

  abbrev locals : List Block
  locals = parameters m pack (arguments size)

  abbrev given : ℕ
  given = bit_and (x * 2 ^ 0 % 2 ^ 8) 255

  size-is : Gives w locals (objects cell x) (name (codes "size")) (size_type m) (pos size)
  size-is = gives-Name w locals _ at _ _ _ (reads-number _ _ _ _ (rw (convert-fits m (size_type m) size (size-fits m one size hs)) refl))

  enough : Ends w locals (objects cell x) ask_size (Ok Next) locals (objects cell x)
  enough =
      let test : int_lt (pos size) (pos 1) ≡ false = grind (arith, nat_tests) in
      let less = operate-Less m (size_type m) t.UnsignedInt (size_type m) (pos size) (pos 1) (sizes m one).joins (convert-fits m (size_type m) size (size-fits m one size hs)) (convert-fits m (size_type m) 1 (size-fits m one 1 (omega arith))) in
      let condition = gives-Binary w locals (objects cell x) at o.Less _ _ _ _ t.Int _ _ (pos 0) refl size-is (gives-unsigned w locals _ one at 1 10 (omega arith)) (rw test at less) in
      ends-If-passed w locals (objects cell x) at _ _ _ condition.gives refl

  cleared : Ends w locals (objects cell x) clear (Ok Next) locals (objects (Some 0) x)
  cleared = memset-fills w locals (objects cell x) one at at (codes "to") _ _ 0 0 1 (cell ∷ []) t.Int t.Int
      (reads-pointer _ _ _ refl) refl (gives-int w locals _ one at 0 (omega arith)) (omega arith) (gives-int w locals _ one at 1 (omega arith))
      (convert-fits m (size_type m) 1 (size-fits m one 1 (omega arith))) (omega arith)

  -- the struct is behind the buffer, which is cleared
  field-of : AtField w locals (objects (Some 0) x) (codes "from") (codes "a") 1 (codes "s") (Some (pos x) ∷ []) 0 (exact_type m 8 false)
  field-of = record { points = points-at _ _ _ refl; there = refl; is = slot-is w (codes "s") (codes "a") 0 (param byte (codes "a")) (exact_type m 8 false) refl refl }

  all-give : AllGive w locals (objects (Some 0) x) (node at (k.Member (codes "from") (codes "a")) ∷ unsigned 0 ∷ unsigned 255 ∷ [])
      (typed (exact_type m 8 false) (pos x) ∷ typed t.UnsignedInt (pos 0) ∷ typed t.UnsignedInt (pos 255) ∷ [])
  all-give =
      give-cons w locals _ _ _ _ _ _ (gives-Member w locals _ at _ _ _ _ _ _ _ _ field-of refl)
      (give-cons w locals _ _ _ _ _ _ (gives-unsigned w locals _ one at 0 10 (omega arith))
      (give-cons w locals _ _ _ _ _ _ (gives-unsigned w locals _ one at 255 10 (omega arith)) (give-nil w locals _)))

  part-is : Gives w locals (objects (Some 0) x) part_of_a (exact_type m 8 false) (pos given)
  part-is = gives-call-of m unit.items locals _ [] at (codes "left_shift") _ _ (helper 8) _ _ refl all-give (helper-gives m one (structs unit.items) 8 x 0 255 (inl refl) hx (omega arith) (omega arith))

  ored : Ends w locals (objects (Some 0) x) or_part (Ok Next) locals (objects (Some (bit_or 0 given)) x)
  ored =
      let small : given < 2 ^ 8 = omega (arith, and_le_r (x * 2 ^ 0 % 2 ^ 8) 255) in
      let at_bytes : AtBytes w locals (objects (Some 0) x) (codes "to") 0 (Some 0 ∷ []) = record { points = points-at _ _ _ refl; there = refl } in
      ors-element w locals (objects (Some 0) x) one at at (codes "to") (number 0) part_of_a t.Int 0 0 0 given (Some 0 ∷ []) at_bytes
      (gives-int w locals _ one at 0 (omega arith)) (rw (exact-byte m one) at part-is) refl (omega arith) small

  packs : call m unit pack (arguments size) (objects cell x) ≡ ended (Ok (Some (typed t.Int (pos 1)))) (objects (Some (bit_or 0 given)) x)
  packs =
      runs-returned w pack _ (arguments size) (objects cell x) (objects (Some (bit_or 0 given)) x) refl (Plain t.Int) (typed t.Int (pos 1)) locals refl
      (sequence-first w locals _ ask_size (clear ∷ or_part ∷ answer ∷ []) locals _ enough
      ∙ sequence-first w locals _ clear (or_part ∷ answer ∷ []) locals _ cleared
      ∙ sequence-first w locals _ or_part (answer ∷ []) locals _ ored
      ∙ sequence-last w locals _ answer [] _ locals _ (ends-Return w locals _ at (number 1) t.Int (pos 1) (gives-int w locals _ one at 1 (omega arith))))
      ∙ rw (convert-fits m t.Int 1 (fits-Int m one 1 1 (omega arith) (omega arith))) refl
