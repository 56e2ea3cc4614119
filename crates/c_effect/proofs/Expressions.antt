-- What expressions give (ISO/IEC 9899:1999, 6.5), from what their operands give: one step each.
use Rattle.std.proofs.Common.{◌≡◌, ℕ, ◌<◌, ◌^◌, true, false, List, Some, ◌∙◌, refl, Ok, pos, ℤ}
use Rattle.std.specs.Prelude.{slice_get}
use Rattle.c_text.specs.declared.place.Place.{Place}
use Rattle.c_text.specs.declared.token.Constant.{Constant}
use Rattle.c_text.specs.declared.token.IntType.{IntType}
use Rattle.c_text.specs.declared.token.IntType.TheVariants as t
use Rattle.c_text.specs.declared.token.Spelled.{Spelled}
use Rattle.c_tree.specs.declared.expression.BinaryOp.{BinaryOp}
use Rattle.c_tree.specs.declared.expression.BinaryOp.TheVariants as o
use Rattle.c_tree.specs.declared.expression.Expr.{Expr}
use Rattle.c_tree.specs.declared.expression.ExprKind.TheVariants as k
use Rattle.c_tree.specs.declared.expression.UnaryOp.{UnaryOp}
use Rattle.c_tree.specs.declared.item.Field.{Field}
use Rattle.c_mem.specs.declared.objects.Object.{Object}
use Rattle.c_mem.specs.declared.objects.Object.TheVariants.{Bytes, Fields}
use Rattle.c_mem.specs.declared.objects.Pointer.TheVariants.{At}
use Rattle.c_mem.specs.Cells.{CellsOf}
use Rattle.c_widths.specs.IntegerType.{type_of}
use Rattle.c_widths.specs.Conversion.{convert}
use Rattle.c_operators.specs.declared.value.Value.TheVariants.{Integer}
use Rattle.c_operators.specs.Value.{typed, truth_value, is_true}
use Rattle.c_operators.specs.Sign.{signed, constant}
use Rattle.c_operators.specs.Operator.{operate}
use Rattle.c_operators.proofs.Models.{IsOneOf}
use Rattle.c_operators.proofs.Numbers.{constant-int, constant-unsigned}
use Rattle.c_types.specs.ExpressionTypes.{integer_type}
use Rattle.c_types.specs.FieldNamed.{field_in}
use Rattle.c_effect.specs.Locals.{Block, read_local, read_pointer}
use Rattle.c_effect.specs.World.{World}
use Rattle.c_effect.specs.Loading.{slot, slot_named}
use Rattle.c_effect.specs.ExpressionValue.{value, is_logical}
use Rattle.c_effect.proofs.Equations.{node, at-Constant, at-Name, at-Member, at-Element, at-Unary, at-Cast, at-Binary, at-Bracket}

module _ (w : World) (locals : List Block) (objects : List Object) where
  -- an expression gives a number
  pub record Gives (x : Expr) (kind : IntType) (z : ℤ) : Type 0 where
    pub gives : value w x locals objects ≡ Ok (Integer (typed kind z))

  -- ---- constants

  pub gives-Constant : (p : Place) (c : Constant) (kind : IntType) (z : ℤ) → constant w.model c ≡ Ok (typed kind z) → Gives (node p (k.Constant c)) kind z
  gives-Constant p c kind z h = record { gives = at-Constant w p c locals objects ∙ rw h refl }

  pub gives-int : IsOneOf w.model → (p : Place) (n : ℕ) → n < 2 ^ 31 → Gives (node p (k.Constant (record { value = n; base = 10; unsigned = false; longs = 0 }))) t.Int (pos n)
  gives-int one p n h = gives-Constant p _ t.Int (pos n) (constant-int w.model one n h)

  pub gives-unsigned : IsOneOf w.model → (p : Place) (n base : ℕ) → n < 2 ^ 32 → Gives (node p (k.Constant (record { value = n; base = base; unsigned = true; longs = 0 }))) t.UnsignedInt (pos n)
  gives-unsigned one p n base h = gives-Constant p _ t.UnsignedInt (pos n) (constant-unsigned w.model one n base h)

  -- ---- locals, and what a pointer is at

  pub gives-Name : (p : Place) (name : List ℕ) (kind : IntType) (z : ℤ) → read_local name locals ≡ Ok (Integer (typed kind z)) → Gives (node p (k.Name name)) kind z
  gives-Name p name kind z h = record { gives = at-Name w p name locals objects ∙ rw h refl }

  -- a pointer is at an object of bytes
  pub record AtBytes (base : List ℕ) (n : ℕ) (cells : CellsOf ℕ) : Type 0 where
    pub points : read_pointer base locals ≡ Ok (At n)
    pub there : slice_get objects n ≡ Some (Bytes cells)

  pub gives-Element : (p : Place) (base : List ℕ) (index : Expr) (kind : IntType) (n i byte : ℕ) (cells : CellsOf ℕ) → AtBytes base n cells → Gives index kind (pos i)
      → slice_get cells i ≡ Some (Some byte) → Gives (node p (k.Element base index)) t.UnsignedChar (pos byte)
  gives-Element p base index kind n i byte cells b h has = record { gives = at-Element w p base index locals objects ∙ rw (h.gives, b.points, b.there, has) refl }

  -- a pointer is at an object of fields, whose field has a number and a type
  pub record AtField (base field : List ℕ) (n : ℕ) (tag : List ℕ) (cells : CellsOf ℤ) (i : ℕ) (kind : IntType) : Type 0 where
    pub points : read_pointer base locals ≡ Ok (At n)
    pub there : slice_get objects n ≡ Some (Fields tag cells)
    pub is : slot_named w tag field ≡ Ok (slot i kind)

  pub gives-Member : (p : Place) (base field : List ℕ) (n : ℕ) (tag : List ℕ) (cells : CellsOf ℤ) (i : ℕ) (kind : IntType) (z : ℤ)
      → AtField base field n tag cells i kind → slice_get cells i ≡ Some (Some z) → Gives (node p (k.Member base field)) kind z
  gives-Member p base field n tag cells i kind z f has = record { gives = at-Member w p base field locals objects ∙ rw (f.points, f.there, f.is, has) refl }

  -- ---- operators

  pub gives-Bracket : (p : Place) (x : Expr) (kind : IntType) (z : ℤ) → Gives x kind z → Gives (node p (k.Bracket x)) kind z
  gives-Bracket p x kind z h = record { gives = at-Bracket w p x locals objects ∙ h.gives }

  pub gives-Cast : (p : Place) (to : Spelled) (x : Expr) (kind : IntType) (z y : ℤ) → Gives x kind z → convert w.model (type_of w.model to) z ≡ y
      → Gives (node p (k.Cast to x)) (type_of w.model to) y
  gives-Cast p to x kind z y h c = record { gives = at-Cast w p to x locals objects ∙ rw (h.gives, c) refl }

  pub gives-Unary : (p : Place) (op : UnaryOp) (x : Expr) (a b : IntType) (z y : ℤ) → Gives x a z → signed w.model op (typed a z) ≡ Ok (typed b y)
      → Gives (node p (k.Unary op x)) b y
  gives-Unary p op x a b z y h g = record { gives = at-Unary w p op x locals objects ∙ rw (h.gives, g) refl }

  pub gives-Binary : (p : Place) (op : BinaryOp) (l r : Expr) (a b c : IntType) (x y z : ℤ) → is_logical op ≡ false
      → Gives l a x → Gives r b y → operate w.model op (typed a x) (typed b y) ≡ Ok (typed c z)
      → Gives (node p (k.Binary op l r)) c z
  gives-Binary p op l r a b c x y z plain hl hr h = record { gives = at-Binary w p op l r locals objects ∙ rw (hl.gives, plain, hr.gives, h) refl }

  -- ---- `&&` and `||`: the left side decides, or the right side

  pub gives-And-left : (p : Place) (l r : Expr) (a : IntType) (x : ℤ) → Gives l a x → is_true (Integer (typed a x)) ≡ false
      → Gives (node p (k.Binary o.LogicalAnd l r)) t.Int (pos 0)
  gives-And-left p l r a x h is = record { gives = at-Binary w p o.LogicalAnd l r locals objects ∙ rw (h.gives, is) refl }

  pub gives-And-right : (p : Place) (l r : Expr) (a b : IntType) (x y : ℤ) → Gives l a x → is_true (Integer (typed a x)) ≡ true → Gives r b y
      → Gives (node p (k.Binary o.LogicalAnd l r)) t.Int (truth_value (is_true (Integer (typed b y)))).value
  gives-And-right p l r a b x y h is g = record { gives = at-Binary w p o.LogicalAnd l r locals objects ∙ rw (h.gives, is, g.gives) refl }

  pub gives-Or-left : (p : Place) (l r : Expr) (a : IntType) (x : ℤ) → Gives l a x → is_true (Integer (typed a x)) ≡ true
      → Gives (node p (k.Binary o.LogicalOr l r)) t.Int (pos 1)
  gives-Or-left p l r a x h is = record { gives = at-Binary w p o.LogicalOr l r locals objects ∙ rw (h.gives, is) refl }

  pub gives-Or-right : (p : Place) (l r : Expr) (a b : IntType) (x y : ℤ) → Gives l a x → is_true (Integer (typed a x)) ≡ false → Gives r b y
      → Gives (node p (k.Binary o.LogicalOr l r)) t.Int (truth_value (is_true (Integer (typed b y)))).value
  gives-Or-right p l r a b x y h is g = record { gives = at-Binary w p o.LogicalOr l r locals objects ∙ rw (h.gives, is, g.gives) refl }

-- the cell of a field, by its struct
pub slot-is : (w : World) (tag name : List ℕ) (i : ℕ) (f : Field) (kind : IntType) → field_in tag name w.structs ≡ Some (i, f) → integer_type w.model f.kind ≡ Some kind
    → slot_named w tag name ≡ Ok (slot i kind)
unfolding slot_named
slot-is w tag name i f kind e is = rw (e, is) refl
