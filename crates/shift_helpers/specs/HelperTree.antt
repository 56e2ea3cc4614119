-- The helpers as trees: a name, three parameters and the one expression that is returned.
use Rattle.std.specs.Prelude.{ℕ, true, false, ◌==◌, if◌then◌else◌, List, [], ◌∷◌, ◌++◌, codes, Some}
use Rattle.c_text.specs.declared.place.Place.{Place}
use Rattle.c_text.specs.declared.token.Spelled.TheVariants.{Exact}
use Rattle.c_tree.specs.declared.expression.BinaryOp.{BinaryOp}
use Rattle.c_tree.specs.declared.expression.BinaryOp.TheVariants as o
use Rattle.c_tree.specs.declared.expression.Expr.{Expr}
use Rattle.c_tree.specs.declared.expression.ExprKind.{ExprKind}
use Rattle.c_tree.specs.declared.expression.ExprKind.TheVariants as k
use Rattle.c_tree.specs.declared.item.CType.{CType}
use Rattle.c_tree.specs.declared.item.CType.TheVariants.{Integer}
use Rattle.c_tree.specs.declared.item.Field.{Field}
use Rattle.c_tree.specs.declared.item.Function.{Function}
use Rattle.c_tree.specs.declared.statement.Stmt.{Stmt}
use Rattle.c_tree.specs.declared.statement.StmtKind.TheVariants.{Return}
use Rattle.shift_helpers.specs.declared.helper.HelperKind.{HelperKind}
use Rattle.shift_helpers.specs.declared.helper.HelperKind.TheVariants as h
use Rattle.shift_helpers.specs.HelperResult.{taken_width, given_width}

-- ---- expressions

-- the place of a tree that no text has
abbrev pub nowhere : Place
nowhere = record { header = false; line = 0; start = 0; end = 0 }

abbrev pub node : ExprKind → Expr
node kind = record { place = nowhere; kind = kind }

abbrev pub name_of : List ℕ → Expr
name_of n = node (k.Name n)

-- (uintW_t)(left op right)
abbrev pub cast_of : ℕ → BinaryOp → Expr → Expr → Expr
cast_of w op left right = node (k.Cast (Exact w false) (node (k.Bracket (node (k.Binary op left right)))))

-- (uint8_t)((uint8_t)(value op shift) & mask)
unfoldable pub packed : BinaryOp → Expr
packed op = cast_of 8 o.BitAnd (cast_of 8 op (name_of (codes "value")) (name_of (codes "shift"))) (name_of (codes "mask"))

-- (uintW_t)((uintW_t)(value & mask) op shift)
unfoldable pub unpacked : ℕ → BinaryOp → Expr
unpacked w op = cast_of w op (cast_of w o.BitAnd (name_of (codes "value")) (name_of (codes "mask"))) (name_of (codes "shift"))

-- what a helper returns
unfoldable pub returned : HelperKind → ℕ → Expr
returned h.PackLeft w = packed o.ShiftLeft
returned h.PackRight w = packed o.ShiftRight
returned h.UnpackLeft w = unpacked w o.ShiftLeft
returned h.UnpackRight w = unpacked w o.ShiftRight

-- ---- names

abbrev pub prefix_of : HelperKind → List ℕ
prefix_of h.PackLeft = codes "pack_left_shift_u"
prefix_of h.PackRight = codes "pack_right_shift_u"
prefix_of h.UnpackLeft = codes "unpack_left_shift_u"
prefix_of h.UnpackRight = codes "unpack_right_shift_u"

-- the digits of a width
abbrev pub digits_of : ℕ → List ℕ
digits_of w =
    if w == 8 then codes "8"
    else if w == 16 then codes "16"
    else if w == 32 then codes "32"
    else codes "64"

unfoldable pub helper_name : HelperKind → ℕ → List ℕ
helper_name kind w = prefix_of kind ++ digits_of w

-- ---- functions

-- uintW_t
abbrev pub unsigned : ℕ → CType
unsigned w = Integer (Exact w false)

abbrev pub parameter : ℕ → List ℕ → Field
parameter w name = record { kind = unsigned w; name = name; place = nowhere }

abbrev pub returning : Expr → Stmt
returning value = record { place = nowhere; kind = Return (Some value) }

-- a static function of a value, a shift and a mask
abbrev pub helper : HelperKind → ℕ → Function
helper kind w = record {
  fixed = true;
  returns = unsigned (given_width kind w);
  name = helper_name kind w;
  params = parameter (taken_width kind w) (codes "value") ∷ parameter 8 (codes "shift") ∷ parameter 8 (codes "mask") ∷ [];
  body = Some (returning (returned kind w) ∷ []);
  place = nowhere;
  close = nowhere;
}
