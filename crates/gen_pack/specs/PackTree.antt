-- A message's pack function as a tree (ISO/IEC 9899:1999, 6.5 to 6.9): each segment of each signal is put into its byte by a helper.
use Rattle.std.specs.Prelude.{ℕ, zero, suc, true, false, not, ◌==◌, nat_le, if◌then◌else◌, List, [], ◌∷◌, ◌++◌, map, length, codes, Option, Some, None}
use Rattle.std.specs.List.{filter, flat_map}
use Rattle.can_model.specs.declared.database.Message.{Message}
use Rattle.name_rules.specs.declared.table.MessageNames.{MessageNames}
use Rattle.c_text.specs.declared.token.IntType.TheVariants.{Int}
use Rattle.c_text.specs.declared.token.Spelled.TheVariants.{Exact, Plain, Size}
use Rattle.c_tree.specs.declared.expression.Callee.TheVariants.{Name, Memset}
use Rattle.c_tree.specs.declared.expression.BinaryOp.TheVariants.{Less}
use Rattle.c_tree.specs.declared.expression.UnaryOp.TheVariants.{Minus}
use Rattle.c_tree.specs.declared.statement.AssignOp.TheVariants.{Set, BitOr}
use Rattle.c_tree.specs.declared.item.CType.{CType}
use Rattle.c_tree.specs.declared.item.CType.TheVariants.{Integer, Pointer}
use Rattle.c_tree.specs.declared.item.Target.TheVariants as target
use Rattle.c_tree.specs.BareExpression.{Tree, constant, name, member, element, call, unary, cast, binary, bracket, none, more}
use Rattle.c_tree.specs.BareStatement.{Action, BarePart, a_label, a_statement, actions_of, declare, assign, discard, block, when, return, break, switch}
use Rattle.c_tree.specs.BareStatement as a
use Rattle.c_tree.specs.BareUnit.{BareField, BareHead, BareItem, function}
use Rattle.bit_layout.specs.declared.walk.Segment.{Segment}
use Rattle.bit_layout.specs.Segments.{segments_of}
use Rattle.shift_helpers.specs.HelperTree.{helper_name}
use Rattle.gen_pack.specs.SegmentMove.{width_of, pack_kind, pack_shift, mask_of}
use Rattle.gen_pack.specs.Parts.{Part, parts_of}
use Rattle.gen_pack.specs.Switches.{Case, is_root, is_selector, cases_of}

-- ---- the names that stand in every pack function

unfoldable pub buffer : List ℕ
buffer = codes "dst_p"

unfoldable pub source : List ℕ
source = codes "src_p"

unfoldable pub size : List ℕ
size = codes "size"

-- the macro of the error's number
unfoldable pub error_name : List ℕ
error_name = codes "EINVAL"

-- ---- constants

abbrev pub number : ℕ → Tree
number n = constant (record { value = n; base = 10; unsigned = false; longs = 0 })

abbrev pub unsigned : ℕ → ℕ → Tree
unsigned n base = constant (record { value = n; base = base; unsigned = true; longs = 0 })

-- ---- the statements of a signal

-- src_p->field
abbrev pub field : Part → Tree
field x = member source x.names.field

-- what the helpers take: the local where the signal is signed and has one, else the field
abbrev pub name_or : Option (List ℕ) → Tree → Tree
name_or None t = t
name_or (Some n) t = name n

abbrev pub taken : Part → Tree
taken x = name_or x.names.local (field x)

-- dst_p[byte] |= helper(value, shift, mask);
abbrev pub segment_put : Part → Segment → Action
segment_put x g =
    assign (element buffer (number g.byte)) BitOr
    (call (Name (helper_name (pack_kind g) (width_of x.signal)))
    (more (taken x) (more (unsigned (pack_shift g) 10) (more (unsigned (mask_of g) 16) none))))

-- uintW_t local;
abbrev pub local_declared : Option (List ℕ) → ℕ → List Action
local_declared None w = []
local_declared (Some n) w = declare (Exact w false) n None ∷ []

-- local = (uintW_t)src_p->field;
abbrev pub local_set : Option (List ℕ) → ℕ → Tree → List Action
local_set None w t = []
local_set (Some n) w t = assign (name n) Set (cast (Exact w false) t) ∷ []

abbrev pub declared : Part → List Action
declared x = local_declared x.names.local (width_of x.signal)

abbrev pub part_put : Part → List Action
part_put x = local_set x.names.local (width_of x.signal) (field x) ++ map (segment_put x) (segments_of x.signal)

-- ---- switches

-- how many `l` a constant of that width has
abbrev pub longs_of : ℕ → ℕ
longs_of w = if nat_le w 16 then 0 else if nat_le w 32 then 1 else 2

-- a value as a constant of the field's type
abbrev pub case_value : Part → ℕ → Tree
case_value x v = constant (record { value = v; base = 10; unsigned = not x.signal.signed; longs = longs_of (width_of x.signal) })

-- statements, and then `break;`
abbrev pub body_parts : List Action → List BarePart
body_parts body = map a_statement body ++ a_statement break ∷ []

-- `case V:` for each value, and the body
abbrev pub case_parts : Part → List ℕ → List Action → List BarePart
case_parts x values body = map (λ v. a_label (Some (case_value x v))) values ++ body_parts body

-- switch (src_p->field) { .. default: break; }
abbrev pub switch_put : (List Part → List Action) → Part → List Case → Action
switch_put body x cases =
    switch (field x) (a.parts_of (flat_map (λ c. case_parts x c.values (body c.parts)) cases ++ a_label None ∷ body_parts []))

module _ (parts : List Part) where
  -- the switch of a signal that is a selector, with the statements of the level below
  abbrev pub switch_below : (List Part → List Action) → Part → List Action
  switch_below body x = if is_selector parts x.index then switch_put body x (cases_of parts x.index) ∷ [] else []

  -- the signals of a level, then their switches, down to a depth
  abbrev pub level_put : ℕ → List Part → List Action
  level_put zero xs = []
  level_put (suc depth) xs = flat_map part_put xs ++ flat_map (switch_below (level_put depth)) xs

-- all signals of a message: no chain of selectors is longer than they are many
abbrev pub all_put : List Part → List Action
all_put parts = level_put parts (length parts) (filter is_root parts)

-- ---- the function

-- return (t);
abbrev pub returned : Tree → Action
returned t = return (Some (bracket t))

-- size < Nu
abbrev pub size_below : ℕ → Tree
size_below n = binary Less (name size) (unsigned n 10)

abbrev pub negative : Tree → Tree
negative t = unary Minus t

-- if (size < Nu) { return (-error); }
abbrev pub size_asked : Tree → ℕ → Action
size_asked error n = when (size_below n) (block (actions_of (returned (negative error) ∷ [])))

-- memset(dst_p, 0, Nu);
abbrev pub cleared : ℕ → Action
cleared n = a.call Memset (more (name buffer) (more (number 0) (more (unsigned n 10) none)))

-- (void)src_p; where no signal is read
abbrev pub unread : List Part → List Action
unread [] = discard source ∷ []
unread (x ∷ xs) = []

unfoldable pub long_body : Tree → ℕ → List Part → List Action
long_body error n parts =
    unread parts ++ (flat_map declared parts ++ (size_asked error n ∷ cleared n ∷ (all_put parts ++ returned (number n) ∷ [])))

-- of a message of no bytes
unfoldable pub empty_body : List Action
empty_body = discard buffer ∷ discard source ∷ discard size ∷ returned (number 0) ∷ []

abbrev pub pack_body : Tree → ℕ → List Part → List Action
pack_body error n parts = if n == 0 then empty_body else long_body error n parts

-- by the tree of the error's number
abbrev pub message_body : Tree → Message → MessageNames → List Action
message_body error m names = pack_body error m.length (parts_of m names)

abbrev pub parameter : CType → List ℕ → BareField
parameter kind word = record { kind = kind; name = word }

-- uint8_t *dst_p, const struct tag *src_p, size_t size
abbrev pub parameters : List ℕ → List BareField
parameters tag =
    parameter (Pointer target.Byte false) buffer
    ∷ parameter (Pointer (target.Struct tag) true) source
    ∷ parameter (Integer Size) size
    ∷ []

abbrev pub pack_head : MessageNames → BareHead
pack_head names = record { fixed = false; returns = Integer (Plain Int); name = names.pack; params = parameters names.tag }

abbrev pub pack_function : Tree → Message → MessageNames → BareItem
pack_function error m names = function (pack_head names) (Some (actions_of (message_body error m names)))
