-- A message's unpack function as a tree (ISO/IEC 9899:1999, 6.5 to 6.9): the bits of each signal are joined by helpers, segment by segment, and extended by their sign.
use Rattle.std.specs.Prelude.{ℕ, zero, suc, ◌-◌, ◌^◌, true, false, ◌==◌, nat_lt, if◌then◌else◌, List, [], ◌∷◌, ◌++◌, length, Option, Some, None}
use Rattle.std.specs.List.{filter, flat_map}
use Rattle.can_model.specs.declared.database.Message.{Message}
use Rattle.name_rules.specs.declared.table.MessageNames.{MessageNames}
use Rattle.c_text.specs.declared.token.IntType.TheVariants.{Int}
use Rattle.c_text.specs.declared.token.Spelled.TheVariants.{Exact, Plain, Size}
use Rattle.c_tree.specs.declared.expression.Callee.TheVariants.{Name}
use Rattle.c_tree.specs.declared.expression.BinaryOp.TheVariants.{NotEqual, BitAnd}
use Rattle.c_tree.specs.declared.statement.AssignOp.{AssignOp}
use Rattle.c_tree.specs.declared.statement.AssignOp.TheVariants.{Set, BitOr}
use Rattle.c_tree.specs.declared.item.CType.TheVariants.{Integer, Pointer}
use Rattle.c_tree.specs.declared.item.Target.TheVariants as target
use Rattle.c_tree.specs.BareExpression.{Tree, constant, name, member, element, call, cast, binary, bracket, none, more}
use Rattle.c_tree.specs.BareStatement.{Action, a_label, actions_of, assign, discard, block, when, switch}
use Rattle.c_tree.specs.BareStatement as a
use Rattle.c_tree.specs.BareUnit.{BareField, BareHead, BareItem, function}
use Rattle.bit_layout.specs.declared.walk.Segment.{Segment}
use Rattle.bit_layout.specs.Segments.{segments_of}
use Rattle.shift_helpers.specs.HelperTree.{helper_name}
use Rattle.gen_pack.specs.SegmentMove.{width_of, mask_of}
use Rattle.gen_pack.specs.Parts.{Part, parts_of}
use Rattle.gen_pack.specs.Switches.{Case, is_root, is_selector, cases_of}
use Rattle.gen_pack.specs.PackTree.{buffer, source, size, number, unsigned, name_or, declared, longs_of, case_parts, body_parts, size_asked, returned, empty_body, parameter}
use Rattle.gen_unpack.specs.SegmentRead.{unpack_kind, unpack_shift}

-- In an unpack function `dst_p` is at the struct, and `src_p` at the bytes.

-- ---- the bits of a signal

-- dst_p->field
abbrev pub field : Part → Tree
field x = member buffer x.names.field

-- what the bits are joined in: the local where the signal is signed and has one, else the field
abbrev pub joined_in : Part → Tree
joined_in x = name_or x.names.local (field x)

-- helper(src_p[byte], shift, mask)
abbrev pub segment_of_byte : ℕ → Segment → Tree
segment_of_byte w g =
    call (Name (helper_name (unpack_kind g) w))
    (more (element source (number g.byte)) (more (unsigned (unpack_shift g) 10) (more (unsigned (mask_of g) 16) none)))

-- the first by one operator, and the others by `|=`
abbrev pub joined : AssignOp → Tree → ℕ → List Segment → List Action
joined op t w [] = []
joined op t w (g ∷ gs) = assign t op (segment_of_byte w g) ∷ joined BitOr t w gs

-- ---- the sign

-- a constant of the unsigned type of a width
abbrev pub of_width : ℕ → ℕ → ℕ → Tree
of_width w n base = constant (record { value = n; base = base; unsigned = true; longs = longs_of w })

-- (local & sign) != 0
abbrev pub has_sign : ℕ → ℕ → List ℕ → Tree
has_sign w n local = binary NotEqual (bracket (binary BitAnd (name local) (of_width w (2 ^ (n - 1)) 16))) (of_width w 0 10)

-- local |= upper;
abbrev pub filled_up : ℕ → ℕ → List ℕ → Action
filled_up w n local = assign (name local) BitOr (of_width w (2 ^ w - 2 ^ n) 16)

-- if ((local & sign) != 0) { local |= upper; } where n bits do not fill the width
abbrev pub sign_extended : ℕ → ℕ → List ℕ → List Action
sign_extended w n local = if nat_lt n w then when (has_sign w n local) (block (actions_of (filled_up w n local ∷ []))) ∷ [] else []

-- dst_p->field = (intW_t)local;
abbrev pub field_set : ℕ → Tree → List ℕ → Action
field_set w t local = assign t Set (cast (Exact w true) (name local))

-- of a signal with a local: its sign is extended, and its field is set
abbrev pub settled : Option (List ℕ) → ℕ → ℕ → Tree → List Action
settled None w n t = []
settled (Some local) w n t = sign_extended w n local ++ field_set w t local ∷ []

-- ---- the statements of a signal

abbrev pub part_got : Part → List Action
part_got x = joined Set (joined_in x) (width_of x.signal) (segments_of x.signal) ++ settled x.names.local (width_of x.signal) x.signal.length (field x)

-- ---- switches

-- switch (dst_p->field) { .. default: break; }; the field was set before
abbrev pub switch_got : (List Part → List Action) → Part → List Case → Action
switch_got body x cases =
    switch (field x) (a.parts_of (flat_map (λ c. case_parts x c.values (body c.parts)) cases ++ a_label None ∷ body_parts []))

module _ (parts : List Part) where
  -- the switch of a signal that is a selector, with the statements of the level below
  abbrev pub switch_below : (List Part → List Action) → Part → List Action
  switch_below body x = if is_selector parts x.index then switch_got body x (cases_of parts x.index) ∷ [] else []

  -- the signals of a level, then their switches, down to a depth
  abbrev pub level_got : ℕ → List Part → List Action
  level_got zero xs = []
  level_got (suc depth) xs = flat_map part_got xs ++ flat_map (switch_below (level_got depth)) xs

-- all signals of a message: no chain of selectors is longer than they are many
abbrev pub all_got : List Part → List Action
all_got parts = level_got parts (length parts) (filter is_root parts)

-- ---- the function

-- (void)dst_p; (void)src_p; where there is no signal
abbrev pub unused : List Part → List Action
unused [] = discard buffer ∷ discard source ∷ []
unused (x ∷ xs) = []

unfoldable pub long_body : Tree → ℕ → List Part → List Action
long_body error n parts = unused parts ++ (flat_map declared parts ++ (size_asked error n ∷ (all_got parts ++ returned (number 0) ∷ [])))

-- of a message of no bytes it is that of the pack function
abbrev pub unpack_body : Tree → ℕ → List Part → List Action
unpack_body error n parts = if n == 0 then empty_body else long_body error n parts

-- by the tree of the error's number
abbrev pub message_body : Tree → Message → MessageNames → List Action
message_body error m names = unpack_body error m.length (parts_of m names)

-- struct tag *dst_p, const uint8_t *src_p, size_t size
abbrev pub parameters : List ℕ → List BareField
parameters tag =
    parameter (Pointer (target.Struct tag) false) buffer
    ∷ parameter (Pointer target.Byte true) source
    ∷ parameter (Integer Size) size
    ∷ []

abbrev pub unpack_head : MessageNames → BareHead
unpack_head names = record { fixed = false; returns = Integer (Plain Int); name = names.unpack; params = parameters names.tag }

abbrev pub unpack_function : Tree → Message → MessageNames → BareItem
unpack_function error m names = function (unpack_head names) (Some (actions_of (message_body error m names)))
