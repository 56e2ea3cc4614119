-- In a pack function few brackets are open at once.
use Rattle.std.proofs.Common.{ℕ, Bool, true, false, List, [], ◌∷◌, ◌++◌, map, Option, Some, None, sym, subst}
use Rattle.std.specs.Prelude.{◌==◌, if◌then◌else◌}
use Rattle.std.specs.List.{AllByRecursion, flat_map}
use Rattle.can_model.specs.declared.database.Message.{Message}
use Rattle.name_rules.specs.declared.table.MessageNames.{MessageNames}
use Rattle.c_tree.specs.BareStatement.{Action, actions_of}
use Rattle.c_printed.specs.Within.{Within, ActionsWithin, ItemWithin}
use Rattle.bit_layout.specs.declared.walk.Segment.{Segment}
use Rattle.bit_layout.specs.Segments.{segments_of}
use Rattle.gen_pack.specs.SegmentMove.{width_of}
use Rattle.gen_pack.specs.Parts.{Part, parts_of}
use Rattle.gen_pack.specs.Switches.{HasNoParent}
use Rattle.gen_pack.specs.PackTree.{number, field, name_or, segment_put, local_declared, local_set, declared, part_put, all_put, unread, returned, long_body, empty_body, pack_function}
use Rattle.gen_pack.proofs.Flat.{all-put-flat}

abbrev Room : List Action → Type 0
Room xs = ActionsWithin 63 (actions_of xs)

room-both : (xs ys : List Action) → Room xs → Room ys → Room (xs ++ ys)
room-both [] ys h k = k
room-both (x ∷ xs) ys h k = (h.0, room-both xs ys h.1 k)

taken-room : (x : Part) (o : Option (List ℕ)) → Within 62 (name_or o (field x))
taken-room x None = tt
taken-room x (Some n) = tt

segments-room : (x : Part) (gs : List Segment) → Room (map (segment_put x) gs)
segments-room x [] = tt
segments-room x (g ∷ gs) = ((tt, (taken-room x x.names.local, (tt, (tt, tt)))), segments-room x gs)

set-room : (o : Option (List ℕ)) (x : Part) → Room (local_set o (width_of x.signal) (field x))
set-room None x = tt
set-room (Some n) x = ((tt, tt), tt)

parts-room : (xs : List Part) → Room (flat_map part_put xs)
parts-room [] = tt
parts-room (x ∷ xs) =
    room-both (part_put x) (flat_map part_put xs)
    (room-both (local_set x.names.local (width_of x.signal) (field x)) (map (segment_put x) (segments_of x.signal)) (set-room x.names.local x) (segments-room x (segments_of x.signal))) (parts-room xs)

declared-room : (o : Option (List ℕ)) (w : ℕ) → Room (local_declared o w)
declared-room None w = tt
declared-room (Some n) w = (tt, tt)

all-declared-room : (xs : List Part) → Room (flat_map declared xs)
all-declared-room [] = tt
all-declared-room (x ∷ xs) = room-both (declared x) (flat_map declared xs) (declared-room x.names.local (width_of x.signal)) (all-declared-room xs)

unread-room : (xs : List Part) → Room (unread xs)
unread-room [] = (tt, tt)
unread-room (x ∷ xs) = tt

module _ (message : Message) (names : MessageNames) (flat : AllByRecursion HasNoParent message.signals) where
  long-room : (n : ℕ) → Room (long_body (number 22) n (parts_of message names))
  unfolding long_body
  long-room n =
      let ps : List Part = parts_of message names in
      let put : Room (all_put ps) = subst Room (sym (all-put-flat message.signals names.signals flat)) (parts-room ps) in
      room-both (unread ps) _ (unread-room ps)
      (room-both (flat_map declared ps) _ (all-declared-room ps)
      (((tt, tt), (tt, tt)), ((tt, (tt, (tt, tt))), room-both (all_put ps) (returned (number n) ∷ []) put (tt, tt))))

  empty-room : Room empty_body
  unfolding empty_body
  empty-room = (tt, (tt, (tt, (tt, tt))))

  -- with EINVAL as the number, as preprocessing leaves it
  pub pack-within : ItemWithin (pack_function (number 22) message names)
  pack-within = by (message.length == 0) where
    by : (b : Bool) → Room (if b then empty_body else long_body (number 22) message.length (parts_of message names))
    by true = empty-room
    by false = long-room message.length
