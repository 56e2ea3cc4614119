-- In a text that gives its words what they need, a pack function is left as its tree with EINVAL as the number.
use Rattle.std.proofs.Common.{◌≡◌, ℕ, Bool, true, false, cond, List, [], ◌∷◌, ◌++◌, map, Option, Some, None, sym, subst}
use Rattle.std.specs.Prelude.{◌==◌, if◌then◌else◌, nat_le}
use Rattle.std.specs.List.{AllByRecursion, flat_map}
use Rattle.can_model.specs.declared.database.Message.{Message}
use Rattle.can_model.specs.RawValue.{field_bits}
use Rattle.name_rules.specs.declared.table.MessageNames.{MessageNames}
use Rattle.c_tree.specs.BareExpression.{name}
use Rattle.c_tree.specs.BareStatement.{Action, actions_of}
use Rattle.c_printed.specs.Spelling.{left}
use Rattle.c_printed.specs.PrintedExpression.{tokens_of}
use Rattle.c_printed.specs.Expanded.{Meaning, or_name}
use Rattle.c_printed.specs.Printable.{IsWidth, w8, w16, w32, w64}
use Rattle.c_printed.specs.Settled.{Becomes, Stands, IsAtom, Settles, SettlesAction, SettleActions, SettlesItem}
use Rattle.bit_layout.specs.declared.walk.Segment.{Segment}
use Rattle.bit_layout.specs.Segments.{segments_of}
use Rattle.gen_pack.specs.SegmentMove.{width_of, pack_kind}
use Rattle.gen_pack.specs.Parts.{Part, parts_of}
use Rattle.gen_pack.specs.Switches.{HasNoParent}
use Rattle.gen_pack.specs.PackTree.{buffer, size, error_name, number, field, name_or, segment_put, local_declared, local_set, declared, part_put, all_put, size_asked, cleared, unread, returned, long_body, empty_body, message_body, pack_function}
use Rattle.gen_pack.proofs.Flat.{all-put-flat}
use Rattle.gen_printed.specs.Known.{StandsAlone, KnowsHeaders, KnowsNames}
use Rattle.gen_printed.proofs.Words.{OfLocal, locals-by_part, fields-by_part}

width-by : (a b c : Bool) → IsWidth (cond a 8 (cond b 16 (cond c 32 64)))
width-by true b c = w8
width-by false true c = w16
width-by false false true = w32
width-by false false false = w64

pub printed-width : (length : ℕ) → IsWidth (field_bits length)
printed-width length = width-by (nat_le length 8) (nat_le length 16) (nat_le length 32)

module _ (env : Becomes) (meaning : Meaning) (known : KnowsHeaders env meaning) where
  abbrev Settle : List Action → Type 0
  Settle xs = SettleActions env meaning (actions_of xs)

  settle-both : (xs ys : List Action) → Settle xs → Settle ys → Settle (xs ++ ys)
  settle-both [] ys h k = k
  settle-both (x ∷ xs) ys h k = (h.0, settle-both xs ys h.1 k)

  -- a name that stands for itself
  pub alone : (n : List ℕ) → StandsAlone env meaning n → Settles env meaning (name n)
  alone n h = subst (λ o. (env n ≡ tokens_of left (or_name n o)) × IsAtom o) (sym h.none) (h.stands, tt)

  aims : (n : List ℕ) → StandsAlone env meaning n → meaning n ≡ None
  aims n h = h.none

  -- ---- the statements of a signal

  field-settles : (x : Part) → Stands env x.names.field → Settles env meaning (field x)
  field-settles x h = (known.source, h)

  taken-settles : (x : Part) (o : Option (List ℕ)) → OfLocal (StandsAlone env meaning) o → Stands env x.names.field → Settles env meaning (name_or o (field x))
  taken-settles x None l f = field-settles x f
  taken-settles x (Some n) l f = alone n l

  segments-settle : (x : Part) (gs : List Segment) → OfLocal (StandsAlone env meaning) x.names.local → Stands env x.names.field → Settle (map (segment_put x) gs)
  segments-settle x [] l f = tt
  segments-settle x (g ∷ gs) l f =
      ((tt, (known.buffer.stands, tt), (known.helpers (pack_kind g) (width_of x.signal) (printed-width x.signal.length), (taken-settles x x.names.local l f, (tt, (tt, tt))))), segments-settle x gs l f)

  set-settles : (o : Option (List ℕ)) (x : Part) → OfLocal (StandsAlone env meaning) o → Stands env x.names.field → Settle (local_set o (width_of x.signal) (field x))
  set-settles None x l f = tt
  set-settles (Some n) x l f = ((aims n l, alone n l, (known.exact (width_of x.signal) false (printed-width x.signal.length), field-settles x f)), tt)

  part-settles : (x : Part) → OfLocal (StandsAlone env meaning) x.names.local → Stands env x.names.field → Settle (part_put x)
  part-settles x l f =
      settle-both (local_set x.names.local (width_of x.signal) (field x)) (map (segment_put x) (segments_of x.signal)) (set-settles x.names.local x l f) (segments-settle x (segments_of x.signal) l f)

  parts-settle : (xs : List Part) → AllByRecursion (λ x. OfLocal (StandsAlone env meaning) (Part.names x).local) xs → AllByRecursion (λ x. Stands env (Part.names x).field) xs → Settle (flat_map part_put xs)
  parts-settle [] l f = tt
  parts-settle (x ∷ xs) l f = settle-both (part_put x) (flat_map part_put xs) (part-settles x l.0 f.0) (parts-settle xs l.1 f.1)

  -- ---- the others

  declared-settles : (o : Option (List ℕ)) (x : Part) → OfLocal (StandsAlone env meaning) o → Settle (local_declared o (width_of x.signal))
  declared-settles None x l = tt
  declared-settles (Some n) x l = ((known.exact (width_of x.signal) false (printed-width x.signal.length), l.stands, tt), tt)

  declared-settle : (xs : List Part) → AllByRecursion (λ x. OfLocal (StandsAlone env meaning) (Part.names x).local) xs → Settle (flat_map declared xs)
  declared-settle [] l = tt
  declared-settle (x ∷ xs) l = settle-both (declared x) (flat_map declared xs) (declared-settles x.names.local x l.0) (declared-settle xs l.1)

  unread-settles : (xs : List Part) → Settle (unread xs)
  unread-settles [] = (known.source, tt)
  unread-settles (x ∷ xs) = tt

  error-settles : Settles env meaning (name error_name)
  error-settles = subst (λ o. (env error_name ≡ tokens_of left (or_name error_name o)) × IsAtom o) (sym known.error_means) (known.error, tt)

  asked-settles : (n : ℕ) → SettlesAction env meaning (size_asked (name error_name) n)
  asked-settles n = ((alone size known.size, tt), (error-settles, tt))

  cleared-settles : (n : ℕ) → SettlesAction env meaning (cleared n)
  cleared-settles n = (known.memset, (alone buffer known.buffer, (tt, (tt, tt))))

  empty-settles : Settle empty_body
  unfolding empty_body
  empty-settles = (known.buffer.stands, (known.source, (known.size.stands, (tt, tt))))

  module _ (message : Message) (names : MessageNames) (own : KnowsNames env meaning names) (flat : AllByRecursion HasNoParent message.signals) where
    long-settles : (n : ℕ) → Settle (long_body (name error_name) n (parts_of message names))
    unfolding long_body
    long-settles n =
        let ps : List Part = parts_of message names in
        let l = locals-by_part (StandsAlone env meaning) 0 message.signals names.signals own.locals in
        let f = fields-by_part (Stands env) 0 message.signals names.signals own.fields in
        let put : Settle (all_put ps) = subst Settle (sym (all-put-flat message.signals names.signals flat)) (parts-settle ps l f) in
        settle-both (unread ps) _ (unread-settles ps)
        (settle-both (flat_map declared ps) _ (declared-settle ps l)
        (asked-settles n, (cleared-settles n, settle-both (all_put ps) (returned (number n) ∷ []) put (tt, tt))))

    body-settles : Settle (message_body (name error_name) message names)
    body-settles = by (message.length == 0) where
      by : (b : Bool) → Settle (if b then empty_body else long_body (name error_name) message.length (parts_of message names))
      by true = empty-settles
      by false = long-settles message.length

    pub pack-settles : SettlesItem env meaning (pack_function (name error_name) message names)
    pack-settles = (
      (known.int, own.function, ((known.exact 8 false w8, known.buffer.stands), ((own.tag, known.source), ((known.size_type, known.size.stands), tt)))),
      body-settles,
    )
