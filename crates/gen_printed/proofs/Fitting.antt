-- A pack function may be printed so that it reads back.
use Rattle.std.proofs.Common.{ℕ, ◌^◌, ◌<◌, ◌≤◌, Bool, true, false, List, [], ◌∷◌, ◌++◌, map, Option, Some, None, refl, sym, subst, arith}
use Rattle.std.specs.Prelude.{◌==◌, if◌then◌else◌}
use Rattle.std.specs.List.{AllByRecursion, flat_map}
use Rattle.can_model.specs.declared.database.Message.{Message}
use Rattle.can_model.specs.declared.database.Signal.{Signal}
use Rattle.can_model.specs.Place.{IsPlaced}
use Rattle.can_model.specs.Validity.{IsOfValidDatabase}
use Rattle.can_model.proofs.Placed.{placed, not_long}
use Rattle.name_rules.specs.declared.table.MessageNames.{MessageNames}
use Rattle.c_tree.specs.BareExpression.{name}
use Rattle.c_tree.specs.BareStatement.{Action, actions_of}
use Rattle.c_printed.specs.Printable.{IsFree, ten, sixteen, Fits, FitsAction, FitActions}
use Rattle.c_printed.specs.PrintableItem.{IsHead, FitsBody}
use Rattle.bit_layout.specs.declared.walk.Segment.{Segment}
use Rattle.bit_layout.specs.Covers.{Covers, IsWithin}
use Rattle.bit_layout.specs.Segments.{segments_of}
use Rattle.bit_layout.proofs.Covering.{segments-cover}
use Rattle.gen_pack.specs.SegmentMove.{width_of, pack_kind, pack_shift, mask_of}
use Rattle.gen_pack.specs.Parts.{Part, parts_of}
use Rattle.gen_pack.specs.Switches.{HasNoParent}
use Rattle.gen_pack.specs.PackTree.{error_name, number, unsigned, field, name_or, segment_put, local_declared, local_set, declared, part_put, all_put, size_asked, cleared, unread, returned, long_body, empty_body, message_body, pack_head}
use Rattle.gen_pack.proofs.Segments.{pack-call, segments-inside}
use Rattle.gen_pack.proofs.Putting.{width-is}
use Rattle.gen_pack.proofs.Flat.{all-put-flat, signal-at}
use Rattle.gen_pack.proofs.Members.{all-if}
use Rattle.gen_printed.specs.Known.{AreFreeWords, AreFree}
use Rattle.gen_printed.proofs.Words.{OfLocal, locals-by_part, fields-by_part}
use Rattle.gen_printed.proofs.Settling.{printed-width}

decimal : (n : ℕ) → n < 2 ^ 64 → Fits 0 (number n)
decimal n h = record { small = h; base = ten; longs = omega arith }

with-u : (n : ℕ) → n < 2 ^ 64 → Fits 0 (unsigned n 10)
with-u n h = record { small = h; base = ten; longs = omega arith }

mask-fits : (n : ℕ) → n < 2 ^ 64 → Fits 0 (unsigned n 16)
mask-fits n h = record { small = h; base = sixteen; longs = omega arith }

module _ (words : AreFreeWords) where
  abbrev Fit : List Action → Type 0
  Fit xs = FitActions false (actions_of xs)

  fit-both : (xs ys : List Action) → Fit xs → Fit ys → Fit (xs ++ ys)
  fit-both [] ys h k = k
  fit-both (x ∷ xs) ys h k = (h.0, fit-both xs ys h.1 k)

  field-fits : (x : Part) → IsFree x.names.field → Fits 0 (field x)
  field-fits x h = (words.source, h)

  taken-fits : (x : Part) (o : Option (List ℕ)) → OfLocal IsFree o → IsFree x.names.field → Fits 0 (name_or o (field x))
  taken-fits x None l f = field-fits x f
  taken-fits x (Some n) l f = l

  -- the numbers of a segment are small
  pub record IsSmall (w : ℕ) (g : Segment) : Type 0 where
    pub byte : g.byte < 2 ^ 64
    pub shift : pack_shift g < 2 ^ 64
    pub mask : mask_of g < 2 ^ 64

  small-segments : (s : Signal) (n : ℕ) (gs : List Segment) → n ≤ 2048 → IsPlaced s n → AllByRecursion (IsWithin s.length) gs → AllByRecursion (λ g. g.byte < n) gs → AllByRecursion (IsSmall (width_of s)) gs
  small-segments s n [] few p within inside = tt
  small-segments s n (g ∷ gs) few p within inside =
      let w = width-is s.length p.bits in
      let c = pack-call (width_of s) s.length g w.0 w.1 within.0 in
      (record { byte = omega (arith, inside.0); shift = omega (arith, c.small); mask = omega (arith, c.mask) }, small-segments s n gs few p within.1 inside.1)

  abbrev HasSmall : Part → Type 0
  HasSmall x = AllByRecursion (IsSmall (width_of x.signal)) (segments_of x.signal)

  segments-fit : (x : Part) (gs : List Segment) → AllByRecursion (IsSmall (width_of x.signal)) gs → OfLocal IsFree x.names.local → IsFree x.names.field → Fit (map (segment_put x) gs)
  segments-fit x [] small l f = tt
  segments-fit x (g ∷ gs) small l f = (
    (
      refl,
      (words.buffer, decimal g.byte small.0.byte),
      (words.helpers (pack_kind g) (width_of x.signal) (printed-width x.signal.length), (taken-fits x x.names.local l f, (with-u (pack_shift g) small.0.shift, (mask-fits (mask_of g) small.0.mask, tt)))),
    ),
    segments-fit x gs small.1 l f,
  )

  set-fits : (o : Option (List ℕ)) (x : Part) → OfLocal IsFree o → IsFree x.names.field → Fit (local_set o (width_of x.signal) (field x))
  set-fits None x l f = tt
  set-fits (Some n) x l f = ((refl, l, (printed-width x.signal.length, field-fits x f)), tt)

  part-fits : (x : Part) → HasSmall x → OfLocal IsFree x.names.local → IsFree x.names.field → Fit (part_put x)
  part-fits x small l f = fit-both (local_set x.names.local (width_of x.signal) (field x)) (map (segment_put x) (segments_of x.signal)) (set-fits x.names.local x l f) (segments-fit x (segments_of x.signal) small l f)

  parts-fit : (xs : List Part) → AllByRecursion HasSmall xs → AllByRecursion (λ x. OfLocal IsFree (Part.names x).local) xs → AllByRecursion (λ x. IsFree (Part.names x).field) xs → Fit (flat_map part_put xs)
  parts-fit [] small l f = tt
  parts-fit (x ∷ xs) small l f = fit-both (part_put x) (flat_map part_put xs) (part-fits x small.0 l.0 f.0) (parts-fit xs small.1 l.1 f.1)

  declared-fits : (o : Option (List ℕ)) (x : Part) → OfLocal IsFree o → Fit (local_declared o (width_of x.signal))
  declared-fits None x l = tt
  declared-fits (Some n) x l = ((printed-width x.signal.length, l, tt), tt)

  declared-fit : (xs : List Part) → AllByRecursion (λ x. OfLocal IsFree (Part.names x).local) xs → Fit (flat_map declared xs)
  declared-fit [] l = tt
  declared-fit (x ∷ xs) l = fit-both (declared x) (flat_map declared xs) (declared-fits x.names.local x l.0) (declared-fit xs l.1)

  unread-fits : (xs : List Part) → Fit (unread xs)
  unread-fits [] = (words.source, tt)
  unread-fits (x ∷ xs) = tt

  asked-fits : (n : ℕ) → n < 2 ^ 64 → FitsAction false (size_asked (name error_name) n)
  asked-fits n h = ((omega arith, words.size, with-u n h), ((tt, words.error), tt))

  cleared-fits : (n : ℕ) → n < 2 ^ 64 → FitsAction false (cleared n)
  cleared-fits n h = (tt, (words.buffer, (decimal 0 (omega arith), (with-u n h, tt))))

  empty-fits : Fit empty_body
  unfolding empty_body
  empty-fits = (words.buffer, (words.source, (words.size, (decimal 0 (omega arith), tt))))

  module _ (message : Message) (names : MessageNames) (own : AreFree names) (valid : IsOfValidDatabase message) (flat : AllByRecursion HasNoParent message.signals) where
    small-parts : AllByRecursion HasSmall (parts_of message names)
    small-parts = all-if HasSmall (parts_of message names) (λ x a.
        let p : IsPlaced x.signal message.length = placed message x.index x.signal valid (signal-at message names x a) in
        let c : Covers x.signal (segments_of x.signal) = segments-cover x.signal in
        small-segments x.signal message.length (segments_of x.signal) (not_long message valid) p c.within (segments-inside x.signal message.length (segments_of x.signal) p.inside c.within c.places))

    length-small : message.length < 2 ^ 64
    length-small = omega (arith, not_long message valid)

    long-fits : Fit (long_body (name error_name) message.length (parts_of message names))
    unfolding long_body
    long-fits =
        let ps : List Part = parts_of message names in
        let l = locals-by_part IsFree 0 message.signals names.signals own.locals in
        let f = fields-by_part IsFree 0 message.signals names.signals own.fields in
        let put : Fit (all_put ps) = subst Fit (sym (all-put-flat message.signals names.signals flat)) (parts-fit ps small-parts l f) in
        fit-both (unread ps) _ (unread-fits ps)
        (fit-both (flat_map declared ps) _ (declared-fit ps l)
        (asked-fits message.length length-small, (cleared-fits message.length length-small, fit-both (all_put ps) (returned (number message.length) ∷ []) put (decimal message.length length-small, tt))))

    -- the body fits
    pub pack-fits : FitsBody (Some (actions_of (message_body (name error_name) message names)))
    pack-fits = by (message.length == 0) where
      by : (b : Bool) → Fit (if b then empty_body else long_body (name error_name) message.length (parts_of message names))
      by true = empty-fits
      by false = long-fits

  -- and so does the head
  pub head-fits : (names : MessageNames) → AreFree names → IsHead (pack_head names)
  head-fits names own = record { returns = tt; name = own.function; params = ((tt, words.buffer), ((own.tag, words.source), ((tt, words.size), tt))) }
