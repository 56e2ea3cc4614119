-- The helper that moves a segment of a message's signal is one of the unit's.
use Rattle.std.proofs.Common.{◌≡◌, ℕ, Bool, true, false, ◌||◌, ◌&&◌, ◌==◌, cond, List, [], ◌∷◌, inl, inr, refl, sym, ap, ◌∙◌, arith, nat_le}
use Rattle.std.specs.List.{AllByRecursion, list_any, filter}
use Rattle.std.proofs.lemmas.Bool.Decides.{nat_tests}
use Rattle.can_model.specs.declared.database.Message.{Message}
use Rattle.can_model.specs.declared.database.Signal.{Signal}
use Rattle.bit_layout.specs.declared.walk.Segment.{Segment}
use Rattle.bit_layout.specs.Segments.{segments_of}
use Rattle.shift_helpers.specs.declared.helper.HelperKind.{HelperKind}
use Rattle.shift_helpers.specs.declared.helper.HelperKind.TheVariants.{PackLeft, PackRight, UnpackLeft, UnpackRight}
use Rattle.shift_helpers.specs.HelperResult.{IsWidth}
use Rattle.gen_types.specs.HelperList.{every_helper}
use Rattle.gen_types.proofs.HelperCalls.{IsAmong}
use Rattle.gen_pack.specs.SegmentMove.{width_of, pack_kind}
use Rattle.gen_pack.proofs.Members.{Among}
use Rattle.gen_items.specs.CalledHelpers.{same_kind, calls_helper, is_called, called_helpers}

-- ---- what passes a test

pub any-among : {A : Type 0} (test : A → Bool) (x : A) (xs : List A) → Among x xs → test x ≡ true → list_any test xs ≡ true
any-among test x [] a h = absurd a
any-among test x (y ∷ ys) (inl e) h = let first : test y ≡ true = ap test (sym e) ∙ h in rw first refl
any-among test x (y ∷ ys) (inr a) h = or-late (test y) (list_any test ys) (any-among test x ys a h)
  where
    or-late : (b c : Bool) → c ≡ true → (b || c) ≡ true
    or-late true c e = refl
    or-late false c e = e

-- ---- what is kept of a list of helpers

kept-first : (b : Bool) (h g : HelperKind × ℕ) (helpers : List (HelperKind × ℕ)) → g ≡ h → b ≡ true → IsAmong h (cond b (g ∷ helpers) helpers)
kept-first true h g helpers is e = inl is
kept-first false h g helpers is e = absurd (cc)

kept-later : (b : Bool) (h g : HelperKind × ℕ) (helpers : List (HelperKind × ℕ)) → IsAmong h helpers → IsAmong h (cond b (g ∷ helpers) helpers)
kept-later true h g helpers a = inr a
kept-later false h g helpers a = a

is-kept : (test : HelperKind × ℕ → Bool) (h : HelperKind × ℕ) (helpers : List (HelperKind × ℕ)) → IsAmong h helpers → test h ≡ true → IsAmong h (filter test helpers)
is-kept test h [] a e = absurd a
is-kept test h (g ∷ helpers) (inl is) e = kept-first (test g) h g (filter test helpers) is (ap test is ∙ e)
is-kept test h (g ∷ helpers) (inr a) e = kept-later (test g) h g (filter test helpers) (is-kept test h helpers a e)

-- helpers of the widths of values
abbrev pub HaveWidths : List (HelperKind × ℕ) → Type 0
HaveWidths helpers = AllByRecursion (λ (h : HelperKind × ℕ). IsWidth h.1) helpers

width-first : (b : Bool) (h : HelperKind × ℕ) (helpers : List (HelperKind × ℕ)) → IsWidth h.1 → HaveWidths helpers → HaveWidths (cond b (h ∷ helpers) helpers)
width-first true h helpers w rest = (w, rest)
width-first false h helpers w rest = rest

widths-kept : (test : HelperKind × ℕ → Bool) (helpers : List (HelperKind × ℕ)) → HaveWidths helpers → HaveWidths (filter test helpers)
widths-kept test [] all = tt
widths-kept test (h ∷ helpers) all = width-first (test h) h (filter test helpers) all.0 (widths-kept test helpers all.1)

w8 : IsWidth 8
w8 = inl refl

w16 : IsWidth 16
w16 = inr (inl refl)

w32 : IsWidth 32
w32 = inr (inr (inl refl))

w64 : IsWidth 64
w64 = inr (inr (inr refl))

every-width : HaveWidths every_helper
every-width = (w8, (w16, (w32, (w64, (w8, (w16, (w32, (w64, (w8, (w16, (w32, (w64, (w8, (w16, (w32, (w64, tt))))))))))))))))

pub called-widths : (messages : List Message) → HaveWidths (called_helpers messages)
called-widths messages = widths-kept (is_called messages) every_helper every-width

-- ---- the helper of a segment

-- both kinds at each width of a field
listed-by : (a b c d : Bool) → IsAmong (cond a PackLeft PackRight, cond b 8 (cond c 16 (cond d 32 64))) every_helper
listed-by true true c d = inl refl
listed-by true false true d = inr (inl refl)
listed-by true false false true = inr (inr (inl refl))
listed-by true false false false = inr (inr (inr (inl refl)))
listed-by false true c d = inr (inr (inr (inr (inl refl))))
listed-by false false true d = inr (inr (inr (inr (inr (inl refl)))))
listed-by false false false true = inr (inr (inr (inr (inr (inr (inl refl))))))
listed-by false false false false = inr (inr (inr (inr (inr (inr (inr (inl refl)))))))

listed : (s : Signal) (g : Segment) → IsAmong (pack_kind g, width_of s) every_helper
listed s g = listed-by (nat_le g.signal_low g.byte_low) (nat_le s.length 8) (nat_le s.length 16) (nat_le s.length 32)

self-kind : (kind : HelperKind) → same_kind kind kind ≡ true
self-kind PackLeft = refl
self-kind PackRight = refl
self-kind UnpackLeft = refl
self-kind UnpackRight = refl

self-width : (w : ℕ) → (w == w) ≡ true
self-width w = grind (arith, nat_tests)

calls-own : (s : Signal) (g : Segment) → Among g (segments_of s) → calls_helper (pack_kind g, width_of s) s ≡ true
calls-own s g a =
    let own : list_any (λ x. same_kind (pack_kind x) (pack_kind g)) (segments_of s) ≡ true = any-among (λ x. same_kind (pack_kind x) (pack_kind g)) g (segments_of s) a (self-kind (pack_kind g)) in
    λ i. self-width (width_of s) i && own i

pub segment-called : (messages : List Message) (m : Message) (s : Signal) (g : Segment) → Among m messages → Among s m.signals → Among g (segments_of s)
    → IsAmong (pack_kind g, width_of s) (called_helpers messages)
segment-called messages m s g among_m among_s among_g =
    let h : HelperKind × ℕ = (pack_kind g, width_of s) in
    let called : list_any (calls_helper h) m.signals ≡ true = any-among (calls_helper h) s m.signals among_s (calls-own s g among_g) in
    is-kept (is_called messages) h every_helper (listed s g) (any-among (λ x. list_any (calls_helper h) (Message.signals x)) m messages among_m called)
