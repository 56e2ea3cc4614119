-- The kinds in the order of their numbers.
use Rattle.std.proofs.Common.{◌≡◌, ℕ, suc, ◌-◌, ◌<◌, ◌≤◌, List, [], ◌∷◌, Some, refl, sym, ap, subst, ◌∙◌, arith, lit≤}
use Rattle.std.specs.Prelude.{slice_get}
use native.Mathlib.Decide.{ℕ_discrete, dec_lt}
use Rattle.can_model.specs.CheckRefusal.{check_number}
use Rattle.can_model.specs.declared.check_kind.CheckKind.{CheckKind}
use Rattle.can_model.specs.declared.check_kind.CheckKind.TheVariants.{DuplicateMessageName, DuplicateMessageId, DuplicateSignalName, FrameIdRange, MessageTooLong, SignalLength, SignalOutside, Overlap, MuxParentUnknown, MuxIdRange, FloatSignal, ScaleTooWide, TooMany, ExtendedMultiplexing, MuxCycle}
use Rattle.can_model.specs.Validity.{Fault}
use Rattle.db_check.specs.Kinds.{IsLeast}

all_kinds : List CheckKind
all_kinds = DuplicateMessageName ∷ DuplicateMessageId ∷ DuplicateSignalName ∷ FrameIdRange ∷ MessageTooLong ∷ SignalLength ∷ SignalOutside ∷ Overlap ∷ MuxParentUnknown ∷ MuxIdRange ∷ FloatSignal ∷ ScaleTooWide ∷ TooMany ∷ ExtendedMultiplexing ∷ MuxCycle ∷ []

by_number : (k : CheckKind) → slice_get all_kinds (check_number k - 10) ≡ Some k
unfolding all_kinds
by_number DuplicateMessageName = refl
by_number DuplicateMessageId = refl
by_number DuplicateSignalName = refl
by_number FrameIdRange = refl
by_number MessageTooLong = refl
by_number SignalLength = refl
by_number SignalOutside = refl
by_number Overlap = refl
by_number MuxParentUnknown = refl
by_number MuxIdRange = refl
by_number FloatSignal = refl
by_number ScaleTooWide = refl
by_number TooMany = refl
by_number ExtendedMultiplexing = refl
by_number MuxCycle = refl

-- kinds of one number are one
pub same_kind : (k l : CheckKind) → check_number k ≡ check_number l → k ≡ l
same_kind k l e =
    let found : Some k ≡ Some l = sym (by_number k) ∙ ap (λ n. slice_get all_kinds (n - 10)) e ∙ by_number l in
    cc

from_ten : (k : CheckKind) → 10 ≤ check_number k
from_ten DuplicateMessageName = lit≤ tt
from_ten DuplicateMessageId = lit≤ tt
from_ten DuplicateSignalName = lit≤ tt
from_ten FrameIdRange = lit≤ tt
from_ten MessageTooLong = lit≤ tt
from_ten SignalLength = lit≤ tt
from_ten SignalOutside = lit≤ tt
from_ten Overlap = lit≤ tt
from_ten MuxParentUnknown = lit≤ tt
from_ten MuxIdRange = lit≤ tt
from_ten FloatSignal = lit≤ tt
from_ten ScaleTooWide = lit≤ tt
from_ten TooMany = lit≤ tt
from_ten ExtendedMultiplexing = lit≤ tt
from_ten MuxCycle = lit≤ tt

-- no kind of a number below n is there
pub record NoneBelow (has : CheckKind → Type 0) (n : ℕ) : Type 0 where
  pub none : (l : CheckKind) → check_number l < n → ¬ has l

module _ (has : CheckKind → Type 0) where
  pub none_yet : NoneBelow has 10
  none_yet = record { none = λ l lt h. let from : 10 ≤ check_number l = from_ten l in absurd (omega arith) }

  -- nor is this one
  pub nor : (k : CheckKind) → ¬ has k → NoneBelow has (check_number k) → NoneBelow has (suc (check_number k))
  nor k not_there below = record { none = λ l lt h. by l lt h (ℕ_discrete (check_number l) (check_number k)) } where
    by : (l : CheckKind) → check_number l < suc (check_number k) → has l → Dec (check_number l ≡ check_number k) → ⊥
    by l lt h (yes e) = not_there (subst has (same_kind l k e) h)
    by l lt h (no ne) = below.none l (omega arith) h

  pub least : (k : CheckKind) → NoneBelow has (check_number k) → has k → IsLeast has k
  least k below h = record { there = h; least = λ l g. by l g (decided l) } where
    decided : (l : CheckKind) → Dec (check_number l < check_number k)
    decided l = dec_lt (check_number l) (check_number k)

    by : (l : CheckKind) → has l → Dec (check_number l < check_number k) → check_number k ≤ check_number l
    by l g (yes lt) = absurd (below.none l lt g)
    by l g (no nl) = omega arith

-- a fault of these parts, by its own kind
pub own_kind : (f : Fault) (k : CheckKind) (line : ℕ) (message signal : List ℕ) → f ≡ record { kind = k; line = line; message = message; signal = signal }
    → f ≡ record { kind = f.kind; line = line; message = message; signal = signal }
own_kind f k line message signal e =
    let with_kind : CheckKind → Fault = λ k. record { kind = k; line = line; message = message; signal = signal } in
    e ∙ ap (λ (g : Fault). with_kind g.kind) (sym e)
