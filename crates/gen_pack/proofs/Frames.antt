-- The ones that the statements of all signals add are those of the frame, where no signal has a parent.
use Rattle.std.proofs.Common.{◌≡◌, ℕ, List, [], ◌∷◌, length, Option, Some, inl, inr, refl, subst, arith, ℤ}
use Rattle.std.specs.Prelude.{◌↔◌, slice_get, IsSomeAnd}
use Rattle.std.specs.List.{AllByRecursion}
use Rattle.std.proofs.lemmas.Option.{slice_get_within}
use Rattle.can_model.specs.declared.database.Message.{Message}
use Rattle.can_model.specs.declared.database.Signal.{Signal}
use Rattle.can_model.specs.Active.{value_at}
use Rattle.can_model.proofs.Elements.{some_and, and_some}
use Rattle.name_rules.specs.declared.table.MessageNames.{MessageNames}
use Rattle.name_rules.specs.Symbols.{AllPairs, HasNamesOfSignal}
use Rattle.frame_codec.specs.Ones.{IsBitBelow, IsSetBelow}
use Rattle.gen_pack.specs.Parts.{Part, part, parts_of}
use Rattle.gen_pack.specs.Switches.{HasNoParent}
use Rattle.gen_pack.proofs.Members.{Among}
use Rattle.gen_pack.proofs.Putting.{SomeHas}
use Rattle.gen_pack.proofs.Flat.{Found, part-of, signal-at, all-active}

-- a bit of the signal's value is 1 and stands there
abbrev pub IsPutBy : List (Option ℤ) → Part → ℕ → Type 0
IsPutBy values x p = IsSomeAnd (value_at values x.index) (λ v. IsBitBelow x.signal v x.signal.length p)

pub record One {A : Type 0} (xs : List A) (At : A → ℕ → Type 0) (p : ℕ) : Type 0 where
  pub which : A
  pub among : Among which xs
  pub has : At which p

some-one : {A : Type 0} (xs : List A) (At : A → ℕ → Type 0) (p : ℕ) → SomeHas xs At p → One xs At p
some-one [] At p h = absurd h
some-one (x ∷ xs) At p (inl h) = record { which = x; among = inl refl; has = h }
some-one (x ∷ xs) At p (inr h) = let o = some-one xs At p h in record { which = o.which; among = inr o.among; has = o.has }

one-some : {A : Type 0} (xs : List A) (At : A → ℕ → Type 0) (p : ℕ) (x : A) → Among x xs → At x p → SomeHas xs At p
one-some [] At p x h has = absurd h
one-some (y ∷ ys) At p x (inl e) has = inl (subst (λ z. At z p) e has)
one-some (y ∷ ys) At p x (inr h) has = inr (one-some ys At p x h has)

module _ (m : Message) (names : MessageNames) (values : List (Option ℤ)) (flat : AllByRecursion HasNoParent m.signals) (named : AllPairs HasNamesOfSignal m.signals names.signals) where
  put-set : (p : ℕ) → SomeHas (parts_of m names) (IsPutBy values) p → IsSetBelow m values (length m.signals) p
  put-set p h =
      let o = some-one (parts_of m names) (IsPutBy values) p h in
      let x : Part = o.which in
      let at : slice_get m.signals x.index ≡ Some x.signal = signal-at m names x o.among in (
        x.index,
        slice_get_within m.signals x.index x.signal at,
        all-active m values x.index x.signal flat at,
        and_some (λ s. IsSomeAnd (value_at values x.index) (λ v. IsBitBelow s v s.length p)) (slice_get m.signals x.index) x.signal at o.has,
      )

  set-put : (p : ℕ) → IsSetBelow m values (length m.signals) p → SomeHas (parts_of m names) (IsPutBy values) p
  set-put p h =
      let i : ℕ = h.0 in
      let signal : (s : Signal) × (slice_get m.signals i ≡ Some s) × IsSomeAnd (value_at values i) (λ v. IsBitBelow s v s.length p) =
      some_and (λ s. IsSomeAnd (value_at values i) (λ v. IsBitBelow s v s.length p)) (slice_get m.signals i) h.3 in
      let f : Found i signal.0 (parts_of m names) = part-of 0 i i m.signals names.signals signal.0 named signal.1 (omega arith) in
      one-some (parts_of m names) (IsPutBy values) p (part i signal.0 f.names) f.among signal.2

  pub puts-frame : (p : ℕ) → SomeHas (parts_of m names) (IsPutBy values) p ↔ IsSetBelow m values (length m.signals) p
  puts-frame p = (put-set p, set-put p)
