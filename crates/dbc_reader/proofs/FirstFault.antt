-- Reading halts at the first fault: with the token there no list of statements begins, since reading halts whatever stands behind;
-- and there is one such place, since of two fronts of the tokens one is a front of the other.
use Rattle.std.proofs.Common.{◌≡◌, ◌⊎◌, inl, inr, ℕ, List, [], ◌∷◌, ◌++◌, map, Result, Ok, Err, refl, sym, ap, subst, ◌∙◌, append_assoc}
use Rattle.std.proofs.lemmas.List.{append-nil}
use Rattle.can_model.specs.Refusal.{Refusal}
use Rattle.can_model.specs.declared.refusal.TextKind.{TextKind}
use Rattle.can_model.specs.declared.refusal.TextKind.TheVariants.{Unexpected}
use Rattle.dbc_reader.specs.Token.{Token, Word, Number, String, Mark, Bad, Lexed}
use Rattle.dbc_reader.specs.Template.{Kept}
use Rattle.dbc_reader.specs.Document.{statement, statement_of, document}
use Rattle.dbc_reader.specs.Reading.{fault_at, template_at, all_of}
use Rattle.dbc_reader.specs.Statements.{Fits}
use Rattle.dbc_reader.specs.FirstFault.{AreWhole, AreBegun, WantsNumber, Stops, HasOwnKind, HasKind, StopsAt, IsFirstTokenFault}
use Rattle.dbc_reader.proofs.Steps.{err_is, bind_err, never_both}
use Rattle.dbc_reader.proofs.Exact.{fits_template}
use Rattle.dbc_reader.proofs.Lively.{numbered, Accepts}
use Rattle.dbc_reader.proofs.Halting.{Own, Kinds, AtBack, Halts, Begun, template_halts, stops_read}
use Rattle.dbc_reader.proofs.Documents.{document_regular, document_live, all_sound}

module _ (end : ℕ) where
  abbrev read : List Lexed → Result (List (Kept statement) × List Lexed) Refusal
  read ts = template_at end document ts

  abbrev accepts : List Lexed → Type 0
  accepts ts = Accepts document [] ts

  abbrev stops : List Lexed → Lexed → TextKind → Type 0
  stops front x k = Stops document front x k

  abbrev Read : List Lexed → Refusal → Type 0
  Read ts s = read ts ≡ Err s

  whole_of : (ts : List Lexed) → accepts ts → AreWhole ts
  whole_of ts (fs, f) = (map statement_of fs, (fs, subst (λ (us : List Lexed). Fits document fs us []) (append-nil ts) f, refl))

  read_whole : (ts : List Lexed) (s : Refusal) → AreWhole ts → Read ts s → ⊥
  read_whole ts s (ss, (fs, f, e)) r = never_both (read ts) (fs, []) s (fits_template end document (document_regular) fs ts [] f) r

  begun_of : (ts : List Lexed) → Begun accepts ts → AreBegun ts
  begun_of ts (more, a) = (more, whole_of (ts ++ more) a)

  not_begun : (front : List Lexed) (x : Lexed) (s : Refusal) → ((ys : List Lexed) → Read (front ++ x ∷ ys) s) → ¬ AreBegun (front ++ x ∷ [])
  not_begun front x s same = λ b. read_whole (front ++ x ∷ b.0) s (subst (λ (us : List Lexed). AreWhole us) (append_assoc front (x ∷ []) b.0) b.1) (same b.0)

  wants : (front : List Lexed) (e : List ℕ) (n : ℕ) (more : List Lexed) → accepts (front ++ numbered e n ∷ more) → WantsNumber front
  wants front e n more a = (e, n, (more, subst (λ (us : List Lexed). AreWhole us) (sym (append_assoc front (numbered e n ∷ []) more)) (whole_of (front ++ numbered e n ∷ more) a)))

  wants_not : (front : List Lexed) → ((e : List ℕ) (n : ℕ) (ys : List Lexed) → Read (front ++ numbered e n ∷ ys) (fault_at Unexpected n)) → ¬ WantsNumber front
  wants_not front h = λ w. not_begun front (numbered w.0 w.1) (fault_at Unexpected w.1) (λ ys. h w.0 w.1 ys) w.2

  own_is : (front : List Lexed) (kind : TextKind) (k : Token) → Own read accepts stops front kind k → HasOwnKind (WantsNumber front) k kind
  own_is front kind (Bad j) h = h
  own_is front kind (Word j) h = h
  own_is front kind (String j) h = h
  own_is front kind (Mark j) h = h
  own_is front kind (Number d) (inl h) = (λ w. h.0, λ n. absurd (n (wants front h.1.0 h.1.1 h.1.2 h.1.3)))
  own_is front kind (Number d) (inr h) = (λ w. absurd (wants_not front h.1 w), λ n. h.0)

  -- where the template stops, reading gives that kind
  stop_kind : (front : List Lexed) (x : Lexed) (s : Refusal) (k : TextKind) → ((ys : List Lexed) → Read (front ++ x ∷ ys) s) → stops front x k → s.kind ≡ k
  stop_kind front x s k same h =
      let e = stops_read end document (document_regular) front x k h x [] (λ p. refl) in
      ap (λ (z : Refusal). z.kind) (err_is s (fault_at k x.line) (sym (same []) ∙ e))

  kind_is : (front : List Lexed) (x : Lexed) (s : Refusal) → ((ys : List Lexed) → Read (front ++ x ∷ ys) s) → Kinds read accepts stops front s.kind x → HasKind front x s.kind
  kind_is front x s same (inl h) = (λ k g. stop_kind front x s k same g, inl h)
  kind_is front x s same (inr h) = (λ k g. stop_kind front x s k same g, inr (own_is front s.kind x.token h))

  stops_at : (ts front back : List Lexed) (s : Refusal) → ts ≡ front ++ back → Read ts s → AtBack read accepts stops end front s back → StopsAt end front back s
  stops_at ts front [] s q e h = ((λ w. read_whole front s w (ap read (sym (append-nil front) ∙ sym q) ∙ e)), h)
  stops_at ts front (x ∷ xs) s q e h = (not_begun front x s h.0, kind_is front x s h.0 h.1, h.2)

  halts : (ts : List Lexed) (s : Refusal) → Read ts s → Halts read accepts stops end ts s
  halts ts s e = template_halts end document [] (document_regular) (document_live) ts s e

  pub first_fault : (ts : List Lexed) (s : Refusal) → all_of end ts ≡ Err s → IsFirstTokenFault end ts s
  first_fault ts s e =
      let r = bind_err (read ts) (λ x. map statement_of x.0) s e in
      let h = halts ts s r in
      record { front = h.front; back = h.back; tokens_are = h.tokens_are; begun = begun_of h.front h.begun; stops = stops_at ts h.front h.back s h.tokens_are r h.at }

  -- ---- a first fault is what reading gives

  -- the first front is the shorter one
  abbrev Shorter : List Lexed → List Lexed → List Lexed → Type 0
  Shorter front back other = (x : Lexed) × (xs : List Lexed) × (more : List Lexed) × (back ≡ x ∷ xs) × (other ≡ front ++ x ∷ more)

  cons_is : (x y : Lexed) (xs ys : List Lexed) → x ∷ xs ≡ y ∷ ys → (x ≡ y) × (xs ≡ ys)
  cons_is x y xs ys e = (cc, cc)

  two_fronts : (f1 b1 f2 b2 : List Lexed) → f1 ++ b1 ≡ f2 ++ b2 → ((f1 ≡ f2) × (b1 ≡ b2)) ⊎ (Shorter f1 b1 f2 ⊎ Shorter f2 b2 f1)
  two_fronts [] b1 [] b2 e = inl (refl, e)
  two_fronts [] b1 (y ∷ f2) b2 e = inr (inl (y, f2 ++ b2, f2, e, refl))
  two_fronts (x ∷ f1) b1 [] b2 e = inr (inr (x, f1 ++ b1, f1, sym e, refl))
  two_fronts (x ∷ f1) b1 (y ∷ f2) b2 e =
      let p = cons_is x y (f1 ++ b1) (f2 ++ b2) e in
      elim (two_fronts f1 b1 f2 b2 p.1) [
        | inl h ↦ inl ((λ i. p.0 i ∷ h.0 i), h.1)
        | inr (inl (z, zs, more, u, v)) ↦ inr (inl (z, zs, more, u, λ i. sym p.0 i ∷ v i))
        | inr (inr (z, zs, more, u, v)) ↦ inr (inr (z, zs, more, u, λ i. p.0 i ∷ v i))
      ]

  -- a front that begins a list is no longer than one that no list goes on from
  never_longer : (front other : List Lexed) (x : Lexed) (more : List Lexed) → other ≡ front ++ x ∷ more → AreBegun other → AreBegun (front ++ x ∷ [])
  never_longer front other x more e b =
      (more ++ b.0, subst (λ (us : List Lexed). AreWhole us) (ap (λ (us : List Lexed). us ++ b.0) e ∙ append_assoc front (x ∷ more) b.0 ∙ sym (append_assoc front (x ∷ []) (more ++ b.0))) b.1)

  stops_there : (front back : List Lexed) (r : Refusal) (x : Lexed) (xs : List Lexed) → back ≡ x ∷ xs → StopsAt end front back r → ¬ AreBegun (front ++ x ∷ [])
  stops_there front back r x xs e h = (subst (λ (us : List Lexed). StopsAt end front us r) e h).0

  halts_there : (front back : List Lexed) (s : Refusal) (x : Lexed) (xs : List Lexed) → back ≡ x ∷ xs → AtBack read accepts stops end front s back → ¬ AreBegun (front ++ x ∷ [])
  halts_there front back s x xs e h = not_begun front x s (subst (λ (us : List Lexed). AtBack read accepts stops end front s us) e h).0

  own_same : (front : List Lexed) (k : Token) (a b : TextKind) → HasOwnKind (WantsNumber front) k a → Own read accepts stops front b k → a ≡ b
  own_same front (Bad j) a b h g = h ∙ sym g
  own_same front (Word j) a b h g = h ∙ sym g
  own_same front (String j) a b h g = h ∙ sym g
  own_same front (Mark j) a b h g = h ∙ sym g
  own_same front (Number d) a b h (inl g) = h.0 (wants front g.1.0 g.1.1 g.1.2 g.1.3) ∙ sym g.0
  own_same front (Number d) a b h (inr g) = h.1 (wants_not front g.1) ∙ sym g.0

  same_kind : (front : List Lexed) (x : Lexed) (a : TextKind) (s : Refusal) → ((ys : List Lexed) → Read (front ++ x ∷ ys) s) → HasKind front x a → Kinds read accepts stops front s.kind x → a ≡ s.kind
  same_kind front x a s same h (inl g) = h.0 s.kind g
  same_kind front x a s same (h, inl k) (inr g) = sym (stop_kind front x s a same k)
  same_kind front x a s same (h, inr k) (inr g) = own_same front x.token a s.kind k g

  same_place : (front back : List Lexed) (r s : Refusal) → StopsAt end front back r → AtBack read accepts stops end front s back → r ≡ s
  same_place front [] r s h g = h.1 ∙ sym g
  same_place front (x ∷ xs) r s h g =
      let k = same_kind front x r.kind s g.0 h.1 g.1 in
      let l = h.2 ∙ sym g.2 in
      λ i. record { kind = k i; line = l i }

  same_fault : (ts : List Lexed) (r s : Refusal) → IsFirstTokenFault end ts r → Halts read accepts stops end ts s → r ≡ s
  same_fault ts r s f h =
      elim (two_fronts f.front f.back h.front h.back (sym f.tokens_are ∙ h.tokens_are)) [
        | inl (u, v) ↦ same_place h.front h.back r s (subst (λ (us : List Lexed). StopsAt end h.front us r) v (subst (λ (us : List Lexed). StopsAt end us f.back r) u f.stops)) h.at
        | inr (inl (x, xs, more, u, v)) ↦ absurd (stops_there f.front f.back r x xs u f.stops (never_longer f.front h.front x more v (begun_of h.front h.begun)))
        | inr (inr (x, xs, more, u, v)) ↦ absurd (halts_there h.front h.back s x xs u h.at (never_longer h.front f.front x more v f.begun))
      ]

  no_list : (ts front back : List Lexed) (r : Refusal) → ts ≡ front ++ back → StopsAt end front back r → ¬ AreWhole ts
  no_list ts front [] r q h = λ w. h.0 (subst (λ (us : List Lexed). AreWhole us) (q ∙ append-nil front) w)
  no_list ts front (x ∷ xs) r q h = λ w. h.0 (xs, subst (λ (us : List Lexed). AreWhole us) (q ∙ sym (append_assoc front (x ∷ []) xs)) w)

  pub fault_read : (ts : List Lexed) (r : Refusal) → IsFirstTokenFault end ts r → all_of end ts ≡ Err r
  fault_read ts r f =
      elim (all_of end ts) as (λ z. all_of end ts ≡ z → z ≡ Err r) [
        | Ok ss ↦ λ e. absurd (no_list ts f.front f.back r f.tokens_are f.stops (ss, all_sound end ts ss e))
        | Err s ↦ λ e. ap (λ (z : Refusal). Err z) (sym (same_fault ts r s f (halts ts s (bind_err (read ts) (λ x. map statement_of x.0) s e))))
      ] refl
