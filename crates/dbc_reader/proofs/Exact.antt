-- What is read stands in the relation, by induction over the template; and what stands there is read.
use Rattle.std.proofs.Common.{◌≡◌, ◌⊎◌, inl, inr, ℕ, zero, suc, ◌≤◌, ◌<◌, Bool, true, false, cond, List, [], ◌∷◌, ◌++◌, length, Result, Ok, Err, refl, sym, ap, subst, ◌∙◌, arith}
use Rattle.cg_out.specs.Words.{◌>>=◌}
use Rattle.can_model.specs.Refusal.{Refusal}
use Rattle.can_model.specs.declared.refusal.TextKind.{TextKind}
use Rattle.dbc_reader.specs.Token.{Lexed}
use Rattle.dbc_reader.specs.Template.{Test, Template, done, take, both, choose, repeat, skip, stop, Given, Kept, given, passes}
use Rattle.dbc_reader.specs.Reading.{fault_at, with_rest, one_at, past, unless_at, repeat_at, template_at}
use Rattle.dbc_reader.specs.Statements.{EndsRun, Passes, Passing, Rounds, Fits}
use Rattle.dbc_reader.proofs.Steps.{bind_ok, ok_is, never_both, ended_next, passed_next, IsRegular, fits_eats, repeat-step, repeat-stop, repeat-end, and_rounds, Shortens}

-- ---- what is read stands in the relation

pub past_splits : (p : Test) (ts : List Lexed) → (front : List Lexed) × (ts ≡ front ++ past p ts) × Passing p front × EndsRun p (past p ts)
past_splits p [] = ([], refl, tt, tt)
past_splits p (x ∷ xs) =
    elim (passes p x.token) as (λ b. passes p x.token ≡ b → (front : List Lexed) × (x ∷ xs ≡ front ++ cond b (past p xs) (x ∷ xs)) × Passing p front × EndsRun p (cond b (past p xs) (x ∷ xs))) [
      | true ↦ λ e. let h = past_splits p xs in (x ∷ h.0, ap (λ (ys : List Lexed). x ∷ ys) h.1, (e, h.2), h.3)
      | false ↦ λ e. ([], refl, tt, e)
    ] refl

taken_fits : {A : Type 0} (r : Result A TextKind) (line : ℕ) (rest : List Lexed) (y : A × List Lexed) → with_rest r line rest ≡ Ok y → (r ≡ Ok y.0) × (rest ≡ y.1)
taken_fits (Ok f) line rest y e = let p = ok_is (f, rest) y e in (λ i. Ok (p i).0, λ i. (p i).1)
taken_fits (Err k) line rest y e = absurd cc

-- what a choice reads
abbrev pub left : {A B : Type 0} → Result (A × List Lexed) Refusal → Result ((A ⊎ B) × List Lexed) Refusal
left r = r >>= λ x. Ok (inl x.0, x.1)

abbrev pub right : {A B : Type 0} → Result (B × List Lexed) Refusal → Result ((A ⊎ B) × List Lexed) Refusal
right r = r >>= λ x. Ok (inr x.0, x.1)

-- the next token passes, or it does not
pub next_case : (p : Test) (ts : List Lexed) → Passes p ts ⊎ EndsRun p ts
next_case p [] = inr tt
next_case p (x ∷ xs) = elim (passes p x.token) as (λ b. passes p x.token ≡ b → (b ≡ true) ⊎ (b ≡ false)) [ true ↦ λ e. inl refl | false ↦ λ e. inr refl ] refl

module _ {A : Type 0} (read : List Lexed → Result (A × List Lexed) Refusal) (p : Test) (fit : A → List Lexed → List Lexed → Type 0)
    (sound : (ts : List Lexed) (y : A × List Lexed) → read ts ≡ Ok y → fit y.0 ts y.1) (short : Shortens read p) where
  rounds_step : (ts : List Lexed) (y : List A × List Lexed) → ((x : A × List Lexed) (a : List A × List Lexed) → length x.1 < length ts → repeat_at read p x.1 ≡ Ok a → Rounds fit p a.0 x.1 a.1 × EndsRun p a.1) → repeat_at read p ts ≡ Ok y → Rounds fit p y.0 ts y.1 × EndsRun p y.1
  rounds_step ts y ih e =
      elim (next_case p ts) [
        | inr d ↦ let q = ok_is ([], ts) y (sym (repeat-end read p ts d) ∙ e) in subst (λ (z : List A × List Lexed). Rounds fit p z.0 ts z.1 × EndsRun p z.1) q (refl, d)
        | inl d ↦ elim (read ts) as (λ r. read ts ≡ r → Rounds fit p y.0 ts y.1 × EndsRun p y.1) [
          | Ok x ↦ λ g.
              let a = bind_ok (repeat_at read p x.1) (λ q. Ok (x.0 ∷ q.0, q.1)) y (sym (repeat-step read p short ts x d g) ∙ e) in
              let i = ih x a.0 (short ts x g) a.1 in
              subst (λ (z : List A × List Lexed). Rounds fit p z.0 ts z.1 × EndsRun p z.1) (ok_is (x.0 ∷ a.0.0, a.0.1) y a.2) ((d, (x.1, sound ts x g, i.0)), i.1)
          | Err s ↦ λ g. absurd (never_both (repeat_at read p ts) y s e (repeat-stop read p ts s d g))
        ] refl
      ]

  pub rounds_sound : (n : ℕ) (ts : List Lexed) (y : List A × List Lexed) → length ts ≤ n → repeat_at read p ts ≡ Ok y → Rounds fit p y.0 ts y.1 × EndsRun p y.1
  rounds_sound zero ts y le e = rounds_step ts y (λ x a lt h. absurd (omega arith)) e
  rounds_sound (suc n) ts y le e = rounds_step ts y (λ x a lt h. rounds_sound n x.1 a (omega arith) h) e

unless_fits : (p : Test) (kind : TextKind) (ts : List Lexed) (y : Unit {0} × List Lexed) → unless_at p kind ts ≡ Ok y → EndsRun p ts × (ts ≡ y.1)
unless_fits p kind [] y e = (tt, λ i. (ok_is (tt, []) y e i).1)
unless_fits p kind (x ∷ xs) y e =
    elim (passes p x.token) as (λ b. cond b (Err (fault_at kind x.line)) (Ok (tt, x ∷ xs)) ≡ Ok y → (b ≡ false) × (x ∷ xs ≡ y.1)) [
      | true ↦ λ f. absurd cc
      | false ↦ λ f. (refl, λ i. (ok_is (tt, x ∷ xs) y f i).1)
    ] e

pub template_fits : (end : ℕ) (t : Template) → IsRegular t → (ts : List Lexed) (y : Kept t × List Lexed) → template_at end t ts ≡ Ok y → Fits t y.0 ts y.1
template_fits end done l ts y e = λ i. (ok_is (tt, ts) y e i).1
template_fits end (take w) l [] y e = absurd cc
template_fits end (take w) l (x ∷ xs) y e = let h = taken_fits (given w x) x.line xs y e in (x, ap (λ (us : List Lexed). x ∷ us) h.1, h.0)
template_fits end (both t u) l ts y e =
    let a = bind_ok (template_at end t ts) (λ x. template_at end u x.1 >>= λ z. Ok ((x.0, z.0), z.1)) y e in
    let b = bind_ok (template_at end u a.0.1) (λ z. Ok ((a.0.0, z.0), z.1)) y a.2 in
    subst (λ (z : Kept (both t u) × List Lexed). Fits (both t u) z.0 ts z.1) (ok_is ((a.0.0, b.0.0), b.0.1) y b.2)
    (a.0.1, template_fits end t l.0 ts a.0 a.1, template_fits end u l.1 a.0.1 b.0 b.1)
template_fits end (choose p t u) l ts y e =
    elim (next_case p ts) [
      | inl d ↦
          let a = bind_ok (template_at end t ts) (λ x. Ok (inl x.0, x.1)) y (sym (ap (λ (b : Bool). cond b (left (template_at end t ts)) (right (template_at end u ts))) (passed_next p ts d)) ∙ e) in
          subst (λ (z : Kept (choose p t u) × List Lexed). Fits (choose p t u) z.0 ts z.1) (ok_is (inl a.0.0, a.0.1) y a.2) (d, template_fits end t l.1 ts a.0 a.1)
      | inr d ↦
          let a = bind_ok (template_at end u ts) (λ x. Ok (inr x.0, x.1)) y (sym (ap (λ (b : Bool). cond b (left (template_at end t ts)) (right (template_at end u ts))) (ended_next p ts d)) ∙ e) in
          subst (λ (z : Kept (choose p t u) × List Lexed). Fits (choose p t u) z.0 ts z.1) (ok_is (inr a.0.0, a.0.1) y a.2) (d, template_fits end u l.2 ts a.0 a.1)
    ]
template_fits end (repeat p t) l ts y e =
    rounds_sound (template_at end t) p (Fits t) (λ us z h. template_fits end t l.1 us z h)
    (λ us z h. fits_eats t l.0 z.0 us z.1 (template_fits end t l.1 us z h)) (length ts) ts y (omega arith) e
template_fits end (skip p) l ts y e =
    let s = past_splits p ts in
    subst (λ (z : Unit {0} × List Lexed). Fits (skip p) z.0 ts z.1) (ok_is (tt, past p ts) y e) (s.0, s.1, s.2, s.3)
template_fits end (stop p kind) l ts y e = unless_fits p kind ts y e

-- ---- what stands in the relation is read

past_ended : (p : Test) (ts : List Lexed) → EndsRun p ts → past p ts ≡ ts
past_ended p [] h = refl
past_ended p (x ∷ xs) h = rw h refl

pub past-append : (p : Test) (front rest : List Lexed) → Passing p front → EndsRun p rest → past p (front ++ rest) ≡ rest
past-append p [] rest h k = past_ended p rest k
past-append p (x ∷ front) rest h k = rw h.0 (past-append p front rest h.1 k)

unless_ended : (p : Test) (kind : TextKind) (ts : List Lexed) → EndsRun p ts → unless_at p kind ts ≡ Ok (tt, ts)
unless_ended p kind [] h = refl
unless_ended p kind (x ∷ xs) h = rw h refl

rounds_read : {A : Type 0} (read : List Lexed → Result (A × List Lexed) Refusal) (p : Test) (fit : A → List Lexed → List Lexed → Type 0) → ((f : A) (ts rest : List Lexed) → fit f ts rest → read ts ≡ Ok (f, rest)) → Shortens read p
    → (fs : List A) (ts rest : List Lexed) → Rounds fit p fs ts rest → EndsRun p rest → repeat_at read p ts ≡ Ok (fs, rest)
rounds_read read p fit c s [] ts rest h k = ap (repeat_at read p) h ∙ repeat-end read p rest k
rounds_read read p fit c s (f ∷ fs) ts rest h k =
    repeat-step read p s ts (f, h.1.0) h.0 (c f ts h.1.0 h.1.1) ∙ ap (and_rounds read p f) (rounds_read read p fit c s fs h.1.0 rest h.1.2 k)

pub fits_template : (end : ℕ) (t : Template) → IsRegular t → (f : Kept t) (ts rest : List Lexed) → Fits t f ts rest → template_at end t ts ≡ Ok (f, rest)
fits_template end done l f ts rest h = λ i. Ok (tt, h i)
fits_template end (take w) l f ts rest h = ap (one_at end w) h.1 ∙ ap (λ (r : Result (Given w) TextKind). with_rest r h.0.line rest) h.2
fits_template end (both t u) l f ts rest h =
    let a = fits_template end t l.0 f.0 ts h.0 h.1 in
    let b = fits_template end u l.1 f.1 h.0 rest h.2 in
    rw (a, b) refl
fits_template end (choose p t u) l (inl f) ts rest h =
    ap (λ (b : Bool). cond b (left (template_at end t ts)) (right (template_at end u ts))) (passed_next p ts h.0) ∙ ap (left {B = Kept u}) (fits_template end t l.1 f ts rest h.1)
fits_template end (choose p t u) l (inr f) ts rest h =
    ap (λ (b : Bool). cond b (left (template_at end t ts)) (right (template_at end u ts))) (ended_next p ts h.0) ∙ ap (right {A = Kept t}) (fits_template end u l.2 f ts rest h.1)
fits_template end (repeat p t) l fs ts rest h =
    rounds_read (template_at end t) p (Fits t) (λ f us vs k. fits_template end t l.1 f us vs k)
    (λ us z k. fits_eats t l.0 z.0 us z.1 (template_fits end t l.1 us z k)) fs ts rest h.0 h.1
fits_template end (skip p) l f ts rest h = λ i. Ok (tt, (ap (past p) h.1 ∙ past-append p h.0 rest h.2 h.3) i)
fits_template end (stop p kind) l f ts rest h = ap (unless_at p kind) h.1 ∙ unless_ended p kind rest (subst (λ (us : List Lexed). EndsRun p us) h.1 h.0)
