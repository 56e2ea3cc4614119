-- Where reading a template halts: at a token at which it halts whatever stands behind, after tokens that can be brought to an end.
-- The one idea is `lift`: a reader that goes on as another after some tokens halts as that one does.
use Rattle.std.proofs.Common.{◌≡◌, ◌⊎◌, inl, inr, ℕ, zero, suc, ◌≤◌, ◌<◌, Bool, true, false, cond, eqb, List, [], ◌∷◌, ◌++◌, length, Result, Ok, Err, refl, sym, ap, subst, ◌∙◌, append_assoc, arith}
use Rattle.std.proofs.lemmas.List.{append-nil, append_cancel_right}
use Rattle.std.specs.declared.option.Option.{Option}
use Rattle.std.specs.declared.option.Option.TheVariants.{None, Some}
use Rattle.cg_out.specs.Words.{◌>>=◌}
use Rattle.can_model.specs.Refusal.{Refusal}
use Rattle.can_model.specs.declared.refusal.TextKind.{TextKind}
use Rattle.can_model.specs.declared.refusal.TextKind.TheVariants.{Unexpected, BadNumber}
use Rattle.limit_fraction.specs.Decimal.{zero_decimal}
use Rattle.dbc_reader.specs.Token.{Token, Word, Number, String, Mark, Bad, Lexed}
use Rattle.dbc_reader.specs.Template.{Want, first_word, first_mark, word, string, mark, sign, whole_number, decimal, Test, Template, done, take, both, choose, repeat, skip, stop, Given, Kept, value_or_fault, sign_of_mark, given_of, given, passes}
use Rattle.dbc_reader.specs.Reading.{fault_at, with_rest, one_at, unless_at, repeat_at, template_at}
use Rattle.dbc_reader.specs.Statements.{Passes, Rounds, Fits}
use Rattle.dbc_reader.specs.FirstFault.{Stops}
use Rattle.dbc_reader.proofs.Steps.{err_is, bind_err, never_both, ended_next, passed_next, IsRegular, fits_eats, Shortens, and_rounds, repeat-step, repeat-stop, repeat-end}
use Rattle.dbc_reader.proofs.Exact.{left, right, next_case, template_fits, fits_template}
use Rattle.dbc_reader.proofs.Lively.{Beside, ends_beside, passes_beside, MayFollow, passes_front, Local, fits_local, rounds_local, numbered, zero_token, sample, whole_given, decimal_given, spelling, IsLive, Accepts, live}

-- tests see no difference between two numbers
pub number_alike : (d e : List ℕ) (p : Test) → passes p (Number d) ≡ passes p (Number e)
number_alike d e Test.anything = refl
number_alike d e Test.is_string = refl
number_alike d e Test.is_number = refl
number_alike d e Test.is_word = refl
number_alike d e Test.is_name = refl
number_alike d e (Test.is_word_in ws) = refl
number_alike d e (Test.is_mark b) = refl
number_alike d e (Test.is_number_or ms) = refl
number_alike d e (Test.unless_word ws) = refl
number_alike d e (Test.unless_mark b) = refl
number_alike d e Test.is_mux_word = refl

-- some tokens more make them accepted
abbrev pub Begun : (List Lexed → Type 0) → List Lexed → Type 0
Begun accepts us = (more : List Lexed) × accepts (us ++ more)

pub begun_now : (accepts : List Lexed → Type 0) (us : List Lexed) → accepts us → Begun accepts us
begun_now accepts us a = ([], subst accepts (sym (append-nil us)) a)

module _ {A : Type 0} (read : List Lexed → Result A Refusal) (accepts : List Lexed → Type 0) (stops : List Lexed → Lexed → TextKind → Type 0) where
  -- the kind of a fault at a token where nothing stops: at a number it is known whether some number goes on there
  abbrev pub Own : List Lexed → TextKind → Token → Type 0
  Own front kind (Bad own) = kind ≡ own
  Own front kind (Number d) =
      ((kind ≡ BadNumber) × ((e : List ℕ) × (n : ℕ) × (more : List Lexed) × accepts (front ++ numbered e n ∷ more)))
      ⊎ ((kind ≡ Unexpected) × ((e : List ℕ) (n : ℕ) (ys : List Lexed) → read (front ++ numbered e n ∷ ys) ≡ Err (fault_at Unexpected n)))
  Own front kind t = kind ≡ Unexpected

  abbrev pub Kinds : List Lexed → TextKind → Lexed → Type 0
  Kinds front kind x = stops front x kind ⊎ Own front kind x.token

  -- reading halts at the next token, whatever stands behind it, or at the end
  abbrev pub AtBack : ℕ → List Lexed → Refusal → List Lexed → Type 0
  AtBack end front s [] = s ≡ fault_at Unexpected end
  AtBack end front s (x ∷ xs) = ((ys : List Lexed) → read (front ++ x ∷ ys) ≡ Err s) × Kinds front s.kind x × (s.line ≡ x.line)

  pub record Halts (end : ℕ) (ts : List Lexed) (s : Refusal) : Type 0 where
    pub front : List Lexed
    pub back : List Lexed
    pub tokens_are : ts ≡ front ++ back
    pub begun : Begun accepts front
    pub at : AtBack end front s back

abbrev Alike : Token → Token → Type 0
Alike k j = (p : Test) → passes p k ≡ passes p j

follow_alike : (front : List Lexed) (x x' : Lexed) (xs ys : List Lexed) → Alike x'.token x.token → Beside (front ++ x ∷ xs) (front ++ x' ∷ ys)
follow_alike [] x x' xs ys h = h
follow_alike (y ∷ front) x x' xs ys h = λ p. refl

beside_more : (rest us v : List Lexed) → Beside rest us → Beside rest (us ++ v)
beside_more rest [] v m = absurd m
beside_more [] (z ∷ zs) v m = absurd m
beside_more (y ∷ ys) (z ∷ zs) v m = m

module _ {A B : Type 0} (read1 : List Lexed → Result A Refusal) (acc1 : List Lexed → Type 0) (stp1 : List Lexed → Lexed → TextKind → Type 0)
    (read2 : List Lexed → Result B Refusal) (acc2 : List Lexed → Type 0) (stp2 : List Lexed → Lexed → TextKind → Type 0) (pre : List Lexed) where
  abbrev pub Errs : List Lexed → Type 0
  Errs rest = (us : List Lexed) → Beside rest us → (d : Refusal) → read1 us ≡ Err d → read2 (pre ++ us) ≡ Err d

  abbrev pub Accs : List Lexed → Type 0
  Accs rest = (us : List Lexed) → Beside rest us → acc1 us → Begun acc2 (pre ++ us)

  abbrev pub Stps : List Lexed → Type 0
  Stps rest = (front : List Lexed) (x : Lexed) (k : TextKind) → Beside rest (front ++ x ∷ []) → stp1 front x k → stp2 (pre ++ front) x k

  lift_begun : (front back : List Lexed) → Accs (front ++ back) → Begun acc2 pre → Begun acc1 front → Begun acc2 (pre ++ front)
  lift_begun [] back l z h = (z.0, subst (λ (us : List Lexed). acc2 (us ++ z.0)) (sym (append-nil pre)) z.1)
  lift_begun (x ∷ front) back l z h =
      let a = l (x ∷ front ++ h.0) (λ p. refl) h.1 in
      (h.0 ++ a.0, subst acc2 (simp append_assoc) a.1)

  lift_own : (front : List Lexed) (kind : TextKind) (x : Lexed) (xs : List Lexed) (k : Token) → x.token ≡ k → Errs (front ++ x ∷ xs) → Accs (front ++ x ∷ xs) → Own read1 acc1 stp1 front kind k → Own read2 acc2 stp2 (pre ++ front) kind k
  lift_own front kind x xs (Bad j) e r l h = h
  lift_own front kind x xs (Word j) e r l h = h
  lift_own front kind x xs (String j) e r l h = h
  lift_own front kind x xs (Mark j) e r l h = h
  lift_own front kind x xs (Number d) e r l (inl h) =
      let a = l (front ++ numbered h.1.0 h.1.1 ∷ h.1.2) (follow_alike front x (numbered h.1.0 h.1.1) xs h.1.2 (λ p. number_alike h.1.0 d p ∙ sym (ap (passes p) e))) h.1.3 in
      inl (h.0, (h.1.0, h.1.1, h.1.2 ++ a.0, subst acc2 (simp append_assoc) a.1))
  lift_own front kind x xs (Number d) e r l (inr h) =
      inr (h.0, λ d' n ys. rw append_assoc (r (front ++ numbered d' n ∷ ys) (follow_alike front x (numbered d' n) xs ys (λ p. number_alike d' d p ∙ sym (ap (passes p) e))) _ (h.1 d' n ys)))

  lift_kinds : (front : List Lexed) (kind : TextKind) (x : Lexed) (xs : List Lexed) → Errs (front ++ x ∷ xs) → Accs (front ++ x ∷ xs) → Stps (front ++ x ∷ xs) → Kinds read1 acc1 stp1 front kind x → Kinds read2 acc2 stp2 (pre ++ front) kind x
  lift_kinds front kind x xs r l s (inl h) = inl (s front x kind (follow_alike front x x xs [] (λ p. refl)) h)
  lift_kinds front kind x xs r l s (inr h) = inr (lift_own front kind x xs x.token refl r l h)

  lift_at : (end : ℕ) (front back : List Lexed) (s : Refusal) → Errs (front ++ back) → Accs (front ++ back) → Stps (front ++ back) → AtBack read1 acc1 stp1 end front s back → AtBack read2 acc2 stp2 end (pre ++ front) s back
  lift_at end front [] s r l t h = h
  lift_at end front (x ∷ xs) s r l t h = (
    λ ys. rw append_assoc (r (front ++ x ∷ ys) (follow_alike front x x xs ys (λ p. refl)) _ (h.0 ys)),
    lift_kinds front s.kind x xs r l t h.1,
    h.2,
  )

  pub lift : (end : ℕ) (rest : List Lexed) (s : Refusal) → Errs rest → Accs rest → Stps rest → Begun acc2 pre → Halts read1 acc1 stp1 end rest s → Halts read2 acc2 stp2 end (pre ++ rest) s
  lift end rest s r l t z h =
      let r' = subst (λ (us : List Lexed). Errs us) h.tokens_are r in
      let l' = subst (λ (us : List Lexed). Accs us) h.tokens_are l in
      let t' = subst (λ (us : List Lexed). Stps us) h.tokens_are t in
      record {
        front = pre ++ h.front;
        back = h.back;
        tokens_are = ap (λ (us : List Lexed). pre ++ us) h.tokens_are ∙ sym (append_assoc pre h.front h.back);
        begun = lift_begun h.front h.back l' z h.begun;
        at = lift_at end h.front h.back s r' l' t' h.at;
      }

-- halting where nothing was taken
pub halts_here : {A : Type 0} (read : List Lexed → Result A Refusal) (accepts : List Lexed → Type 0) (stops : List Lexed → Lexed → TextKind → Type 0) (end : ℕ) (x : Lexed) (xs : List Lexed) (kind : TextKind) (s : Refusal) → fault_at kind x.line ≡ s → Begun accepts []
    → ((ys : List Lexed) → read (x ∷ ys) ≡ Err (fault_at kind x.line)) → Kinds read accepts stops [] kind x → Halts read accepts stops end (x ∷ xs) s
halts_here read accepts stops end x xs kind s e z same kinds = subst (λ (d : Refusal). Halts read accepts stops end (x ∷ xs) d) e (record { front = []; back = x ∷ xs; tokens_are = refl; begun = z; at = (same, kinds, refl) })

halts_ended : {A : Type 0} (read : List Lexed → Result A Refusal) (accepts : List Lexed → Type 0) (stops : List Lexed → Lexed → TextKind → Type 0) (end : ℕ) (s : Refusal) → fault_at Unexpected end ≡ s → Begun accepts [] → Halts read accepts stops end [] s
halts_ended read accepts stops end s e z = subst (λ (d : Refusal). Halts read accepts stops end [] d) e (record { front = []; back = []; tokens_are = refl; begun = z; at = refl })

-- ---- one token

value_kind : {A : Type 0} (o : Option A) (k : TextKind) → value_or_fault o ≡ Err k → k ≡ BadNumber
value_kind (Some n) k e = absurd cc
value_kind None k e = cc

test_kind : {A : Type 0} (b : Bool) (f : A) (k : TextKind) → ◌≡◌ {A = Result A TextKind} (cond b (Ok f) (Err Unexpected)) (Err k) → k ≡ Unexpected
test_kind true f k e = absurd cc
test_kind false f k e = cc

sign_kind : (d : ℕ) (k : TextKind) → sign_of_mark d ≡ Err k → k ≡ Unexpected
sign_kind d k e = at (eqb d 45) (eqb d 43) e where
  at : (a b : Bool) → ◌≡◌ {A = Result Bool TextKind} (cond a (Ok true) (cond b (Ok false) (Err Unexpected))) (Err k) → k ≡ Unexpected
  at true b f = absurd cc
  at false true f = absurd cc
  at false false f = cc

take_own : (end : ℕ) (w : Want) (v : List Lexed) (j : Token) (line : ℕ) (k : TextKind) → given_of w j line ≡ Err k → Own (template_at end (take w)) (Accepts (take w) v) (Stops (take w)) [] k j
take_own end first_word v (Bad j) line k e = cc
take_own end first_word v (Number d) line k e = inr (cc, λ d' n ys. refl)
take_own end first_word v (Word d) line k e = absurd cc
take_own end first_word v (String d) line k e = cc
take_own end first_word v (Mark d) line k e = cc
take_own end (first_mark b) v (Bad j) line k e = cc
take_own end (first_mark b) v (Number d) line k e = inr (cc, λ d' n ys. refl)
take_own end (first_mark b) v (Word d) line k e = cc
take_own end (first_mark b) v (String d) line k e = cc
take_own end (first_mark b) v (Mark d) line k e = test_kind _ _ k e
take_own end word v (Bad j) line k e = cc
take_own end word v (Number d) line k e = inr (cc, λ d' n ys. refl)
take_own end word v (Word d) line k e = absurd cc
take_own end word v (String d) line k e = cc
take_own end word v (Mark d) line k e = cc
take_own end string v (Bad j) line k e = cc
take_own end string v (Number d) line k e = inr (cc, λ d' n ys. refl)
take_own end string v (Word d) line k e = cc
take_own end string v (String d) line k e = absurd cc
take_own end string v (Mark d) line k e = cc
take_own end (mark b) v (Bad j) line k e = cc
take_own end (mark b) v (Number d) line k e = inr (cc, λ d' n ys. refl)
take_own end (mark b) v (Word d) line k e = cc
take_own end (mark b) v (String d) line k e = cc
take_own end (mark b) v (Mark d) line k e = test_kind _ _ k e
take_own end sign v (Bad j) line k e = cc
take_own end sign v (Number d) line k e = inr (cc, λ d' n ys. refl)
take_own end sign v (Word d) line k e = cc
take_own end sign v (String d) line k e = cc
take_own end sign v (Mark d) line k e = sign_kind d k e
take_own end (whole_number limit) v (Bad j) line k e = cc
take_own end (whole_number limit) v (Number d) line k e = inl (value_kind _ k e, (48 ∷ [], 0, [], (0, (zero_token, refl, whole_given limit))))
take_own end (whole_number limit) v (Word d) line k e = cc
take_own end (whole_number limit) v (String d) line k e = cc
take_own end (whole_number limit) v (Mark d) line k e = cc
take_own end decimal v (Bad j) line k e = cc
take_own end decimal v (Number d) line k e = inl (value_kind _ k e, (48 ∷ [], 0, [], (zero_decimal, (zero_token, refl, decimal_given))))
take_own end decimal v (Word d) line k e = cc
take_own end decimal v (String d) line k e = cc
take_own end decimal v (Mark d) line k e = cc

take_halts : (end : ℕ) (w : Want) (v : List Lexed) (ts : List Lexed) (s : Refusal) → one_at end w ts ≡ Err s → Halts (template_at end (take w)) (Accepts (take w) v) (Stops (take w)) end ts s
take_halts end w v [] s e = halts_ended (template_at end (take w)) (Accepts (take w) v) (Stops (take w)) end s (err_is (fault_at Unexpected end) s e) (sample w ∷ [], live (take w) v tt)
take_halts end w v (x ∷ xs) s e =
    elim (given w x) as (λ r. given w x ≡ r → with_rest r x.line xs ≡ Err s → Halts (template_at end (take w)) (Accepts (take w) v) (Stops (take w)) end (x ∷ xs) s) [
      | Ok f ↦ λ g h. absurd cc
      | Err k ↦ λ g h. halts_here (template_at end (take w)) (Accepts (take w) v) (Stops (take w)) end x xs k s (err_is (fault_at k x.line) s h) (sample w ∷ [], live (take w) v tt) (λ ys. ap (λ (r : Result (Given w) TextKind). with_rest r x.line ys) g) (inr (take_own end w v x.token x.line k g))
    ] refl e

-- ---- templates

-- reading a template, its spellings and its stops
abbrev HaltsIn : (t : Template) → List Lexed → ℕ → List Lexed → Refusal → Type 0
HaltsIn t v end ts s = Halts (template_at end t) (Accepts t v) (Stops t) end ts s

abbrev HaltsAll : (t : Template) → List Lexed → ℕ → Type 0
HaltsAll t v end = (ts : List Lexed) (s : Refusal) → template_at end t ts ≡ Err s → HaltsIn t v end ts s

again : (end : ℕ) (t : Template) → IsRegular t → (f : Kept t) (ts rest : List Lexed) → (l : Local t f ts rest) → (us : List Lexed) → Beside rest us → template_at end t (l.0 ++ us) ≡ Ok (f, us)
again end t r f ts rest l us m = fits_template end t r f (l.0 ++ us) us (l.2 us (inl m))

begun_spelling : (t : Template) (v : List Lexed) → IsLive t v → Begun (Accepts t v) []
begun_spelling t v l = (spelling t, live t v l)

-- what the second template reads behind the first
abbrev then_read : {A : Type 0} → ℕ → (u : Template) → Result (A × List Lexed) Refusal → Result ((A × Kept u) × List Lexed) Refusal
then_read end u r = r >>= λ x. template_at end u x.1 >>= λ y. Ok ((x.0, y.0), y.1)

both_halts : (end : ℕ) (t u : Template) (v : List Lexed) → IsRegular (both t u) → IsLive (both t u) v → HaltsAll t (spelling u ++ v) end → HaltsAll u v end → HaltsAll (both t u) v end
both_halts end t u v r l ht hu ts s e =
    elim (template_at end t ts) as (λ z. template_at end t ts ≡ z → then_read end u z ≡ Err s → HaltsIn (both t u) v end ts s) [
      | Err d ↦ λ g h.
          lift (template_at end t) (Accepts t (spelling u ++ v)) (Stops t) (template_at end (both t u)) (Accepts (both t u) v) (Stops (both t u)) [] end ts s
          (λ us m k a. ap (then_read {A = Kept t} end u) a)
          (λ us m a. let k = live u v l.2 in (spelling u, ((a.0, k.0), (spelling u ++ v, subst (λ (ys : List Lexed). Fits t a.0 ys (spelling u ++ v)) (sym (append_assoc us (spelling u) v)) a.1, k.1))))
          (λ front x k m a. inl a)
          (begun_spelling (both t u) v l)
          (ht ts s (g ∙ ap (λ (z : Refusal). Err z) (err_is d s h)))
      | Ok y ↦ λ g h.
          let fit = template_fits end t r.0 ts y g in
          let j = fits_local t r.0 y.0 ts y.1 fit in
          let k = live u v l.2 in
          subst (λ (us : List Lexed). HaltsIn (both t u) v end us s) (sym j.1)
          (lift (template_at end u) (Accepts u v) (Stops u) (template_at end (both t u)) (Accepts (both t u) v) (Stops (both t u)) j.0 end y.1 s
          (λ us m d a. rw (again end t r.0 y.0 ts y.1 j us m, a) refl)
          (λ us m a. begun_now (Accepts (both t u) v) (j.0 ++ us) ((y.0, a.0), (us ++ v, subst (λ (ys : List Lexed). Fits t y.0 ys (us ++ v)) (sym (append_assoc j.0 us v)) (j.2 (us ++ v) (inl (beside_more y.1 us v m))), a.1)))
          (λ front x kind m a. inr (y.0, j.0, front, refl, j.2 (front ++ x ∷ []) (inl m), a))
          (spelling u, ((y.0, k.0), (spelling u ++ v, subst (λ (ys : List Lexed). Fits t y.0 ys (spelling u ++ v)) (sym (append_assoc j.0 (spelling u) v)) (j.2 (spelling u ++ v) (inr l.0)), k.1)))
          (hu y.1 s (bind_err (template_at end u y.1) (λ z. ((y.0, z.0), z.1)) s h)))
    ] refl e

choose_halts : (end : ℕ) (p : Test) (t u : Template) (v : List Lexed) → IsLive (choose p t u) v → HaltsAll t v end → HaltsAll u v end → HaltsAll (choose p t u) v end
choose_halts end p t u v l ht hu ts s e =
    elim (next_case p ts) [
      | inl d ↦
          lift (template_at end t) (Accepts t v) (Stops t) (template_at end (choose p t u)) (Accepts (choose p t u) v) (Stops (choose p t u)) [] end ts s
          (λ us m k a. ap (λ (b : Bool). cond b (left (template_at end t us)) (right (template_at end u us))) (passed_next p us (passes_beside p ts us m d)) ∙ ap (left {B = Kept u}) a)
          (λ us m a. begun_now (Accepts (choose p t u) v) us (inl a.0, (passes_beside p ts (us ++ v) (beside_more ts us v m) d, a.1)))
          (λ front x k m a. inl (passes_beside p ts (front ++ x ∷ []) m d, a))
          (begun_spelling (choose p t u) v l)
          (ht ts s (bind_err (template_at end t ts) (λ x. (inl x.0, x.1)) s (sym (ap (λ (b : Bool). cond b (left (template_at end t ts)) (right (template_at end u ts))) (passed_next p ts d)) ∙ e)))
      | inr d ↦
          lift (template_at end u) (Accepts u v) (Stops u) (template_at end (choose p t u)) (Accepts (choose p t u) v) (Stops (choose p t u)) [] end ts s
          (λ us m k a. ap (λ (b : Bool). cond b (left (template_at end t us)) (right (template_at end u us))) (ended_next p us (ends_beside p ts us m d)) ∙ ap (right {A = Kept t}) a)
          (λ us m a. begun_now (Accepts (choose p t u) v) us (inr a.0, (ends_beside p ts (us ++ v) (beside_more ts us v m) d, a.1)))
          (λ front x k m a. inr (ends_beside p ts (front ++ x ∷ []) m d, a))
          (begun_spelling (choose p t u) v l)
          (hu ts s (bind_err (template_at end u ts) (λ x. (inr x.0, x.1)) s (sym (ap (λ (b : Bool). cond b (left (template_at end t ts)) (right (template_at end u ts))) (ended_next p ts d)) ∙ e)))
    ]

module _ (end : ℕ) (p : Test) (t : Template) (v : List Lexed) (r : IsRegular (repeat p t)) (l : IsLive (repeat p t) v) (ht : HaltsAll t v end) where
  short : Shortens (template_at end t) p
  short us z k = fits_eats t r.0 z.0 us z.1 (template_fits end t r.1 us z k)

  first_round : (ts : List Lexed) (s : Refusal) → Passes p ts → template_at end t ts ≡ Err s → HaltsIn (repeat p t) v end ts s
  first_round ts s d g =
      lift (template_at end t) (Accepts t v) (Stops t) (template_at end (repeat p t)) (Accepts (repeat p t) v) (Stops (repeat p t)) [] end ts s
      (λ us m k a. repeat-stop (template_at end t) p us k (passes_beside p ts us m d) a)
      (λ us m a. begun_now (Accepts (repeat p t) v) us (a.0 ∷ [], ((passes_beside p ts (us ++ v) (beside_more ts us v m) d, (v, a.1, refl)), l.0)))
      (λ front x k m a. ([], [], front, refl, refl, passes_beside p ts (front ++ x ∷ []) m d, a))
      (begun_spelling (repeat p t) v l)
      (ht ts s g)

  -- a round and what is accepted behind it
  with_round : (f : Kept t) (ts mid : List Lexed) → Passes p ts → Fits t f ts mid → (j : Local t f ts mid) → (us : List Lexed) → MayFollow t mid us → (fs : List (Kept t)) (rest : List Lexed) → Rounds (Fits t) p fs us rest → Rounds (Fits t) p (f ∷ fs) (j.0 ++ us) rest
  with_round f ts mid d fit j us m fs rest h =
      (passes_front p j.0 mid us (subst (λ (ys : List Lexed). length mid < length ys) j.1 (fits_eats t r.0 f ts mid fit)) (subst (λ (ys : List Lexed). Passes p ys) j.1 d), (us, j.2 us m, h))

  next_round : (ts : List Lexed) (s : Refusal) (y : Kept t × List Lexed) → Passes p ts → template_at end t ts ≡ Ok y → HaltsIn (repeat p t) v end y.1 s → HaltsIn (repeat p t) v end ts s
  next_round ts s y d g h =
      let fit = template_fits end t r.1 ts y g in
      let j = fits_local t r.1 y.0 ts y.1 fit in
      let pass : (us : List Lexed) → MayFollow t y.1 us → Passes p (j.0 ++ us) = λ us m. (with_round y.0 ts y.1 d fit j us m [] us refl).0 in
      subst (λ (us : List Lexed). HaltsIn (repeat p t) v end us s) (sym j.1)
      (lift (template_at end (repeat p t)) (Accepts (repeat p t) v) (Stops (repeat p t)) (template_at end (repeat p t)) (Accepts (repeat p t) v) (Stops (repeat p t)) j.0 end y.1 s
      (λ us m k a. repeat-step (template_at end t) p short (j.0 ++ us) (y.0, us) (pass us (inl m)) (again end t r.1 y.0 ts y.1 j us m) ∙ ap (and_rounds (template_at end t) p y.0) a)
      (λ us m a. begun_now (Accepts (repeat p t) v) (j.0 ++ us) (y.0 ∷ a.0, (subst (λ (ys : List Lexed). Rounds (Fits t) p (y.0 ∷ a.0) ys v) (sym (append_assoc j.0 us v)) (with_round y.0 ts y.1 d fit j (us ++ v) (inl (beside_more y.1 us v m)) a.0 v a.1.0), l.0)))
      (λ front x k m (fs, a, b, e, rs, ps, st).
      let same : front ++ x ∷ [] ≡ a ++ (b ++ x ∷ []) = ap (λ (us : List Lexed). us ++ x ∷ []) e ∙ append_assoc a b (x ∷ []) in
      let w = with_round y.0 ts y.1 d fit j (a ++ (b ++ x ∷ [])) (inl (subst (λ (us : List Lexed). Beside y.1 us) same m)) fs (b ++ x ∷ []) rs in
      (y.0 ∷ fs, j.0 ++ a, b, ap (λ (us : List Lexed). j.0 ++ us) e ∙ sym (append_assoc j.0 a b), subst (λ (us : List Lexed). Rounds (Fits t) p (y.0 ∷ fs) us (b ++ x ∷ [])) (sym (append_assoc j.0 a (b ++ x ∷ []))) w, ps, st))
      (begun_now (Accepts (repeat p t) v) j.0 (y.0 ∷ [], (with_round y.0 ts y.1 d fit j v (inr l.1) [] v refl, l.0)))
      h)

  repeat_step : (ts : List Lexed) (s : Refusal) → ((y : Kept t × List Lexed) → length y.1 < length ts → template_at end (repeat p t) y.1 ≡ Err s → HaltsIn (repeat p t) v end y.1 s) → template_at end (repeat p t) ts ≡ Err s → HaltsIn (repeat p t) v end ts s
  repeat_step ts s ih e =
      elim (next_case p ts) [
        | inr d ↦ absurd (never_both (template_at end (repeat p t) ts) ([], ts) s (repeat-end (template_at end t) p ts d) e)
        | inl d ↦ elim (template_at end t ts) as (λ z. template_at end t ts ≡ z → HaltsIn (repeat p t) v end ts s) [
          | Err k ↦ λ g. first_round ts s d (g ∙ ap (λ (z : Refusal). Err z) (err_is k s (sym (repeat-stop (template_at end t) p ts k d g) ∙ e)))
          | Ok y ↦ λ g. next_round ts s y d g (ih y (short ts y g) (bind_err (template_at end (repeat p t) y.1) (λ q. (y.0 ∷ q.0, q.1)) s (sym (repeat-step (template_at end t) p short ts y d g) ∙ e)))
        ] refl
      ]

  repeat_halts : (n : ℕ) (ts : List Lexed) (s : Refusal) → length ts ≤ n → template_at end (repeat p t) ts ≡ Err s → HaltsIn (repeat p t) v end ts s
  repeat_halts zero ts s le e = repeat_step ts s (λ y lt h. absurd (omega arith)) e
  repeat_halts (suc n) ts s le e = repeat_step ts s (λ y lt h. repeat_halts n y.1 s (omega arith) h) e

stop_halts : (end : ℕ) (p : Test) (kind : TextKind) (v : List Lexed) → IsLive (stop p kind) v → HaltsAll (stop p kind) v end
stop_halts end p kind v l [] s e = absurd cc
stop_halts end p kind v l (x ∷ xs) s e =
    elim (passes p x.token) as (λ b. passes p x.token ≡ b → cond {A = Result (Unit {0} × List Lexed) Refusal} b (Err (fault_at kind x.line)) (Ok (tt, x ∷ xs)) ≡ Err s → HaltsIn (stop p kind) v end (x ∷ xs) s) [
      | true ↦ λ g h. halts_here (template_at end (stop p kind)) (Accepts (stop p kind) v) (Stops (stop p kind)) end x xs kind s (err_is (fault_at kind x.line) s h) (begun_spelling (stop p kind) v l) (λ ys. rw g refl) (inl (refl, g, refl))
      | false ↦ λ g h. absurd cc
    ] refl e

pub template_halts : (end : ℕ) (t : Template) (v : List Lexed) → IsRegular t → IsLive t v → HaltsAll t v end
template_halts end done v r l ts s e = absurd cc
template_halts end (take w) v r l ts s e = take_halts end w v ts s e
template_halts end (both t u) v r l ts s e = both_halts end t u v r l (λ us k h. template_halts end t (spelling u ++ v) r.0 l.1 us k h) (λ us k h. template_halts end u v r.1 l.2 us k h) ts s e
template_halts end (choose p t u) v r l ts s e = choose_halts end p t u v l (λ us k h. template_halts end t v r.1 l.1 us k h) (λ us k h. template_halts end u v r.2 l.2 us k h) ts s e
template_halts end (repeat p t) v r l ts s e = repeat_halts end p t v r l (λ us k h. template_halts end t v r.1 l.2 us k h) (length ts) ts s (omega arith) e
template_halts end (skip p) v r l ts s e = absurd cc
template_halts end (stop p kind) v r l ts s e = stop_halts end p kind v l ts s e

-- ---- where a template stops it reads that fault

stops_rounds : (end : ℕ) (p : Test) (t : Template) → IsRegular (repeat p t) → (k : TextKind) (b : List Lexed) (x z : Lexed) (ys : List Lexed) → Alike z.token x.token → Passes p (b ++ x ∷ []) → template_at end t (b ++ z ∷ ys) ≡ Err (fault_at k z.line)
    → (fs : List (Kept t)) (a : List Lexed) → Rounds (Fits t) p fs (a ++ (b ++ x ∷ [])) (b ++ x ∷ []) → repeat_at (template_at end t) p (a ++ (b ++ z ∷ ys)) ≡ Err (fault_at k z.line)
stops_rounds end p t r k b x z ys m ps e fs a rs =
    let beside : Beside (b ++ x ∷ []) (b ++ z ∷ ys) = follow_alike b x z [] ys m in
    let j = rounds_local p t r.0 (λ f us vs g. fits_local t r.1 f us vs g) fs (a ++ (b ++ x ∷ [])) (b ++ x ∷ []) rs in
    let same = append_cancel_right a j.0 (b ++ x ∷ []) j.1 in
    ap (λ (us : List Lexed). repeat_at (template_at end t) p (us ++ (b ++ z ∷ ys))) same ∙ by_rounds fs (j.0 ++ (b ++ z ∷ ys)) (j.2 (b ++ z ∷ ys) (inl beside)) where
      stopped : Beside (b ++ x ∷ []) (b ++ z ∷ ys) → repeat_at (template_at end t) p (b ++ z ∷ ys) ≡ Err (fault_at k z.line)
      stopped beside = repeat-stop (template_at end t) p (b ++ z ∷ ys) (fault_at k z.line) (passes_beside p (b ++ x ∷ []) (b ++ z ∷ ys) beside ps) e

      by_rounds : (fs : List (Kept t)) (us : List Lexed) → Rounds (Fits t) p fs us (b ++ z ∷ ys) → repeat_at (template_at end t) p us ≡ Err (fault_at k z.line)
      by_rounds [] us h = ap (repeat_at (template_at end t) p) h ∙ stopped (follow_alike b x z [] ys m)
      by_rounds (f ∷ fs) us h =
          repeat-step (template_at end t) p (λ vs y g. fits_eats t r.0 y.0 vs y.1 (template_fits end t r.1 vs y g)) us (f, h.1.0) h.0 (fits_template end t r.1 f us h.1.0 h.1.1)
          ∙ ap (and_rounds (template_at end t) p f) (by_rounds fs h.1.0 h.1.2)

pub stops_read : (end : ℕ) (t : Template) → IsRegular t → (front : List Lexed) (x : Lexed) (k : TextKind) → Stops t front x k → (z : Lexed) (ys : List Lexed) → Alike z.token x.token → template_at end t (front ++ z ∷ ys) ≡ Err (fault_at k z.line)
stops_read end done r front x k h z ys m = absurd h
stops_read end (take w) r front x k h z ys m = absurd h
stops_read end (both t u) r front x k (inl h) z ys m = rw (stops_read end t r.0 front x k h z ys m) refl
stops_read end (both t u) r front x k (inr (f, a, b, e, fit, h)) z ys m =
    let j = fits_local t r.0 f (a ++ (b ++ x ∷ [])) (b ++ x ∷ []) fit in
    let same = append_cancel_right a j.0 (b ++ x ∷ []) j.1 in
    let first : template_at end t (a ++ (b ++ z ∷ ys)) ≡ Ok (f, b ++ z ∷ ys) = subst (λ (us : List Lexed). template_at end t (us ++ (b ++ z ∷ ys)) ≡ Ok (f, b ++ z ∷ ys)) (sym same) (again end t r.0 f (a ++ (b ++ x ∷ [])) (b ++ x ∷ []) j (b ++ z ∷ ys) (follow_alike b x z [] ys m)) in
    ap (λ (us : List Lexed). template_at end (both t u) us) (ap (λ (us : List Lexed). us ++ z ∷ ys) e ∙ append_assoc a b (z ∷ ys)) ∙ rw (first, stops_read end u r.1 b x k h z ys m) refl
stops_read end (choose p t u) r front x k (inl h) z ys m =
    ap (λ (b : Bool). cond b (left (template_at end t (front ++ z ∷ ys))) (right (template_at end u (front ++ z ∷ ys)))) (passed_next p (front ++ z ∷ ys) (passes_beside p (front ++ x ∷ []) (front ++ z ∷ ys) (follow_alike front x z [] ys m) h.0)) ∙ ap (left {B = Kept u}) (stops_read end t r.1 front x k h.1 z ys m)
stops_read end (choose p t u) r front x k (inr h) z ys m =
    ap (λ (b : Bool). cond b (left (template_at end t (front ++ z ∷ ys))) (right (template_at end u (front ++ z ∷ ys)))) (ended_next p (front ++ z ∷ ys) (ends_beside p (front ++ x ∷ []) (front ++ z ∷ ys) (follow_alike front x z [] ys m) h.0)) ∙ ap (right {A = Kept t}) (stops_read end u r.2 front x k h.1 z ys m)
stops_read end (repeat p t) r front x k (fs, a, b, e, rs, ps, h) z ys m =
    ap (λ (us : List Lexed). template_at end (repeat p t) us) (ap (λ (us : List Lexed). us ++ z ∷ ys) e ∙ append_assoc a b (z ∷ ys)) ∙ stops_rounds end p t r k b x z ys m ps (stops_read end t r.1 b x k h z ys m) fs a rs
stops_read end (skip p) r front x k h z ys m = absurd h
stops_read end (stop p kind) r front x k h z ys m =
    let pass : passes p z.token ≡ true = m p ∙ h.1 in
    let here : unless_at p kind (z ∷ ys) ≡ Err (fault_at kind z.line) = rw pass refl in
    ap (λ (us : List Lexed). unless_at p kind (us ++ z ∷ ys)) h.0 ∙ here ∙ ap (λ (c : TextKind). Err (fault_at c z.line)) (sym h.2)
