-- Steps of reading that found no fault or one, and how many tokens a template takes.
use Rattle.std.proofs.Common.{◌≡◌, ◌⊎◌, inl, inr, ℕ, zero, suc, ◌≤◌, ◌<◌, true, false, cond, List, [], ◌∷◌, length, Result, Ok, Err, refl, sym, ap, ◌∙◌, arith}
use Rattle.std.proofs.lemmas.List.{length-append}
use Rattle.cg_out.specs.Words.{◌>>=◌}
use Rattle.can_model.specs.Refusal.{Refusal}
use Rattle.dbc_reader.specs.Token.{Lexed}
use Rattle.dbc_reader.specs.Template.{Test, Template, done, take, both, choose, repeat, skip, stop, Kept, passes}
use Rattle.dbc_reader.specs.Reading.{next_passes, rounds_at, repeat_at}
use Rattle.dbc_reader.specs.Statements.{EndsRun, Passes, Rounds, Fits}

-- a step that found no fault
pub bind_ok : {A B : Type 0} (r : Result A Refusal) (f : A → Result B Refusal) (y : B) → (r >>= f) ≡ Ok y → (x : A) × (r ≡ Ok x) × (f x ≡ Ok y)
bind_ok (Ok x) f y e = (x, refl, e)
bind_ok (Err d) f y e = absurd cc

abbrev ok : {A : Type 0} → A → Result A Refusal
ok x = Ok x

pub ok_is : {A : Type 0} (x y : A) → ok x ≡ ok y → x ≡ y
ok_is x y e = cc

pub err_is : {A : Type 0} (d s : Refusal) → ◌≡◌ {A = Result A Refusal} (Err d) (Err s) → d ≡ s
err_is d s e = cc

pub never_both : {A : Type 0} (r : Result A Refusal) (x : A) (s : Refusal) → r ≡ Ok x → r ≡ Err s → ⊥
never_both r x s e f = let h = sym e ∙ f in cc

-- a fault that a step keeps is its own
pub bind_err : {A B : Type 0} (r : Result A Refusal) (f : A → B) (s : Refusal) → (r >>= λ x. Ok (f x)) ≡ Err s → r ≡ Err s
bind_err (Ok x) f s e = absurd cc
bind_err (Err d) f s e = ap (λ (z : Refusal). Err z) (err_is d s e)

pub ended_next : (p : Test) (ts : List Lexed) → EndsRun p ts → next_passes p ts ≡ false
ended_next p [] h = refl
ended_next p (x ∷ xs) h = h

pub passed_next : (p : Test) (ts : List Lexed) → Passes p ts → next_passes p ts ≡ true
passed_next p [] h = absurd h
passed_next p (x ∷ xs) h = h

-- ---- how many tokens a template takes

-- each spelling has at least one token
abbrev pub Eats : Template → Type 0
Eats (take w) = Unit {0}
Eats (both t u) = Eats t ⊎ Eats u
Eats (choose p t u) = Eats t × Eats u
Eats t = ⊥

-- what is repeated takes at least one token, and so does what is chosen by its first token
abbrev pub IsRegular : Template → Type 0
IsRegular (both t u) = IsRegular t × IsRegular u
IsRegular (choose p t u) = Eats t × IsRegular t × IsRegular u
IsRegular (repeat p t) = Eats t × IsRegular t
IsRegular t = Unit {0}

rounds_shorter : {A : Type 0} (fit : A → List Lexed → List Lexed → Type 0) (p : Test) → ((f : A) (ts rest : List Lexed) → fit f ts rest → length rest ≤ length ts) → (fs : List A) (ts rest : List Lexed) → Rounds fit p fs ts rest → length rest ≤ length ts
rounds_shorter fit p h [] ts rest r = let e = ap length r in omega arith
rounds_shorter fit p h (f ∷ fs) ts rest r = let a = h f ts r.1.0 r.1.1 in let b = rounds_shorter fit p h fs r.1.0 rest r.1.2 in omega arith

pub fits_shorter : (t : Template) (f : Kept t) (ts rest : List Lexed) → Fits t f ts rest → length rest ≤ length ts
fits_shorter done f ts rest h = let e = ap length h in omega arith
fits_shorter (take w) f ts rest h = let e = ap length h.1 in omega arith
fits_shorter (both t u) f ts rest h = let a = fits_shorter t f.0 ts h.0 h.1 in let b = fits_shorter u f.1 h.0 rest h.2 in omega arith
fits_shorter (choose p t u) (inl f) ts rest h = fits_shorter t f ts rest h.1
fits_shorter (choose p t u) (inr f) ts rest h = fits_shorter u f ts rest h.1
fits_shorter (repeat p t) fs ts rest h = rounds_shorter (Fits t) p (λ f us vs k. fits_shorter t f us vs k) fs ts rest h.0
fits_shorter (skip p) f ts rest h = let e = ap length h.1 in omega (arith, length-append h.0 rest)
fits_shorter (stop p kind) f ts rest h = let e = ap length h.1 in omega arith

pub fits_eats : (t : Template) → Eats t → (f : Kept t) (ts rest : List Lexed) → Fits t f ts rest → length rest < length ts
fits_eats done l f ts rest h = absurd l
fits_eats (take w) l f ts rest h = let e = ap length h.1 in omega arith
fits_eats (both t u) (inl l) f ts rest h = let a = fits_eats t l f.0 ts h.0 h.1 in let b = fits_shorter u f.1 h.0 rest h.2 in omega arith
fits_eats (both t u) (inr l) f ts rest h = let a = fits_shorter t f.0 ts h.0 h.1 in let b = fits_eats u l f.1 h.0 rest h.2 in omega arith
fits_eats (choose p t u) l (inl f) ts rest h = fits_eats t l.0 f ts rest h.1
fits_eats (choose p t u) l (inr f) ts rest h = fits_eats u l.1 f ts rest h.1
fits_eats (repeat p t) l f ts rest h = absurd l
fits_eats (skip p) l f ts rest h = absurd l
fits_eats (stop p kind) l f ts rest h = absurd l

-- ---- rounds: with these, nothing above speaks of a number of rounds

module _ {A : Type 0} (read : List Lexed → Result (A × List Lexed) Refusal) (p : Test) where
  -- a round takes at least one token
  abbrev pub Shortens : Type 0
  Shortens = (ts : List Lexed) (y : A × List Lexed) → read ts ≡ Ok y → length y.1 < length ts

  -- a round and those behind it
  abbrev pub and_rounds : A → Result (List A × List Lexed) Refusal → Result (List A × List Lexed) Refusal
  and_rounds f r = r >>= λ q. Ok (f ∷ q.0, q.1)

  same_rounds : Shortens → (n m : ℕ) (ts : List Lexed) → length ts ≤ n → length ts ≤ m → rounds_at read p n ts ≡ rounds_at read p m ts
  unfolding rounds_at
  same_rounds s n m [] h k = refl
  same_rounds s zero m (x ∷ xs) h k = absurd (omega arith)
  same_rounds s (suc n) zero (x ∷ xs) h k = absurd (omega arith)
  same_rounds s (suc n) (suc m) (x ∷ xs) h k =
      elim (read (x ∷ xs)) as (λ r. read (x ∷ xs) ≡ r → cond (passes p x.token) (r >>= λ z. and_rounds z.0 (rounds_at read p n z.1)) (Ok ([], x ∷ xs)) ≡ cond (passes p x.token) (r >>= λ z. and_rounds z.0 (rounds_at read p m z.1)) (Ok ([], x ∷ xs))) [
        | Ok y ↦ λ e. let le = s (x ∷ xs) y e in ap (λ (r : Result (List A × List Lexed) Refusal). cond (passes p x.token) (and_rounds y.0 r) (Ok ([], x ∷ xs))) (same_rounds s n m y.1 (omega arith) (omega arith))
        | Err d ↦ λ e. refl
      ] refl

  pub repeat-step : Shortens → (ts : List Lexed) (y : A × List Lexed) → Passes p ts → read ts ≡ Ok y → repeat_at read p ts ≡ and_rounds y.0 (repeat_at read p y.1)
  unfolding rounds_at
  repeat-step s [] y h e = absurd h
  repeat-step s (x ∷ xs) y h e = let le = s (x ∷ xs) y e in rw (h, e) (ap (and_rounds y.0) (same_rounds s (length xs) (length y.1) y.1 (omega arith) (omega arith)))

  pub repeat-stop : (ts : List Lexed) (d : Refusal) → Passes p ts → read ts ≡ Err d → repeat_at read p ts ≡ Err d
  unfolding rounds_at
  repeat-stop [] d h e = absurd h
  repeat-stop (x ∷ xs) d h e = rw (h, e) refl

  pub repeat-end : (ts : List Lexed) → EndsRun p ts → repeat_at read p ts ≡ Ok ([], ts)
  unfolding rounds_at
  repeat-end [] h = refl
  repeat-end (x ∷ xs) h = rw h refl
