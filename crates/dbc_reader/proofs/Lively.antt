-- What stands before a fault can be brought to an end, and reading finds the same whatever stands behind it.
use Rattle.std.proofs.Common.{◌≡◌, ◌⊎◌, inl, inr, ℕ, false, ◌<◌, List, [], ◌∷◌, ◌++◌, length, Ok, refl, sym, ap, subst, ◌∙◌, append_assoc, eq-eqb, arith}
use Rattle.limit_fraction.specs.Decimal.{zero_decimal}
use Rattle.limit_fraction.specs.Reading.{decimal_of}
use Rattle.std.specs.declared.option.Option.TheVariants.{Some}
use Rattle.dbc_reader.specs.Token.{Word, Number, String, Mark, Lexed}
use Rattle.dbc_reader.specs.Template.{Want, first_word, first_mark, word, string, mark, sign, whole_number, decimal, Test, Template, done, take, both, choose, repeat, skip, stop, Given, Kept, value_or_fault, given, passes}
use Rattle.dbc_reader.specs.Statements.{EndsRun, Passes, Rounds, Fits}
use Rattle.dbc_reader.proofs.WholeNumbers.{whole_in-zero}
use Rattle.dbc_reader.proofs.Steps.{Eats, IsRegular, fits_eats}

-- ---- what may stand behind tokens that were read: the end, or a token that each test takes as the one that stood there

-- the first tokens, of which there are some, pass the same tests
abbrev pub Beside : List Lexed → List Lexed → Type 0
Beside rest [] = ⊥
Beside [] (z ∷ zs) = ⊥
Beside (y ∷ ys) (z ∷ zs) = (p : Test) → passes p z.token ≡ passes p y.token

pub ends_beside : (p : Test) (rest us : List Lexed) → Beside rest us → EndsRun p rest → EndsRun p us
ends_beside p rest [] m h = absurd m
ends_beside p [] (z ∷ zs) m h = absurd m
ends_beside p (y ∷ ys) (z ∷ zs) m h = m p ∙ h

pub passes_beside : (p : Test) (rest us : List Lexed) → Beside rest us → Passes p rest → Passes p us
passes_beside p rest [] m h = absurd m
passes_beside p [] (z ∷ zs) m h = absurd m
passes_beside p (y ∷ ys) (z ∷ zs) m h = m p ∙ h

pub beside_front : (front rest us : List Lexed) → Beside rest us → Beside (front ++ rest) (front ++ us)
beside_front [] rest us m = m
beside_front (x ∷ front) rest us m = λ p. refl

-- each test at which the template may end fails on what follows
abbrev pub Closes : Template → List Lexed → Type 0
Closes (both t u) v = Closes t v × Closes u v
Closes (choose p t u) v = EndsRun p v × Closes t v × Closes u v
Closes (repeat p t) v = EndsRun p v × Closes t v
Closes (skip p) v = EndsRun p v
Closes (stop p kind) v = EndsRun p v
Closes t v = Unit {0}

-- what may follow in place of the rest
abbrev pub MayFollow : Template → List Lexed → List Lexed → Type 0
MayFollow t rest us = Beside rest us ⊎ Closes t us

ends_front : (p : Test) (front rest us : List Lexed) → (EndsRun p rest → EndsRun p us) → EndsRun p (front ++ rest) → EndsRun p (front ++ us)
ends_front p [] rest us f h = f h
ends_front p (x ∷ front) rest us f h = h

-- a first token that passes stands in the front, of which there is some
pub passes_front : (p : Test) (front rest us : List Lexed) → length rest < length (front ++ rest) → Passes p (front ++ rest) → Passes p (front ++ us)
passes_front p [] rest us lt h = absurd (omega arith)
passes_front p (x ∷ front) rest us lt h = h

-- what follows a part of the front
follow_front : (t : Template) (b rest us : List Lexed) → MayFollow t rest us → MayFollow t (b ++ rest) (b ++ us)
follow_front t [] rest us m = m
follow_front t (y ∷ b) rest us m = inl (λ p. refl)

-- the front that a spelling takes; behind it something else may stand
abbrev pub Local : (t : Template) → Kept t → List Lexed → List Lexed → Type 0
Local t f ts rest = (front : List Lexed) × (ts ≡ front ++ rest) × ((us : List Lexed) → MayFollow t rest us → Fits t f (front ++ us) us)

first_follows : (t u : Template) (rest us : List Lexed) → MayFollow (both t u) rest us → MayFollow t rest us
first_follows t u rest us (inl b) = inl b
first_follows t u rest us (inr c) = inr c.0

second_follows : (t u : Template) (rest us : List Lexed) → MayFollow (both t u) rest us → MayFollow u rest us
second_follows t u rest us (inl b) = inl b
second_follows t u rest us (inr c) = inr c.1

both_local : (t u : Template) (f : Kept t) (g : Kept u) (ts mid rest : List Lexed) → Local t f ts mid → Local u g mid rest → Local (both t u) (f, g) ts rest
both_local t u f g ts mid rest j k = (
  j.0 ++ k.0,
  j.1 ∙ ap (λ (ys : List Lexed). j.0 ++ ys) k.1 ∙ sym (append_assoc j.0 k.0 rest),
  λ us m. (k.0 ++ us, subst (λ (ys : List Lexed). Fits t f ys (k.0 ++ us)) (sym (append_assoc j.0 k.0 us)) (j.2 (k.0 ++ us) (subst (λ (ys : List Lexed). MayFollow t ys (k.0 ++ us)) (sym k.1) (follow_front t k.0 rest us (first_follows t u rest us m)))), k.2 us (second_follows t u rest us m)),
)

-- the same of rounds
abbrev pub RoundsLocal : (p : Test) (t : Template) → List (Kept t) → List Lexed → List Lexed → Type 0
RoundsLocal p t fs ts rest = (front : List Lexed) × (ts ≡ front ++ rest) × ((us : List Lexed) → MayFollow t rest us → Rounds (Fits t) p fs (front ++ us) us)

rounds_more : (p : Test) (t : Template) → Eats t → (f : Kept t) (fs : List (Kept t)) (ts mid rest : List Lexed) → Passes p ts → Fits t f ts mid → Local t f ts mid → RoundsLocal p t fs mid rest → RoundsLocal p t (f ∷ fs) ts rest
rounds_more p t l f fs ts mid rest d h j k = (
  j.0 ++ k.0,
  j.1 ∙ ap (λ (ys : List Lexed). j.0 ++ ys) k.1 ∙ sym (append_assoc j.0 k.0 rest),
  λ us m. (
    subst (λ (ys : List Lexed). Passes p ys) (sym (append_assoc j.0 k.0 us)) (passes_front p j.0 mid (k.0 ++ us) (subst (λ (ys : List Lexed). length mid < length ys) j.1 (fits_eats t l f ts mid h)) (subst (λ (ys : List Lexed). Passes p ys) j.1 d)),
    (k.0 ++ us, subst (λ (ys : List Lexed). Fits t f ys (k.0 ++ us)) (sym (append_assoc j.0 k.0 us)) (j.2 (k.0 ++ us) (subst (λ (ys : List Lexed). MayFollow t ys (k.0 ++ us)) (sym k.1) (follow_front t k.0 rest us m))), k.2 us m),
  ),
)

pub rounds_local : (p : Test) (t : Template) → Eats t → ((f : Kept t) (ts rest : List Lexed) → Fits t f ts rest → Local t f ts rest) → (fs : List (Kept t)) (ts rest : List Lexed) → Rounds (Fits t) p fs ts rest → RoundsLocal p t fs ts rest
rounds_local p t l ih [] ts rest h = ([], h, λ us m. refl)
rounds_local p t l ih (f ∷ fs) ts rest h = rounds_more p t l f fs ts h.1.0 rest h.0 h.1.1 (ih f ts h.1.0 h.1.1) (rounds_local p t l ih fs h.1.0 rest h.1.2)

-- a test that fails on the rest fails on what may follow in its place
ends_follow : (p : Test) (C : List Lexed → Type 0) (rest us : List Lexed) → (C us → EndsRun p us) → Beside rest us ⊎ C us → EndsRun p rest → EndsRun p us
ends_follow p C rest us c (inl b) h = ends_beside p rest us b h
ends_follow p C rest us c (inr k) h = c k

pub fits_local : (t : Template) → IsRegular t → (f : Kept t) (ts rest : List Lexed) → Fits t f ts rest → Local t f ts rest
fits_local done l f ts rest h = ([], h, λ us m. refl)
fits_local (take w) l f ts rest h = (h.0 ∷ [], h.1, λ us m. (h.0, refl, h.2))
fits_local (both t u) l f ts rest h = both_local t u f.0 f.1 ts h.0 rest (fits_local t l.0 f.0 ts h.0 h.1) (fits_local u l.1 f.1 h.0 rest h.2)
fits_local (choose p t u) l (inl f) ts rest h =
    let k = fits_local t l.1 f ts rest h.1 in (
      k.0,
      k.1,
      λ us m. (
        passes_front p k.0 rest us (subst (λ (ys : List Lexed). length rest < length ys) k.1 (fits_eats t l.0 f ts rest h.1)) (subst (λ (ys : List Lexed). Passes p ys) k.1 h.0),
        k.2 us (elim m [ inl b ↦ inl b | inr c ↦ inr c.1 ]),
      ),
    )
fits_local (choose p t u) l (inr f) ts rest h =
    let k = fits_local u l.2 f ts rest h.1 in (
      k.0,
      k.1,
      λ us m. (
        ends_front p k.0 rest us (ends_follow p (λ vs. Closes (choose p t u) vs) rest us (λ c. c.0) m) (subst (λ (ys : List Lexed). EndsRun p ys) k.1 h.0),
        k.2 us (elim m [ inl b ↦ inl b | inr c ↦ inr c.2 ]),
      ),
    )
fits_local (repeat p t) l fs ts rest h =
    let k = rounds_local p t l.0 (λ f us vs g. fits_local t l.1 f us vs g) fs ts rest h.0 in
    (k.0, k.1, λ us m. (k.2 us (elim m [ inl b ↦ inl b | inr c ↦ inr c.1 ]), ends_follow p (λ vs. Closes (repeat p t) vs) rest us (λ c. c.0) m h.1))
fits_local (skip p) l f ts rest h = (h.0, h.1, λ us m. (h.0, refl, h.2, ends_follow p (λ vs. Closes (skip p) vs) rest us (λ c. c) m h.3))
fits_local (stop p kind) l f ts rest h = ([], h.1, λ us m. (ends_follow p (λ vs. Closes (stop p kind) vs) rest us (λ c. c) m (subst (λ (ys : List Lexed). EndsRun p ys) h.1 h.0), refl))

-- ---- a spelling of each template

-- a number, on a line
abbrev pub numbered : List ℕ → ℕ → Lexed
numbered digits line = record { token = Number digits; line = line }

-- `0`
abbrev pub zero_token : Lexed
zero_token = numbered (48 ∷ []) 0

-- `M`, a word
abbrev sample_word : Lexed
sample_word = record { token = Word (77 ∷ []); line = 0 }

-- a token that is wanted
abbrev pub sample : Want → Lexed
sample first_word = sample_word
sample (first_mark b) = record { token = Mark b; line = 0 }
sample word = sample_word
sample string = record { token = String []; line = 0 }
sample (mark b) = record { token = Mark b; line = 0 }
sample sign = record { token = Mark 43; line = 0 }
sample (whole_number limit) = zero_token
sample decimal = zero_token

decimal_sample : decimal_of (48 ∷ []) ≡ Some zero_decimal
unfolding decimal_of
decimal_sample = refl

pub whole_given : (limit : ℕ) → given (whole_number limit) zero_token ≡ Ok 0
whole_given limit = ap value_or_fault (whole_in-zero limit)

pub decimal_given : given decimal zero_token ≡ Ok zero_decimal
decimal_given = ap value_or_fault decimal_sample

-- and what it gives
pub sample_given : (w : Want) → (f : Given w) × (given w (sample w) ≡ Ok f)
sample_given first_word = (0, refl)
sample_given (first_mark b) = (0, rw (eq-eqb b b refl) refl)
sample_given word = (77 ∷ [], refl)
sample_given string = ([], refl)
sample_given (mark b) = (tt, rw (eq-eqb b b refl) refl)
sample_given sign = (false, refl)
sample_given (whole_number limit) = (0, whole_given limit)
sample_given decimal = (zero_decimal, ap value_or_fault decimal_sample)

abbrev pub spelling : Template → List Lexed
spelling (take w) = sample w ∷ []
spelling (both t u) = spelling t ++ spelling u
spelling (choose p t u) = spelling u
spelling t = []

-- each template in it can be brought to its end, where these tokens follow
abbrev pub IsLive : Template → List Lexed → Type 0
IsLive (both t u) v = Closes t (spelling u ++ v) × IsLive t (spelling u ++ v) × IsLive u v
IsLive (choose p t u) v = EndsRun p (spelling u ++ v) × IsLive t v × IsLive u v
IsLive (repeat p t) v = EndsRun p v × Closes t v × IsLive t v
IsLive (skip p) v = EndsRun p v
IsLive (stop p kind) v = EndsRun p v
IsLive t v = Unit {0}

-- the tokens spell the template, where these follow
abbrev pub Accepts : Template → List Lexed → List Lexed → Type 0
Accepts t v us = (f : Kept t) × Fits t f (us ++ v) v

pub live : (t : Template) (v : List Lexed) → IsLive t v → Accepts t v (spelling t)
live done v l = (tt, refl)
live (take w) v l = let s = sample_given w in (s.0, (sample w, refl, s.1))
live (both t u) v l =
    let j = live t (spelling u ++ v) l.1 in
    let k = live u v l.2 in
    ((j.0, k.0), (spelling u ++ v, subst (λ (ys : List Lexed). Fits t j.0 ys (spelling u ++ v)) (sym (append_assoc (spelling t) (spelling u) v)) j.1, k.1))
live (choose p t u) v l = let k = live u v l.2 in (inr k.0, (l.0, k.1))
live (repeat p t) v l = ([], (refl, l.0))
live (skip p) v l = (tt, ([], refl, tt, l))
live (stop p kind) v l = (tt, (l, refl))
