-- What is seen in a part that stands first, and then in what follows it.
use Rattle.std.proofs.Common.{◌≡◌, ℕ, List, [], ◌∷◌, map, Result, Ok, Err, refl}
use Rattle.cg_out.specs.Words.{◌>>=◌}
use Rattle.can_model.specs.Refusal.{Refusal}
use Rattle.dbc_reader.specs.Token.{Lexed}
use Rattle.dbc_reader.specs.Template.{Want, Given, Test, Template, take, both, repeat, Kept}
use Rattle.dbc_reader.specs.Reading.{one_at, template_at, seen}
use Rattle.dbc_reader.proofs.Loop.{with_front}

-- what is seen in what was read
abbrev pub viewed : {A B : Type 0} → (A → B) → Result (A × List Lexed) Refusal → Result (B × List Lexed) Refusal
viewed f r = r >>= λ x. Ok (f x.0, x.1)

-- reading goes on behind what was seen
abbrev pub then_seen : {A B : Type 0} → Result (A × List Lexed) Refusal → (A → List Lexed → Result (B × List Lexed) Refusal) → Result (B × List Lexed) Refusal
then_seen r f = r >>= λ x. f x.0 x.1

module _ (A B : Type 0) (end : ℕ) (t u : Template) (view : Kept t → A) (next : A → Kept u → B) (all : Kept (both t u) → B)
    (same : (x : Kept t) (y : Kept u) → all (x, y) ≡ next (view x) y) where
  abbrev paired : Kept t → Kept u → Kept (both t u)
  paired x y = (x, y)

  second : (x : Kept t) (r : Result (Kept u × List Lexed) Refusal) → viewed all (viewed (paired x) r) ≡ viewed (next (view x)) r
  second x (Ok y) = λ i. Ok (same x y.0 i, y.1)
  second x (Err e) = refl

  first : (r : Result (Kept t × List Lexed) Refusal)
      → viewed all (then_seen r (λ x rest. viewed (paired x) (template_at end u rest))) ≡ then_seen (viewed view r) (λ a rest. seen end u (next a) rest)
  first (Ok x) = second x.0 (template_at end u x.1)
  first (Err e) = refl

  pub seen_both : (ts : List Lexed) → seen end (both t u) all ts ≡ then_seen (seen end t view ts) (λ a rest. seen end u (next a) rest)
  seen_both ts = first (template_at end t ts)

-- the same where a token stands first
module _ (B : Type 0) (end : ℕ) (w : Want) (u : Template) (all : Kept (both (take w) u) → B) where
  abbrev token_and : Given w → Kept u → Kept (both (take w) u)
  token_and x y = (x, y)

  behind_token : (x : Given w) (r : Result (Kept u × List Lexed) Refusal) → viewed all (viewed (token_and x) r) ≡ viewed (λ y. all (x, y)) r
  behind_token x (Ok y) = refl
  behind_token x (Err e) = refl

  at_token : (r : Result (Given w × List Lexed) Refusal)
      → viewed all (then_seen r (λ x rest. viewed (token_and x) (template_at end u rest))) ≡ then_seen r (λ a rest. seen end u (λ y. all (a, y)) rest)
  at_token (Ok x) = behind_token x.0 (template_at end u x.1)
  at_token (Err e) = refl

  pub seen_token : (ts : List Lexed) → seen end (both (take w) u) all ts ≡ then_seen (one_at end w ts) (λ a rest. seen end u (λ y. all (a, y)) rest)
  seen_token ts = at_token (one_at end w ts)

-- what follows is the same
pub then_same : {A B : Type 0} (r : Result (A × List Lexed) Refusal) (f g : A → List Lexed → Result (B × List Lexed) Refusal) → ((a : A) (rest : List Lexed) → f a rest ≡ g a rest) → then_seen r f ≡ then_seen r g
then_same r f g h = λ i. then_seen r (λ a rest. h a rest i)

-- one more ahead of all that are seen
module _ (S : Type 0) (end : ℕ) (p : Test) (t : Template) (view : Kept t → S) (first : S) where
  of_read : (r : Result (List (Kept t) × List Lexed) Refusal) → viewed (λ fs. first ∷ map view fs) r ≡ with_front (first ∷ []) (viewed (λ fs. map view fs) r)
  of_read (Ok x) = refl
  of_read (Err e) = refl

  pub seen_first : (ts : List Lexed) → seen end (repeat p t) (λ fs. first ∷ map view fs) ts ≡ with_front (first ∷ []) (seen end (repeat p t) (λ fs. map view fs) ts)
  seen_first ts = of_read (template_at end (repeat p t) ts)
