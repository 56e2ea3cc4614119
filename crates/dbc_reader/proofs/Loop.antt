-- Reading one statement after the other: what was read so far, joined with what reading gives behind it, is what reading gives.
use Rattle.std.proofs.Common.{◌≡◌, ℕ, true, false, ◌≤◌, ◌<◌, ◌-◌, List, [], ◌∷◌, ◌++◌, map, length, take, drop, get_or, Result, Ok, Err, refl, sym, ap, subst, ◌∙◌, append_assoc, arith}
use Rattle.std.proofs.lemmas.List.{append-nil}
use Rattle.std.proofs.Math.Seq.{take-length}
use Rattle.cg_out.specs.Words.{◌>>=◌}
use Rattle.can_model.specs.Refusal.{Refusal}
use Rattle.can_model.specs.declared.refusal.TextFault.{TextFault}
use Rattle.can_model.specs.declared.refusal.TextFault.TheVariants.{Fault, Memory}
use Rattle.dbc_reader.specs.Token.{Lexed}
use Rattle.dbc_reader.specs.Template.{Test, Template, Kept}
use Rattle.dbc_reader.specs.Reading.{next_passes, template_at, repeat_at, seen}
use Rattle.dbc_reader.specs.Statements.{EndsRun, Passes}
use Rattle.dbc_reader.proofs.Steps.{bind_ok, bind_err, ok_is, Shortens, and_rounds, IsRegular, fits_eats, repeat-step, repeat-stop, repeat-end}
use Rattle.dbc_reader.proofs.Exact.{template_fits}

-- what reading gives, behind what was read before
abbrev pub with_front : {S : Type 0} → List S → Result (List S × List Lexed) Refusal → Result (List S × List Lexed) Refusal
with_front front read = read >>= λ ss. Ok (front ++ ss.0, ss.1)

-- the fault is what reading gives, unless memory ran out
abbrev pub Fails : {A : Type 0} → TextFault → Result A Refusal → Type 0
Fails (Fault kind line) read = read ≡ Err (record { kind = kind; line = line })
Fails Memory read = Unit {0}

-- a slice by its first item and the others
pub first_and_rest : {A : Type 0} (ls : List A) (x : A) → 1 ≤ length ls → x ≡ get_or ls 0 x → ls ≡ x ∷ take (length ls - 1) (drop 1 ls)
first_and_rest [] x h e = absurd (omega arith)
first_and_rest (y ∷ ys) x h e =
    let n : length (y ∷ ys) - 1 ≡ length ys = omega arith in
    let t : take (length (y ∷ ys) - 1) ys ≡ ys = rw n (take-length ys) in
    λ i. (sym e i) ∷ (sym t i)

-- what a loop's test says of the tokens
pub next_true : (p : Test) (ts : List Lexed) → next_passes p ts ≡ true → Passes p ts
next_true p [] h = absurd cc
next_true p (x ∷ xs) h = h

pub next_false : (p : Test) (ts : List Lexed) → next_passes p ts ≡ false → EndsRun p ts
next_false p [] h = tt
next_false p (x ∷ xs) h = h

module _ (end : ℕ) (p : Test) (t : Template) (S : Type 0) (view : Kept t → S) (r : IsRegular (Template.repeat p t)) where
  -- all rounds, seen one by one
  abbrev pub all_seen : List Lexed → Result (List S × List Lexed) Refusal
  all_seen ts = seen end (Template.repeat p t) (λ fs. map view fs) ts

  short : Shortens (template_at end t) p
  short us z k = fits_eats t r.0 z.0 us z.1 (template_fits end t r.1 us z k)

  pub seen_shorter : (ts : List Lexed) (y : S × List Lexed) → seen end t view ts ≡ Ok y → length y.1 < length ts
  seen_shorter ts y e =
      let a = bind_ok (template_at end t ts) (λ x. Ok (view x.0, x.1)) y e in
      let q = ok_is (view a.0.0, a.0.1) y a.2 in
      subst (λ (z : S × List Lexed). length z.1 < length ts) q (short ts a.0 a.1)

  step_of : (f : Kept t) (front : List S) (q : Result (List (Kept t) × List Lexed) Refusal) → with_front front (and_rounds (template_at end t) p f q >>= λ x. Ok (map view x.0, x.1)) ≡ with_front (front ++ view f ∷ []) (q >>= λ x. Ok (map view x.0, x.1))
  step_of f front (Ok y) = λ i. Ok (sym (append_assoc front (view f ∷ []) (map view y.0)) i, y.1)
  step_of f front (Err d) = refl

  pub goes_on : (front : List S) (ts : List Lexed) (y : S × List Lexed) (total : Result (List S × List Lexed) Refusal) → Passes p ts → seen end t view ts ≡ Ok y → with_front front (all_seen ts) ≡ total → with_front (front ++ y.0 ∷ []) (all_seen y.1) ≡ total
  goes_on front ts y total d e h =
      let a = bind_ok (template_at end t ts) (λ x. Ok (view x.0, x.1)) y e in
      let q = ok_is (view a.0.0, a.0.1) y a.2 in
      let s = repeat-step (template_at end t) p short ts a.0 d a.1 in
      let g : with_front (front ++ view a.0.0 ∷ []) (all_seen a.0.1) ≡ total = sym (step_of a.0.0 front (repeat_at (template_at end t) p a.0.1)) ∙ ap (λ (z : Result (List (Kept t) × List Lexed) Refusal). with_front front (z >>= λ x. Ok (map view x.0, x.1))) (sym s) ∙ h in
      subst (λ (z : S × List Lexed). with_front (front ++ z.0 ∷ []) (all_seen z.1) ≡ total) q g

  pub ends : (e : TextFault) (front : List S) (ts : List Lexed) (total : Result (List S × List Lexed) Refusal) → Passes p ts → Fails e (seen end t view ts) → with_front front (all_seen ts) ≡ total → Fails e total
  ends Memory front ts total d f h = tt
  ends (Fault kind line) front ts total d f h =
      let a = bind_err (template_at end t ts) (λ x. (view x.0, x.1)) _ f in
      let s = repeat-stop (template_at end t) p ts _ d a in
      sym h ∙ ap (λ (z : Result (List (Kept t) × List Lexed) Refusal). with_front front (z >>= λ x. Ok (map view x.0, x.1))) s

  pub is_done : (front : List S) (ts : List Lexed) (total : Result (List S × List Lexed) Refusal) → EndsRun p ts → with_front front (all_seen ts) ≡ total → total ≡ Ok (front, ts)
  is_done front ts total d h =
      sym h ∙ ap (λ (z : Result (List (Kept t) × List Lexed) Refusal). with_front front (z >>= λ x. Ok (map view x.0, x.1))) (repeat-end (template_at end t) p ts d) ∙ (λ i. Ok (append-nil front i, ts))
