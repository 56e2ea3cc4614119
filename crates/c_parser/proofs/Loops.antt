-- Parts that are read one behind the other, by a loop.
use Rattle.std.proofs.Common.{◌≡◌, ℕ, zero, suc, ◌+◌, ◌<◌, ◌≤◌, ◌-◌, Bool, true, List, [], ◌∷◌, ◌++◌, length, take, drop, get_or, Result, Ok, Err, refl, sym, ap, subst, ◌∙◌, arith, add-one, append_assoc}
use Rattle.std.proofs.Math.Seq.{take-length}
use Rattle.c_text.specs.declared.token.Token.{Token}
use Rattle.c_text.specs.Refusal.{Refusal, Gives}
use Rattle.c_tree.specs.Sequence.{Reading, all_read}
use Rattle.cg_out.specs.Words.{◌>>=◌}
use Rattle.c_text.specs.declared.place.Place.{Place}
use Rattle.c_text.specs.declared.refusal.CFault.{CFault}
use Rattle.c_text.specs.declared.refusal.CFault.TheVariants.{Fault, Memory}
use Rattle.c_tree.specs.StatementCut.{StatementRead, PartRead, statement_of, each, switch_part}
use Rattle.c_tree.specs.declared.item.Field.{Field}
use Rattle.c_tree.specs.ExpressionCut.{Delimited}
use Rattle.c_tree.specs.ParameterCut.{parameter, each_parameter}
use Rattle.c_parser.specs.Label.{IsPart}
use Rattle.c_expression.specs.Front.{with_front}

-- tokens that a part before has taken are passed over
pub skip-drop : {A : Type 0} (r : Reading A) (n : ℕ) (ts : List Token) → all_read r n ts ≡ all_read r 0 (drop n ts)
skip-drop r zero ts = refl
skip-drop r (suc n) [] = refl
skip-drop r (suc n) (t ∷ ts) = skip-drop r n ts

-- one part behind those that were read
front-one : {A : Type 0} (xs : List A) (x : A) (rest : Result (List A) Refusal) → with_front (xs ++ x ∷ []) rest ≡ with_front xs (rest >>= λ ys. Ok (x ∷ ys))
front-one xs x (Ok ys) = ap Ok (append_assoc xs (x ∷ []) ys)
front-one xs x (Err e) = refl

-- the reading of the tokens as a whole list
abbrev pub first_of : {A : Type 0} → Reading A → List Token → Result (A × ℕ) Refusal → Type 0
first_of r [] got = ⊥
first_of r (t ∷ ts) got = r t ts ≡ got

pub goes_on : {A : Type 0} (r : Reading A) (xs : List A) (left : List Token) (x : A) (n : ℕ) (whole : Result (List A) Refusal)
    → first_of r left (Ok (x, n)) → with_front xs (all_read r 0 left) ≡ whole → with_front (xs ++ x ∷ []) (all_read r 0 (drop (n + 1) left)) ≡ whole
goes_on r xs [] x n whole e h = absurd e
goes_on r xs (t ∷ ts) x n whole e h =
    ap (λ k. with_front (xs ++ x ∷ []) (all_read r 0 (drop k (t ∷ ts)))) (add-one n)
    ∙ ap (λ rest. with_front (xs ++ x ∷ []) rest) (sym (skip-drop r n ts))
    ∙ front-one xs x (all_read r n ts)
    ∙ ap (λ got. with_front xs (got >>= λ y. all_read r y.1 ts >>= λ ys. Ok (y.0 ∷ ys))) (sym e)
    ∙ h

pub stops : {A : Type 0} (r : Reading A) (xs : List A) (left : List Token) (f : Refusal) (whole : Result (List A) Refusal)
    → first_of r left (Err f) → with_front xs (all_read r 0 left) ≡ whole → whole ≡ Err f
stops r xs [] f whole e h = absurd e
stops r xs (t ∷ ts) f whole e h = sym h ∙ ap (λ got. with_front xs (got >>= λ y. all_read r y.1 ts >>= λ ys. Ok (y.0 ∷ ys))) e

-- the same, as what a function returns
pub fails : {A X : Type 0} (view : X → List A) (r : Reading A) (xs : List A) (left : List Token) (first : Result (A × ℕ) Refusal) (fault : CFault) (whole : Result (List A) Refusal)
    → Gives {X = A × ℕ} (λ s. s) (Err fault) first → first_of r left first → with_front xs (all_read r 0 left) ≡ whole → Gives view (Err fault) whole
fails view r xs left first (Fault kind place) whole g f h = stops r xs left (record { kind = kind; place = place }) whole (subst (λ got. first_of r left got) g f) h
fails view r xs left first Memory whole g f h = tt

pub first_is : {A : Type 0} (r : Reading A) (left ts : List Token) (t : Token) (got : Result (A × ℕ) Refusal) → left ≡ t ∷ ts → r t ts ≡ got → first_of r left got
first_is r left ts t got e h = subst (λ us. first_of r us got) (sym e) h

-- ---- of parameters

pub next_parameter : (ps qs : List Delimited) (p : Delimited) (f : Field) (fs : List Field) (whole : Result (List Field) Refusal) → ps ≡ p ∷ qs → parameter p ≡ Ok f
    → with_front fs (each_parameter ps) ≡ whole → with_front (fs ++ f ∷ []) (each_parameter qs) ≡ whole
next_parameter ps qs p f fs whole e g h =
    front-one fs f (each_parameter qs)
    ∙ ap (λ got. with_front fs (got >>= λ x. each_parameter qs >>= λ xs. Ok (x ∷ xs))) (sym g)
    ∙ ap (λ rest. with_front fs (each_parameter rest)) (sym e)
    ∙ h

-- ---- of statements and of the parts of a switch

pub first-each : (may : Bool) (room : ℕ) (after : Place) (left : List Token) (got : StatementRead) → 0 < length left → statement_of may room left after ≡ got → first_of (each statement_of may room after) left got
first-each may room after [] got le e = absurd (omega (arith, le))
first-each may room after (t ∷ ts) got le e = e

pub first-part : (room : ℕ) (after : Place) (left ts : List Token) (t : Token) (found : StatementRead → PartRead) → left ≡ t ∷ ts → IsPart room after t ts found
    → first_of (switch_part statement_of room after) left (found (statement_of true room left after))
first-part room after left ts t found e p = subst (λ us. first_of (switch_part statement_of room after) us (found (statement_of true room us after))) (sym e) (p (statement_of true room (t ∷ ts) after))

-- a slice by its first item and the others
pub first_and_rest : {A : Type 0} (ls : List A) (x : A) → 1 ≤ length ls → x ≡ get_or ls 0 x → ls ≡ x ∷ take (length ls - 1) (drop 1 ls)
first_and_rest [] x h e = absurd (omega arith)
first_and_rest (y ∷ ys) x h e =
    let n : length (y ∷ ys) - 1 ≡ length ys = omega arith in
    let t : take (length (y ∷ ys) - 1) ys ≡ ys = rw n (take-length ys) in
    λ i. (sym e i) ∷ (sym t i)
