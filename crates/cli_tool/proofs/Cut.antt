-- One byte more than a text may have tells as much as all bytes.
use Rattle.std.proofs.Common.{◌≡◌, inl, inr, ℕ, ◌+◌, Bool, true, false, ◌&&◌, List, [], ◌∷◌, length, take, refl, ap, subst, ◌∙◌, arith, length-take}
use Rattle.std.proofs.lemmas.Bool.{cases_lt}
use Rattle.std.proofs.lemmas.List.{take_all}
use Rattle.std.specs.Prelude.{nat_le, MatchBool}
use Rattle.cg_out.specs.Outside.{FilesSeen}
use Rattle.cli_tool.specs.Task.{Input, Answer, Task, refused, are_within, Gives}
use Rattle.cli_tool.specs.Report.{too_large_report}
use Rattle.cli_tool.specs.Reading.{OfTexts, HasTexts, AreRead}
use Rattle.cli_tool.proofs.Texts.{Both, OfText-weaker, both_of_text}
use Rattle.std.proofs.lemmas.Bool.Decides.{nat_tests}

-- these are the first bytes of the whole texts, one more than they may have
abbrev pub AreCut : List Input → List (List ℕ) → List (List ℕ) → Type 0
AreCut [] [] [] = Unit {0}
AreCut (i ∷ is) (text ∷ texts) (whole ∷ wholes) = (text ≡ take (i.limit + 1) whole) × AreCut is texts wholes
AreCut is texts wholes = ⊥

-- what holds of all texts of which these may be the first bytes, is so of those in the files
pub of_read : (files : FilesSeen) (is : List Input) (texts : List (List ℕ)) → AreRead files is texts → (P : List (List ℕ) → Type 0) → ((wholes : List (List ℕ)) → AreCut is texts wholes → P wholes) → OfTexts files is P
of_read files [] [] r P f = f [] tt
of_read files [] (text ∷ texts) r P f = absurd r
of_read files (i ∷ is) [] r P f = absurd r
of_read files (i ∷ is) (text ∷ texts) r P f =
    OfText-weaker files i.file (λ bytes. text ≡ take (i.limit + 1) bytes) (λ bytes. OfTexts files is (λ ws. P (bytes ∷ ws)))
    (λ bytes e. of_read files is texts r.1 (λ ws. P (bytes ∷ ws)) (λ ws c. f (bytes ∷ ws) (e, c))) r.0.text_is

within-cut : (limit : ℕ) (text : List ℕ) → nat_le (length (take (limit + 1) text)) limit ≡ nat_le (length text) limit
within-cut limit text =
    elim (cases_lt limit (length text)) [
      | inl lt ↦ grind (arith, nat_tests, length-take (limit + 1) text)
      | inr le ↦ ap (λ (t : List ℕ). nat_le (length t) limit) (take_all (limit + 1) text (omega arith))
    ]

are_within-cut : (is : List Input) (texts wholes : List (List ℕ)) → AreCut is texts wholes → are_within is texts ≡ are_within is wholes
are_within-cut [] [] [] c = refl
are_within-cut (i ∷ is) (text ∷ texts) (whole ∷ wholes) c =
    (λ k. nat_le (length (c.0 k)) i.limit && are_within is texts)
    ∙ ap (λ (b : Bool). b && are_within is texts) (within-cut i.limit whole)
    ∙ ap (λ (b : Bool). nat_le (length whole) i.limit && b) (are_within-cut is texts wholes c.1)
are_within-cut [] (text ∷ texts) wholes c = absurd c
are_within-cut [] [] (whole ∷ wholes) c = absurd c
are_within-cut (i ∷ is) [] wholes c = absurd c
are_within-cut (i ∷ is) (text ∷ texts) [] c = absurd c

and_true : (a b : Bool) → (a && b) ≡ true → (a ≡ true) × (b ≡ true)
and_true true b e = (refl, e)
and_true false b e = absurd cc

all_of_short : (limit : ℕ) (text : List ℕ) → nat_le (length text) limit ≡ true → take (limit + 1) text ≡ text
all_of_short limit text e = take_all (limit + 1) text (grind (arith, nat_tests))

-- texts that are no longer than they may be are the whole texts
pub whole-cut : (is : List Input) (texts wholes : List (List ℕ)) → AreCut is texts wholes → are_within is wholes ≡ true → texts ≡ wholes
whole-cut [] [] [] c w = refl
whole-cut (i ∷ is) (text ∷ texts) (whole ∷ wholes) c w =
    let both = and_true (nat_le (length whole) i.limit) (are_within is wholes) w in
    let first : text ≡ whole = c.0 ∙ all_of_short i.limit whole both.0 in
    let others : texts ≡ wholes = whole-cut is texts wholes c.1 both.1 in
    λ k. first k ∷ others k
whole-cut [] (text ∷ texts) wholes c w = absurd c
whole-cut [] [] (whole ∷ wholes) c w = absurd c
whole-cut (i ∷ is) [] wholes c w = absurd c
whole-cut (i ∷ is) (text ∷ texts) [] c w = absurd c

pub answer-cut : (task : Task) (texts wholes : List (List ℕ)) (answer : Answer) → AreCut task.inputs texts wholes → Gives task texts answer → Gives task wholes answer
answer-cut task texts wholes answer c g =
    let same = are_within-cut task.inputs texts wholes c in
    by_size (are_within task.inputs wholes) refl (subst (λ (b : Bool). MatchBool b (task.gives texts answer) (answer ≡ refused too_large_report)) same g) where
      by_size : (b : Bool) → are_within task.inputs wholes ≡ b → MatchBool b (task.gives texts answer) (answer ≡ refused too_large_report) → MatchBool b (task.gives wholes answer) (answer ≡ refused too_large_report)
      by_size true w h = subst (λ (ts : List (List ℕ)). task.gives ts answer) (whole-cut task.inputs texts wholes c w) h
      by_size false w h = h

-- ---- what is said of texts in two ways

pub both_of_texts : (files : FilesSeen) (is : List Input) (P Q : List (List ℕ) → Type 0) → HasTexts files is P → OfTexts files is Q → Both P Q
both_of_texts files [] P Q t h = ([], t, h)
both_of_texts files (i ∷ is) P Q t h =
    let first : Both (λ x. HasTexts files is (λ xs. P (x ∷ xs))) (λ x. OfTexts files is (λ xs. Q (x ∷ xs))) = both_of_text files i.file _ _ t h in
    let others : Both (λ xs. P (first.0 ∷ xs)) (λ xs. Q (first.0 ∷ xs)) = both_of_texts files is (λ xs. P (first.0 ∷ xs)) (λ xs. Q (first.0 ∷ xs)) first.1 first.2 in
    (first.0 ∷ others.0, others.1, others.2)
