-- The lines of values, one by one.
use Rattle.std.proofs.Common.{◌≡◌, ℕ, List, [], ◌∷◌, ◌++◌, length, Option, Some, None, refl, sym, ◌∙◌, append-nil, arith, ℤ}
use Rattle.can_model.specs.declared.database.Signal.{Signal}
use Rattle.codec_words.specs.Given.{line_of}
use Rattle.codec_words.specs.Reports.{value_lines}

pub line-first : (s : Signal) (ss : List Signal) (o : Option ℤ) (vs : List (Option ℤ)) → value_lines (s ∷ ss) (o ∷ vs) ≡ line_of s o ++ value_lines ss vs
line-first s ss None vs = refl
line-first s ss (Some v) vs = refl

pub without_signals : (ss : List Signal) (vs : List (Option ℤ)) → length ss ≡ 0 → value_lines ss vs ≡ []
without_signals [] vs h = refl
without_signals (s ∷ ss) vs h = absurd (omega (arith, h))

pub without_values : (ss : List Signal) (vs : List (Option ℤ)) → length vs ≡ 0 → value_lines ss vs ≡ []
without_values [] vs h = refl
without_values (s ∷ ss) [] h = refl
without_values (s ∷ ss) (v ∷ vs) h = absurd (omega (arith, h))

pub all_told : (told rest whole : List ℕ) → rest ≡ [] → told ++ rest ≡ whole → told ≡ whole
all_told told rest whole e h = sym (append-nil told) ∙ (rw e at h)
