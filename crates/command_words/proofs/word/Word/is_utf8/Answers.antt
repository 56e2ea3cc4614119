-- The test and the conversion decide the same.
use Rattle.std.proofs.Common.{◌≡◌, ℕ, Bool, true, false, List, IsUtf8, Result, Ok, Err, is_ok, refl, ap, ◌∙◌}
use Rattle.std.specs.Prelude.{MatchResult}
use Rattle.std.specs.Str.{is_utf8}
use Rattle.std.proofs.lemmas.Str.{IsUtf8-from_is_utf8, is_utf8-from_IsUtf8}
use Rattle.command_words.proofs.word.Word.is_utf8.Goals as goal

by_test : {A E : Type 0} (bytes : List ℕ) (given : Result A E) (P : A → Type 0) (Q : E → Type 0) (b : Bool) → is_utf8 bytes ≡ b → MatchResult given (λ x. P x × IsUtf8 bytes) (λ e. (IsUtf8 bytes → ⊥) × Q e) → is_ok given ≡ b
by_test bytes (Ok x) P Q true e h = cc
by_test bytes (Ok x) P Q false e h = let test = is_utf8-from_IsUtf8 bytes h.1 in cc
by_test bytes (Err x) P Q true e h = absurd (h.0 (IsUtf8-from_is_utf8 bytes e))
by_test bytes (Err x) P Q false e h = cc

pub returns : goal.returns
returns c =
    c.is_ok.ensures.value ∙ by_test c.bytes.result.now c.from_utf8.result _ _ (is_utf8 c.bytes.result.now) refl c.from_utf8.ensures.cases ∙ ap is_utf8 c.bytes.ensures
