-- No message has the number of a word that spells none.
use Rattle.std.proofs.Common.{◌≡◌, List, [], ◌∷◌, Option, None, refl, ap, ◌∙◌, ℤ}
use Rattle.std.specs.List.{find}
use Rattle.can_model.specs.declared.database.Message.{Message}
use Rattle.codec_words.specs.Finding.{is_number_of}

none_here : (ms : List Message) → find (λ m. is_number_of m None) ms ≡ None
none_here [] = refl
none_here (m ∷ ms) = none_here ms

pub without_number : (ms : List Message) (o : Option ℤ) → o ≡ None → find (λ m. is_number_of m o) ms ≡ None
without_number ms o e = ap (λ o. find (λ m. is_number_of m o) ms) e ∙ none_here ms
