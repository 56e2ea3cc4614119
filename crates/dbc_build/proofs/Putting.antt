-- What one statement says, and what is so under an `Ok`.
use Rattle.std.proofs.Common.{◌≡◌, ℕ, if◌then◌else◌, List, Option, Some, None, Result, Ok, Err, OnOk, refl}
use Rattle.dbc_reader.specs.declared.statement.ChoicePair.{ChoicePair}
use Rattle.dbc_reader.specs.declared.statement.Body.TheVariants.{Choices}
use Rattle.dbc_build.specs.Facts.{choices_in}
use Rattle.dbc_build.specs.Tables.{is_signal_of}

pub choices_said : (id : Option ℕ) (name : List ℕ) (pairs : List ChoicePair) (i : ℕ) (n : List ℕ) → choices_in i n (Choices id name pairs) ≡ (if is_signal_of i n id name then Some pairs else None)
choices_said (Some id) name pairs i n = refl
choices_said None name pairs i n = refl

pub on_ok : {A E P Q : Type 0} (r : Result A E) → OnOk r P → (P → Q) → OnOk r Q
on_ok (Ok x) p f = f p
on_ok (Err e) p f = p
