-- The signals of all messages, message by message.
use Rattle.std.proofs.Common.{◌≡◌, ℕ, zero, suc, ◌+◌, ◌-◌, ◌<◌, ◌≤◌, List, [], ◌∷◌, ◌++◌, length, drop, Some, refl, sym, ap, ◌∙◌, arith, add-one, drop-cons}
use Rattle.std.specs.Prelude.{slice_get}
use Rattle.std.specs.List.{flat_map}
use Rattle.std.proofs.lemmas.Option.{slice_get_within, get_or_from_slice_get}
use Rattle.can_model.specs.declared.database.Message.{Message}
use Rattle.can_model.specs.declared.database.Signal.{Signal}

slice_get-front : {A : Type 0} (xs ys : List A) (k : ℕ) → k < length xs → slice_get (xs ++ ys) k ≡ slice_get xs k
slice_get-front [] ys k lt = absurd (omega arith)
slice_get-front (x ∷ xs) ys zero lt = refl
slice_get-front (x ∷ xs) ys (suc k) lt = slice_get-front xs ys k (omega arith)

slice_get-rest : {A : Type 0} (xs ys : List A) (k : ℕ) → length xs ≤ k → slice_get (xs ++ ys) k ≡ slice_get ys (k - length xs)
slice_get-rest [] ys k le = ap (slice_get ys) (omega arith)
slice_get-rest (x ∷ xs) ys zero le = absurd (omega arith)
slice_get-rest (x ∷ xs) ys (suc k) le = slice_get-rest xs ys k (omega arith) ∙ ap (slice_get ys) (omega arith)

abbrev pub signals_from : ℕ → List Message → List Signal
signals_from i ms = flat_map (λ m. m.signals) (drop i ms)

message_first : (ms : List Message) (i : ℕ) (m : Message) → slice_get ms i ≡ Some m → signals_from i ms ≡ m.signals ++ signals_from (i + 1) ms
message_first ms i m at =
    let lt : i < length ms = slice_get_within ms i m at in
    ap (flat_map (λ (m : Message). m.signals)) (drop-cons ms i m lt)
    ∙ ap (λ (x : Message). x.signals ++ flat_map (λ (m : Message). m.signals) (drop (suc i) ms)) (get_or_from_slice_get ms i m m at)
    ∙ ap (λ n. m.signals ++ signals_from n ms) (sym (add-one i))

-- the signal is of this message
pub of_message : (ms : List Message) (i left : ℕ) (m : Message) → slice_get ms i ≡ Some m → left < length m.signals → slice_get (signals_from i ms) left ≡ slice_get m.signals left
of_message ms i left m at lt = ap (λ l. slice_get l left) (message_first ms i m at) ∙ slice_get-front m.signals (signals_from (i + 1) ms) left lt

-- or of a later one
pub of_later : (ms : List Message) (i left : ℕ) (m : Message) → slice_get ms i ≡ Some m → length m.signals ≤ left → slice_get (signals_from i ms) left ≡ slice_get (signals_from (i + 1) ms) (left - length m.signals)
of_later ms i left m at le = ap (λ l. slice_get l left) (message_first ms i m at) ∙ slice_get-rest m.signals (signals_from (i + 1) ms) left le
