-- Reading row by row is reading the template of a statement.
use Rattle.std.proofs.Common.{◌≡◌, ℕ, Bool, true, false, cond, List, [], ◌∷◌, Result, Ok, Err, refl, ◌∙◌}
use Rattle.can_model.specs.Refusal.{Refusal}
use Rattle.dbc_reader.specs.Token.{Token, Word, Lexed}
use Rattle.dbc_reader.specs.Template.{Test, Template, Kept, is_word, first_word, first_mark, given_of, passes}
use Rattle.dbc_reader.specs.Parts.{is_the}
use Rattle.dbc_reader.specs.Rows.{Row, other}
use Rattle.dbc_reader.specs.Document.{skipped, table, made}
use Rattle.dbc_reader.specs.Reading.{with_rest, one_at, template_at, seen}
use Rattle.dbc_reader.specs.Flat.{row_at}
use Rattle.dbc_reader.proofs.Exact.{left, right}
use Rattle.dbc_reader.proofs.Views.{viewed}

-- one of some words is a word
a_word : (ws : List (List ℕ)) (k : Token) → passes (Test.is_word_in ws) k ≡ true → passes is_word k ≡ true
a_word ws (Word w) e = refl
a_word ws k e = e

-- a word gives its line
word_line : (x : Lexed) (xs : List Lexed) (end : ℕ) → passes is_word x.token ≡ true → one_at end first_word (x ∷ xs) ≡ Ok (x.line, xs)
word_line x xs end h = at x.token h where
  at : (k : Token) → passes is_word k ≡ true → with_rest (given_of first_word k x.line) x.line xs ≡ Ok (x.line, xs)
  at (Word w) e = refl
  at k e = absurd cc

lone : (q : Result (ℕ × List Lexed) Refusal) → viewed (made []) (right {A = ℕ × Kept other} q) ≡ viewed skipped q
lone (Ok y) = refl
lone (Err d) = refl

behind : (line : ℕ) (q : Result (Kept other × List Lexed) Refusal) → viewed (made []) (left {B = ℕ} (viewed {B = ℕ × Kept other} (λ k. (line, k)) q)) ≡ viewed (λ k. skipped line) q
behind line (Ok y) = refl
behind line (Err d) = refl

at_end : (x : Lexed) (xs : List Lexed) (end : ℕ) → seen end (table []) (made []) (x ∷ xs) ≡ row_at [] end x xs
at_end x xs end = by_case (passes is_word x.token) refl where
  by_case : (c : Bool) → passes is_word x.token ≡ c → seen end (table []) (made []) (x ∷ xs) ≡ row_at [] end x xs
  by_case true e = rw (e, word_line x xs end e) (behind x.line (template_at end other xs))
  by_case false e = rw e (lone (one_at end (first_mark 59) (x ∷ xs)))

module _ (end : ℕ) (x : Lexed) (xs : List Lexed) where
  in_row : (r : Row) (rs : List Row) (q : Result (Kept r.template × List Lexed) Refusal) → viewed (made (r ∷ rs)) (left {B = Kept (table rs)} (viewed {B = ℕ × Kept r.template} (λ f. (x.line, f)) q)) ≡ viewed (λ y. record { line = x.line; body = y }) (viewed r.body q)
  in_row r rs (Ok y) = refl
  in_row r rs (Err d) = refl

  below : (r : Row) (rs : List Row) (q : Result (Kept (table rs) × List Lexed) Refusal) → viewed (made (r ∷ rs)) (right {A = ℕ × Kept r.template} q) ≡ viewed (made rs) q
  below r rs (Ok y) = refl
  below r rs (Err d) = refl

  reads : (r : Row) (rs : List Row) → (c : Bool) → passes (is_the r.first) x.token ≡ c → viewed (made rs) (template_at end (table rs) (x ∷ xs)) ≡ row_at rs end x xs
      → viewed (made (r ∷ rs)) (cond c (left (template_at end (Template.both (Template.take first_word) r.template) (x ∷ xs))) (right (template_at end (table rs) (x ∷ xs)))) ≡ cond c (viewed (λ y. record { line = x.line; body = y }) (seen end r.template r.body xs)) (row_at rs end x xs)
  reads r rs true e ih = rw (word_line x xs end (a_word (r.first ∷ []) x.token e)) (in_row r rs (template_at end r.template xs))
  reads r rs false e ih = below r rs (template_at end (table rs) (x ∷ xs)) ∙ ih

  pub table_read : (rs : List Row) → seen end (table rs) (made rs) (x ∷ xs) ≡ row_at rs end x xs
  table_read [] = at_end x xs end
  table_read (r ∷ rs) = reads r rs (passes (is_the r.first) x.token) refl (table_read rs)
