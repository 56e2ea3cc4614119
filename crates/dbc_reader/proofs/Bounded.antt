-- A number that is kept is at most the limit of its place in the template.
use Rattle.std.proofs.Common.{◌≡◌, inl, inr, ℕ, ◌≤◌, List, [], ◌∷◌, map, Result, Ok, Err, refl, sym, subst}
use Rattle.std.specs.Prelude.{IfOk}
use Rattle.std.specs.List.{AllByRecursion}
use Rattle.std.specs.Global.{Vec}
use Rattle.std.specs.declared.option.Option.{Option}
use Rattle.std.specs.declared.option.Option.TheVariants.{None, Some}
use Rattle.can_model.specs.Refusal.{Gives}
use Rattle.can_model.specs.declared.refusal.TextFault.{TextFault}
use Rattle.dbc_reader.specs.Token.{Token, Word, Number, String, Mark, Bad, Lexed}
use Rattle.dbc_reader.specs.declared.statement.Statement.{Statement}
use Rattle.dbc_reader.specs.Number.{whole_in}
use Rattle.dbc_reader.specs.Template.{Want, first_word, first_mark, word, string, mark, sign, whole_number, decimal, Test, Template, done, take, both, choose, repeat, skip, stop, Given, Kept, value_or_fault, given_of}
use Rattle.dbc_reader.specs.Rows.{message, message_body, signal, signal_body, Row, rows}
use Rattle.dbc_reader.specs.Document.{table, made, statement, statement_of}
use Rattle.dbc_reader.specs.Tokens.{tokens, end_line}
use Rattle.dbc_reader.specs.Reading.{all_of}
use Rattle.dbc_reader.specs.Statements.{Rounds, Fits, AreStatements}
use Rattle.dbc_reader.specs.Bounds.{IsBoundedBody, AreBounded}
use Rattle.dbc_reader.proofs.WholeNumbers.{whole_in-found}
use Rattle.dbc_reader.proofs.Documents.{all_sound}

abbrev IsUpTo : (w : Want) → Given w → Type 0
IsUpTo (whole_number limit) n = n ≤ limit
IsUpTo w x = Unit {0}

abbrev IsBounded : (t : Template) → Kept t → Type 0
IsBounded (take w) x = IsUpTo w x
IsBounded (both t u) x = IsBounded t x.0 × IsBounded u x.1
IsBounded (choose p t u) (inl x) = IsBounded t x
IsBounded (choose p t u) (inr x) = IsBounded u x
IsBounded t x = Unit {0}

number_up_to : (limit : ℕ) (o : Option ℕ) (n : ℕ) → ((k : ℕ) → o ≡ Some k → k ≤ limit) → value_or_fault o ≡ Ok n → n ≤ limit
number_up_to limit None n h e = absurd cc
number_up_to limit (Some k) n h e = let same : k ≡ n = cc in subst (λ z. z ≤ limit) same (h k refl)

whole_up_to : (limit : ℕ) (t : Token) (line n : ℕ) → given_of (whole_number limit) t line ≡ Ok n → n ≤ limit
whole_up_to limit (Number digits) line n e = number_up_to limit (whole_in limit digits) n (λ k h. (whole_in-found limit digits k h).1) e
whole_up_to limit (Word w) line n e = absurd cc
whole_up_to limit (String w) line n e = absurd cc
whole_up_to limit (Mark b) line n e = absurd cc
whole_up_to limit (Bad k) line n e = absurd cc

given_up_to : (w : Want) (t : Token) (line : ℕ) (x : Given w) → given_of w t line ≡ Ok x → IsUpTo w x
given_up_to (whole_number limit) t line x e = whole_up_to limit t line x e
given_up_to first_word t line x e = tt
given_up_to (first_mark b) t line x e = tt
given_up_to word t line x e = tt
given_up_to string t line x e = tt
given_up_to (mark b) t line x e = tt
given_up_to sign t line x e = tt
given_up_to decimal t line x e = tt

fits_bounded : (t : Template) (x : Kept t) (ts rest : List Lexed) → Fits t x ts rest → IsBounded t x
fits_bounded done x ts rest h = tt
fits_bounded (take w) x ts rest h = given_up_to w h.0.token h.0.line x h.2
fits_bounded (both t u) x ts rest h = (fits_bounded t x.0 ts h.0 h.1, fits_bounded u x.1 h.0 rest h.2)
fits_bounded (choose p t u) (inl x) ts rest h = fits_bounded t x ts rest h.1
fits_bounded (choose p t u) (inr x) ts rest h = fits_bounded u x ts rest h.1
fits_bounded (repeat p t) x ts rest h = tt
fits_bounded (skip p) x ts rest h = tt
fits_bounded (stop p kind) x ts rest h = tt

-- ---- rows

abbrev RowBounds : Row → Type 0
RowBounds r = (x : Kept r.template) → IsBounded r.template x → IsBoundedBody (r.body x)

rows_bounded : AllByRecursion RowBounds rows
rows_bounded = (λ x h. tt, (λ x h. tt, (λ x h. tt, (λ x h. tt, (of_message, (of_signal, (λ x h. tt, (λ x h. tt, (λ x h. tt, (λ x h. tt, (λ x h. tt, (λ x h. tt, tt))))))))))))
  where
    of_message : (x : Kept message) → IsBounded message x → IsBoundedBody (message_body x)
    of_message x h = (h.0, h.1.1.1.0)

    of_signal : (x : Kept signal) → IsBounded signal x → IsBoundedBody (signal_body x)
    of_signal x h = (h.1.1.1.0.0, h.1.1.1.0.1.1.0)

made_bounded : (rs : List Row) → AllByRecursion RowBounds rs → (x : Kept (table rs)) → IsBounded (table rs) x → IsBoundedBody (made rs x).body
made_bounded [] a (inl x) h = tt
made_bounded [] a (inr x) h = tt
made_bounded (r ∷ rs) a (inl x) h = a.0 x.1 h.1
made_bounded (r ∷ rs) a (inr x) h = made_bounded rs a.1 x h

rounds_bounded : (p : Test) (xs : List (Kept statement)) (ts rest : List Lexed) → Rounds (Fits statement) p xs ts rest → AreBounded (map statement_of xs)
rounds_bounded p [] ts rest h = tt
rounds_bounded p (x ∷ xs) ts rest h = (made_bounded rows rows_bounded x (fits_bounded statement x ts h.1.0 h.1.1), rounds_bounded p xs h.1.0 rest h.1.2)

list_bounded : (ss : List Statement) (ts : List Lexed) → AreStatements ss ts → AreBounded ss
list_bounded ss ts (xs, f, e) = subst AreBounded (sym e) (rounds_bounded Test.anything xs ts [] f.0)

pub answer_bounded : (text : List ℕ) (r : Result (Vec Statement) TextFault) → Gives (λ v. v.items) r (all_of (end_line text) (tokens text)) → IfOk r (λ v. AreBounded v.items)
answer_bounded text (Ok v) g = list_bounded v.items (tokens text) (all_sound (end_line text) (tokens text) v.items g)
answer_bounded text (Err e) g = tt
