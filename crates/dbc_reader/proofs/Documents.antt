-- The template of a text: it is regular and can be brought to its end; what is read of it is a list of statements.
use Rattle.std.proofs.Common.{◌≡◌, ◌⊎◌, inl, inr, ℕ, List, [], ◌∷◌, ◌++◌, map, Ok, refl, sym, ap, subst}
use Rattle.std.specs.List.{AllByRecursion}
use Rattle.dbc_reader.specs.Token.{Mark, Lexed}
use Rattle.dbc_reader.specs.declared.statement.Statement.{Statement}
use Rattle.dbc_reader.specs.Keywords.{keyword}
use Rattle.dbc_reader.specs.MuxWord.{is_mux}
use Rattle.dbc_reader.specs.Template.{word, Template, Test, is_word_in}
use Rattle.dbc_reader.specs.Parts.{pairs, further, range}
use Rattle.dbc_reader.specs.Rows.{Row, rows}
use Rattle.dbc_reader.specs.Document.{table, statement, statement_of, document}
use Rattle.dbc_reader.specs.Reading.{template_at, all_of}
use Rattle.dbc_reader.specs.Statements.{Fits, EndsRun, AreStatements}
use Rattle.dbc_reader.proofs.Steps.{bind_ok, ok_is, Eats, IsRegular}
use Rattle.dbc_reader.proofs.Exact.{template_fits, fits_template}
use Rattle.dbc_reader.proofs.Lively.{Closes, spelling, IsLive}

-- what each row has to show
abbrev pub IsSound : Row → Type 0
IsSound row = IsRegular row.template × IsLive row.template []

in_first : {A B : Type 0} → A → A ⊎ B
in_first x = inl x

in_second : {A B : Type 0} → B → A ⊎ B
in_second x = inr x

rows_sound : AllByRecursion IsSound rows
unfolding keyword is_mux
rows_sound = search (in_first, in_second)

-- `;`
abbrev semicolon : Lexed
semicolon = record { token = Mark 59; line = 0 }

-- nothing closes a template at the end of the text
closes_end : (t : Template) → Closes t []
closes_end Template.done = tt
closes_end (Template.take w) = tt
closes_end (Template.both t u) = (closes_end t, closes_end u)
closes_end (Template.choose p t u) = (tt, closes_end t, closes_end u)
closes_end (Template.repeat p t) = (tt, closes_end t)
closes_end (Template.skip p) = tt
closes_end (Template.stop p kind) = tt

abbrev Ends : List Row → Type 0
Ends rs = IsRegular (table rs) × (spelling (table rs) ≡ semicolon ∷ []) × IsLive (table rs) [] × Eats (table rs)

table_sound : (rs : List Row) → AllByRecursion IsSound rs → Ends rs
table_sound [] a = ((inl tt, (tt, (tt, tt)), tt), refl, (refl, (tt, tt, (refl, refl, tt)), tt), (inl tt, tt))
table_sound (r ∷ rs) a =
    let i = table_sound rs a.1 in (
      (inl tt, (tt, a.0.0), i.0),
      i.1,
      (subst (λ (us : List Lexed). EndsRun (is_word_in (r.first ∷ [])) (us ++ [])) (sym i.1) refl, (tt, tt, a.0.1), i.2),
      (inl tt, i.3),
    )

pub document_regular : IsRegular document
document_regular = let i = table_sound rows rows_sound in (i.3, i.0)

pub document_live : IsLive document []
document_live = let i = table_sound rows rows_sound in (tt, closes_end statement, i.2)

-- ---- the list of statements

whole_rest : (rest : List Lexed) → EndsRun Test.anything rest → rest ≡ []
whole_rest [] h = refl
whole_rest (x ∷ xs) h = absurd cc

pub all_sound : (end : ℕ) (ts : List Lexed) (ss : List Statement) → all_of end ts ≡ Ok ss → AreStatements ss ts
all_sound end ts ss e =
    let a = bind_ok (template_at end document ts) (λ x. Ok (map statement_of x.0)) ss e in
    let f = template_fits end document document_regular ts a.0 a.1 in
    let n = whole_rest a.0.1 f.1 in
    (a.0.0, subst (λ (us : List Lexed). Fits document a.0.0 ts us) n f, sym (ok_is (map statement_of a.0.0) ss a.2))

pub all_complete : (end : ℕ) (ts : List Lexed) (ss : List Statement) → AreStatements ss ts → all_of end ts ≡ Ok ss
all_complete end ts ss (fs, f, e) = rw (fits_template end document document_regular fs ts [] f) (ap (λ (z : List Statement). Ok z) (sym e))

-- ---- what is repeated inside statements

pub pairs_regular : IsRegular pairs
pairs_regular = search (in_first, in_second)

pub words_regular : IsRegular (further (Template.take word))
words_regular = search (in_first, in_second)

pub ranges_regular : IsRegular (further range)
ranges_regular = search (in_first, in_second)
