-- A whole text: the loop over its statements, by the rows, and what the answer says of the text.
use Rattle.std.proofs.Common.{◌≡◌, ℕ, suc, false, ◌<◌, List, [], ◌∷◌, ◌++◌, map, length, Result, Ok, Err, refl, sym, ap, subst, ◌∙◌}
use Rattle.std.specs.Prelude.{IfOk}
use Rattle.std.specs.Global.{Vec}
use Rattle.cg_out.specs.Words.{◌>>=◌}
use Rattle.can_model.specs.Refusal.{Refusal, Gives}
use Rattle.can_model.specs.declared.refusal.TextKind.{TextKind}
use Rattle.can_model.specs.declared.refusal.TextFault.{TextFault}
use Rattle.can_model.specs.declared.refusal.TextFault.TheVariants.{Fault, Memory}
use Rattle.dbc_reader.specs.Token.{Lexed}
use Rattle.dbc_reader.specs.declared.statement.Statement.{Statement}
use Rattle.dbc_reader.specs.Tokens.{tokens, end_line}
use Rattle.dbc_reader.specs.Spelling.{IsTokenList}
use Rattle.dbc_reader.specs.Template.{anything}
use Rattle.dbc_reader.specs.Rows.{rows}
use Rattle.dbc_reader.specs.Document.{statement, statement_of, document}
use Rattle.dbc_reader.specs.Reading.{seen, template_at, all_of, too_large}
use Rattle.dbc_reader.specs.Flat.{row_at}
use Rattle.dbc_reader.specs.Statements.{AreStatements, IsStatementList}
use Rattle.dbc_reader.specs.FirstFault.{IsFirstTokenFault, IsFirstFault}
use Rattle.dbc_reader.proofs.TokenSpelling.{tokens_spelled}
use Rattle.dbc_reader.proofs.OneCut.{one_cut}
use Rattle.dbc_reader.proofs.Steps.{bind_ok, bind_err, ok_is}
use Rattle.dbc_reader.proofs.Documents.{document_regular, all_sound, all_complete}
use Rattle.dbc_reader.proofs.FirstFault.{first_fault, fault_read}
use Rattle.dbc_reader.proofs.Flat.{table_read}
use Rattle.dbc_reader.proofs.Loop.{with_front, Fails, all_seen, goes_on, ends, is_done, seen_shorter}

abbrev pub total : ℕ → List Lexed → Result (List Statement × List Lexed) Refusal
total end ts = all_seen end anything statement Statement statement_of document_regular ts

shown_err : (end : ℕ) (e : TextFault) (ts : List Lexed) → Fails e (total end ts) → Fails e (all_of end ts)
shown_err end Memory ts f = tt
shown_err end (Fault kind line) ts f = let a = bind_err (template_at end document ts) (λ x. (map statement_of x.0, x.1)) _ f in rw a refl

shown_ok : (end : ℕ) (ts rest : List Lexed) (ss : List Statement) → total end ts ≡ Ok (ss, rest) → all_of end ts ≡ Ok ss
shown_ok end ts rest ss f =
    let a = bind_ok (template_at end document ts) (λ x. Ok (map statement_of x.0, x.1)) (ss, rest) f in
    rw a.1 (λ i. Ok (ok_is (map statement_of a.0.0, a.0.1) (ss, rest) a.2 i).0)

by_rows : (end : ℕ) (x : Lexed) (xs : List Lexed) (z : Result (Statement × List Lexed) Refusal) → row_at rows end x xs ≡ z → (template_at end statement (x ∷ xs) >>= λ k. Ok (statement_of k.0, k.1)) ≡ z
by_rows end x xs z e = table_read end x xs rows ∙ e

pub stepped : (end : ℕ) (front : List Statement) (ls : List Lexed) (x : Lexed) (xs : List Lexed) (y : Statement × List Lexed) (ts : List Lexed) → ls ≡ x ∷ xs → row_at rows end x xs ≡ Ok y → with_front front (total end ls) ≡ total end ts → with_front (front ++ y.0 ∷ []) (total end y.1) ≡ total end ts
stepped end front ls x xs y ts q e h = goes_on end anything statement Statement statement_of document_regular front (x ∷ xs) y (total end ts) refl (by_rows end x xs (Ok y) e) (ap (λ (us : List Lexed). with_front front (total end us)) (sym q) ∙ h)

fails_rows : (end : ℕ) (e : TextFault) (x : Lexed) (xs : List Lexed) → Fails e (row_at rows end x xs) → Fails e (seen end statement statement_of (x ∷ xs))
fails_rows end Memory x xs f = tt
fails_rows end (Fault kind line) x xs f = by_rows end x xs _ f

pub ended : (end : ℕ) (e : TextFault) (front : List Statement) (ls : List Lexed) (x : Lexed) (xs ts : List Lexed) → ls ≡ x ∷ xs → Fails e (row_at rows end x xs) → with_front front (total end ls) ≡ total end ts → Fails e (all_of end ts)
ended end e front ls x xs ts q f h = shown_err end e ts (ends end anything statement Statement statement_of document_regular e front (x ∷ xs) (total end ts) refl (fails_rows end e x xs f) (ap (λ (us : List Lexed). with_front front (total end us)) (sym q) ∙ h))

pub finished : (end : ℕ) (front : List Statement) (ls ts : List Lexed) → ls ≡ [] → with_front front (total end ls) ≡ total end ts → all_of end ts ≡ Ok front
finished end front ls ts q h = shown_ok end ts [] front (is_done end anything statement Statement statement_of document_regular front [] (total end ts) tt (ap (λ (us : List Lexed). with_front front (total end us)) (sym q) ∙ h))

pub smaller : (end : ℕ) (x : Lexed) (xs : List Lexed) (y : Statement × List Lexed) → row_at rows end x xs ≡ Ok y → length y.1 < suc (length xs)
smaller end x xs y e = seen_shorter end anything statement Statement statement_of document_regular (x ∷ xs) y (by_rows end x xs (Ok y) e)

-- ---- what the answer says of the text

abbrev pub shown : Vec Statement → List Statement
shown v = v.items

abbrev pub Answer : List ℕ → Result (Vec Statement) TextFault → Type 0
Answer text r = Gives shown r (all_of (end_line text) (tokens text))

pub is_found : (text : List ℕ) (r : Result (Vec Statement) TextFault) → too_large text ≡ false → Answer text r → IfOk r (λ v. IsStatementList v.items text)
is_found text (Ok v) n g = (n, (tokens text, tokens_spelled text, all_sound (end_line text) (tokens text) v.items g))
is_found text (Err e) n g = tt

pub is_only : (text : List ℕ) (r : Result (Vec Statement) TextFault) (ss : List Statement) → IsStatementList ss text → Answer text r → Gives shown r (Ok ss)
is_only text r ss a g = subst (λ (z : Result (List Statement) Refusal). Gives shown r z) (all_complete (end_line text) (tokens text) ss (subst (λ (ts : List Lexed). AreStatements ss ts) (sym (one_cut text a.1.0 a.1.1)) a.1.2)) g

stopped : (text : List ℕ) (r : Result (Vec Statement) TextFault) (kind : TextKind) (line : ℕ) → r ≡ Err (Fault kind line) → Answer text r → all_of (end_line text) (tokens text) ≡ Err (record { kind = kind; line = line })
stopped text r kind line e g = subst (λ (z : Result (Vec Statement) TextFault). Gives shown z (all_of (end_line text) (tokens text))) e g

pub is_fault : (text : List ℕ) (r : Result (Vec Statement) TextFault) (kind : TextKind) (line : ℕ) → too_large text ≡ false → r ≡ Err (Fault kind line) → Answer text r → IsFirstFault text (record { kind = kind; line = line })
is_fault text r kind line n e g = rw n (tokens text, tokens_spelled text, first_fault (end_line text) (tokens text) (record { kind = kind; line = line }) (stopped text r kind line e g))

pub is_refused : (text : List ℕ) (r : Result (Vec Statement) TextFault) (f : Refusal) → too_large text ≡ false → IsFirstFault text f → Answer text r → Gives shown r (Err f)
is_refused text r f n h g =
    let k : (ts : List Lexed) × IsTokenList ts text × IsFirstTokenFault (end_line text) ts f = rw n at h in
    let first = subst (λ (ts : List Lexed). IsFirstTokenFault (end_line text) ts f) (sym (one_cut text k.0 k.1)) k.2 in
    subst (λ (z : Result (List Statement) Refusal). Gives shown r z) (fault_read (end_line text) (tokens text) f first) g
