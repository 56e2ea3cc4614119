-- A text has one list of statements or one first fault: what is in the relations is what reading gives.
use Rattle.std.proofs.Common.{◌≡◌, ℕ, Bool, true, false, List, Ok, Err, refl, sym, ap, subst}
use Rattle.can_model.specs.Refusal.{Refusal}
use Rattle.can_model.specs.declared.refusal.TextKind.TheVariants.{TooLarge}
use Rattle.dbc_reader.specs.Token.{Lexed}
use Rattle.dbc_reader.specs.declared.statement.Statement.{Statement}
use Rattle.dbc_reader.specs.Tokens.{tokens, end_line}
use Rattle.dbc_reader.specs.Spelling.{IsTokenList}
use Rattle.dbc_reader.specs.Reading.{fault_at, too_large, statements_of}
use Rattle.dbc_reader.specs.Statements.{AreStatements, IsStatementList}
use Rattle.dbc_reader.specs.FirstFault.{IsFirstTokenFault, IsFirstFault}
use Rattle.dbc_reader.proofs.OneCut.{one_cut}
use Rattle.dbc_reader.proofs.Documents.{all_complete}
use Rattle.dbc_reader.proofs.FirstFault.{fault_read}

pub list_read : (text : List ℕ) (ss : List Statement) → IsStatementList ss text → statements_of text ≡ Ok ss
list_read text ss a =
    rw a.0 (all_complete (end_line text) (tokens text) ss (subst (λ (ts : List Lexed). AreStatements ss ts) (sym (one_cut text a.1.0 a.1.1)) a.1.2))

pub fault_told : (text : List ℕ) (r : Refusal) → IsFirstFault text r → statements_of text ≡ Err r
fault_told text r h = by_size (too_large text) refl where
  by_size : (b : Bool) → too_large text ≡ b → statements_of text ≡ Err r
  by_size true e = let same : r ≡ fault_at TooLarge 0 = rw e at h in rw e (ap (λ (z : Refusal). Err z) (sym same))
  by_size false e =
      let k : (ts : List Lexed) × IsTokenList ts text × IsFirstTokenFault (end_line text) ts r = rw e at h in
      rw e (fault_read (end_line text) (tokens text) r (subst (λ (ts : List Lexed). IsFirstTokenFault (end_line text) ts r) (sym (one_cut text k.0 k.1)) k.2))
