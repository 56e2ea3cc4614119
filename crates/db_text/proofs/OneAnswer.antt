-- A text spells one database, or there is one reason why it spells none.
use Rattle.std.proofs.Common.{◌≡◌, ◌⊎◌, inl, inr, ℕ, List, Result, Ok, Err, sym, ap, subst, ◌∙◌}
use Rattle.std.specs.Prelude.{Option, Some, None, IfSome}
use Rattle.can_model.specs.Refusal.{Refusal}
use Rattle.can_model.specs.Validity.{Fault, IsValid, IsFirstFault}
use Rattle.can_model.specs.declared.database.Database.{Database}
use Rattle.dbc_reader.specs.declared.statement.Statement.{Statement}
use Rattle.dbc_reader.specs.FirstFault.{IsFirstFault as IsFirstTextFault}
use Rattle.dbc_reader.proofs.Definite.{list_read, fault_told}
use Rattle.dbc_build.specs.DatabaseOfStatements.{database_of}
use Rattle.db_check.proofs.OneFirst.{one_first}
use Rattle.db_text.specs.DatabaseOfText.{DatabaseRefusal, in_text, in_database, Makes, Spells}

module _ (bytes : List ℕ) where
  same_list : (ss ts : List Statement) → ◌≡◌ {A = Result (List Statement) Refusal} (Ok ss) (Ok ts) → ss ≡ ts
  same_list ss ts e = cc

  one_made : (a b : Result Database Refusal) → Makes bytes a → Makes bytes b → a ≡ b
  one_made a b m n =
      let same = same_list m.statements n.statements (sym (list_read bytes m.statements m.text_is) ∙ list_read bytes n.statements n.text_is) in
      sym m.made_is ∙ ap database_of same ∙ n.made_is

  not_both : (made : Result Database Refusal) (r : Refusal) → Makes bytes made → ¬ IsFirstTextFault bytes r
  not_both made r m f = let e = sym (list_read bytes m.statements m.text_is) ∙ fault_told bytes r f in absurd cc

  same_database : (a b : Database) → ◌≡◌ {A = Result Database Refusal} (Ok a) (Ok b) → a ≡ b
  same_database a b e = cc

  same_refusal : {A : Type 0} (r s : Refusal) → ◌≡◌ {A = Result A Refusal} (Err r) (Err s) → r ≡ s
  same_refusal r s e = cc

  never_made : (a : Database) (r : Refusal) → ¬ (◌≡◌ {A = Result Database Refusal} (Ok a) (Err r))
  never_made a r e = absurd cc

  -- a fault of the text and a database do not go together
  refused_or_made : (a : Database) (r : Refusal) → Makes bytes (Ok a) → ¬ (IsFirstTextFault bytes r ⊎ Makes bytes (Err r))
  refused_or_made a r m (inl f) = not_both (Ok a) r m f
  refused_or_made a r m (inr n) = never_made a r (one_made (Ok a) (Err r) m n)

  one_refusal : (r s : Refusal) → IsFirstTextFault bytes r ⊎ Makes bytes (Err r) → IsFirstTextFault bytes s ⊎ Makes bytes (Err s) → r ≡ s
  one_refusal r s (inl f) (inl g) = same_refusal {A = List Statement} r s (sym (fault_told bytes r f) ∙ fault_told bytes s g)
  one_refusal r s (inl f) (inr n) = absurd (not_both (Err s) r n f)
  one_refusal r s (inr m) (inl g) = absurd (not_both (Err r) s m g)
  one_refusal r s (inr m) (inr n) = same_refusal {A = Database} r s (one_made (Err r) (Err s) m n)

  one_fault : (f g : Fault) (a b : Database) → Makes bytes (Ok a) → Makes bytes (Ok b) → IsFirstFault a f → IsFirstFault b g → f ≡ g
  one_fault f g a b m n h k =
      let same = same_database a b (one_made (Ok a) (Ok b) m n) in
      one_first b f g (subst (λ d. IsFirstFault d f) same h) k

  valid_or_not : (f : Fault) (a b : Database) → Makes bytes (Ok a) → Makes bytes (Ok b) → IsValid a → ¬ IsFirstFault b f
  valid_or_not f a b m n valid h =
      let same = same_database a b (one_made (Ok a) (Ok b) m n) in
      subst IsValid same valid h.position f h.there

  pub one_answer : (a b : Result Database DatabaseRefusal) → Spells bytes a → Spells bytes b → a ≡ b
  one_answer (Ok a) (Ok b) s t = ap (λ (d : Database). Ok d) (same_database a b (one_made (Ok a) (Ok b) s.0 t.0))
  one_answer (Ok a) (Err (in_text r)) s t = absurd (refused_or_made a r s.0 t)
  one_answer (Ok a) (Err (in_database f)) s t = absurd (valid_or_not f a t.0 s.0 t.1 s.1 t.2)
  one_answer (Err (in_text r)) (Ok b) s t = absurd (refused_or_made b r t.0 s)
  one_answer (Err (in_text r)) (Err (in_text q)) s t = ap (λ (x : Refusal). Err (in_text x)) (one_refusal r q s t)
  one_answer (Err (in_text r)) (Err (in_database g)) s t = absurd (refused_or_made t.0 r t.1 s)
  one_answer (Err (in_database f)) (Ok b) s t = absurd (valid_or_not f b s.0 t.0 s.1 t.1 s.2)
  one_answer (Err (in_database f)) (Err (in_text q)) s t = absurd (refused_or_made s.0 q s.1 t)
  one_answer (Err (in_database f)) (Err (in_database g)) s t = ap (λ (x : Fault). Err (in_database x)) (one_fault f g s.0 t.0 s.1 t.1 s.2 t.2)

  -- the answer that is found is the only one
  pub only_answer : (o : Option (Result Database DatabaseRefusal)) → IfSome o (Spells bytes) → (r : Result Database DatabaseRefusal) → Spells bytes r → IfSome o (λ a. a ≡ r)
  only_answer None h r s = tt
  only_answer (Some a) h r s = one_answer a r h s
