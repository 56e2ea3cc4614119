-- The tables of some statements, with what one more says.
use Rattle.std.proofs.Common.{◌≡◌, ℕ, ◌+◌, ◌<◌, List, [], ◌∷◌, ◌++◌, length, get_or, take, Option, Some, None, refl, sym, ap, subst, ◌∙◌, add-one}
use Rattle.std.proofs.Math.Seq.{take-suc}
use Rattle.std.specs.Borrow.{Bor}
use Rattle.std.specs.Option.{option_copied, option_or}
use Rattle.cg_out.specs.Words.{or_else}
use Rattle.dbc_reader.specs.declared.statement.Statement.{Statement}
use Rattle.dbc_build.specs.declared.tables.Tables.{Tables}
use Rattle.dbc_build.specs.Facts.{comment_in, attribute_in, default_in, choices_in, value_type_in}
use Rattle.dbc_build.specs.Last.{last_of}
use Rattle.dbc_build.specs.Tables.{is_about, Notes, Holds}

or_else_assoc : {V : Type 0} (a b c : Option V) → or_else a (or_else b c) ≡ or_else (or_else a b) c
or_else_assoc (Some v) b c = refl
or_else_assoc None b c = refl

or_else_none : {V : Type 0} (a : Option V) → or_else a None ≡ a
or_else_none (Some v) = refl
or_else_none None = refl

last_of-one_more : {S V : Type 0} (f : S → Option V) (front : List S) (s : S) → last_of f (front ++ s ∷ []) ≡ or_else (f s) (last_of f front)
last_of-one_more f [] s = sym (or_else_none (f s))
last_of-one_more f (t ∷ front) s = ap (λ o. or_else o (f t)) (last_of-one_more f front s) ∙ sym (or_else_assoc (f s) (last_of f front) (f t))

next : {S V : Type 0} (f : S → Option V) (front : List S) (s : S) (old new : Option V) → new ≡ or_else (f s) old → old ≡ last_of f front → new ≡ last_of f (front ++ s ∷ [])
next f front s old new e h = e ∙ ap (or_else (f s)) h ∙ sym (last_of-one_more f front s)

holds_more : (t u : Tables) (front : List Statement) (s : Statement) → Notes t s.body u → Holds t front → Holds u (front ++ s ∷ [])
holds_more t u front s n h = record {
  comment = λ k. next (λ (x : Statement). comment_in (is_about k) x.body) front s _ _ (n.comment k) (h.comment k);
  attribute = λ name k. next (λ (x : Statement). attribute_in name.now (is_about k) x.body) front s _ _ (n.attribute name k) (h.attribute name k);
  default = λ name. next (λ (x : Statement). default_in name.now x.body) front s _ _ (n.default name) (h.default name);
  choices = λ id name. next (λ (x : Statement). choices_in id name.now x.body) front s _ _ (n.choices id name) (h.choices id name);
  value_type = λ id name. next (λ (x : Statement). value_type_in id name.now x.body) front s _ _ (n.value_type id name) (h.value_type id name);
}

pub take_next : {S : Type 0} (ss : List S) (i : ℕ) (s : S) → i < length ss → s ≡ get_or ss i s → take (i + 1) ss ≡ take i ss ++ (s ∷ [])
take_next ss i s lt e = rw add-one (take-suc ss i s lt) ∙ ap (λ x. take i ss ++ (x ∷ [])) (sym e)

pub holds_next : (t u : Tables) (ss : List Statement) (i : ℕ) (s : Statement) → i < length ss → s ≡ get_or ss i s → Notes t s.body u → Holds t (take i ss) → Holds u (take (i + 1) ss)
holds_next t u ss i s lt e n h = subst (Holds u) (sym (take_next ss i s lt e)) (holds_more t u (take i ss) s n h)

pub copied-or : {V : Type 0} (a b : Option (Bor V)) → option_copied (option_or a b) ≡ or_else (option_copied a) (option_copied b)
copied-or (Some x) b = refl
copied-or None b = refl
