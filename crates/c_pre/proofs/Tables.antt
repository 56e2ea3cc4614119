-- The tables of the code against those of the definition.
use Rattle.std.proofs.Common.{◌≡◌, ℕ, ◌≤◌, length, drop, Bool, true, false, cond, ◌||◌, List, [], ◌∷◌, ◌++◌, map, bytes_eq, Option, Some, None, option_map, refl, sym, ap, ◌∙◌}
use Rattle.std.specs.Borrow.{Bor}
use Rattle.std.specs.List.{list_any}
use Rattle.std.specs.Map.{lookup}
use Rattle.c_text.specs.declared.token.Token.{Token}
use Rattle.c_text.specs.SeenToken.{token_of}
use Rattle.c_text.specs.declared.preprocessed.Macro.{Macro}
use Rattle.c_text.specs.Preprocessing.{body_for, put_for, macro_of}
use Rattle.c_pre.proofs.Seen.{flats_back}
use Rattle.c_pre.specs.declared.line.Header.{Header as CodeHeader}
use Rattle.c_pre.specs.Shown.{header_shown, flat, flats}
use Rattle.c_pre.specs.Entries.{named}
use Rattle.c_pre.specs.Run.{look, same_header}
use Rattle.std.proofs.lemmas.List.{drop_all}
use Rattle.indexmap.specs.IndexMap.{insert_entry}

-- ---- macros by names

abbrev pub Entry : Type 0
Entry = Bor (List ℕ) × Bor (List Token)

abbrev pub same_key : Bor (List ℕ) → Bor (List ℕ) → Bool
same_key a b = bytes_eq a.now b.now

chosen : (b : Bool) (e : Entry) (rest : Option (Bor (List Token))) → cond b (Some (flats e.1.now)) (option_map (λ ts. flats ts.now) rest) ≡ option_map (λ ts. flats ts.now) (cond b (Some e.1) rest)
chosen true e rest = refl
chosen false e rest = refl

pub look-lookup : (name : List ℕ) (es : List Entry) → look name (map named es) ≡ option_map (λ ts. flats ts.now) (lookup (λ k. bytes_eq name k.now) es)
look-lookup name [] = refl
look-lookup name (e ∷ es) = ap (cond (bytes_eq name e.0.now) (Some (flats e.1.now))) (look-lookup name es) ∙ chosen (bytes_eq name e.0.now) e (lookup (λ k. bytes_eq name k.now) es)

pub insert-new : (name : Bor (List ℕ)) (body : Bor (List Token)) (es : List Entry) → look name.now (map named es) ≡ None → map named (insert_entry same_key es name body) ≡ map named es ++ (name.now, flats body.now) ∷ []
insert-new name body [] h = refl
insert-new name body (e ∷ es) h = by (bytes_eq name.now e.0.now) refl (insert-new name body es)
  where
    by : (b : Bool) → bytes_eq name.now e.0.now ≡ b → (look name.now (map named es) ≡ None → map named (insert_entry same_key es name body) ≡ map named es ++ (name.now, flats body.now) ∷ []) → map named (insert_entry same_key (e ∷ es) name body) ≡ map named (e ∷ es) ++ (name.now, flats body.now) ∷ []
    by true s more = let found : Some (flats e.1.now) ≡ None = sym (ap (λ b. cond b (Some (flats e.1.now)) (look name.now (map named es))) s) ∙ h in cc
    by false s more =
        ap (λ b. map named (cond b ((e.0, body) ∷ es) (e ∷ insert_entry same_key es name body))) s
        ∙ ap (λ r. named e ∷ r) (more (sym (ap (λ b. cond b (Some (flats e.1.now)) (look name.now (map named es))) s) ∙ h))

-- ---- headers

pub among : (eq : CodeHeader → CodeHeader → Bool) → ((g h : CodeHeader) → eq g h ≡ same_header (header_shown g) (header_shown h)) → (hs : List CodeHeader) (h : CodeHeader) → list_any (λ g. eq g h) hs ≡ list_any (λ g. same_header g (header_shown h)) (map header_shown hs)
among eq same [] h = refl
among eq same (g ∷ hs) h = (λ i. same g h i || among eq same hs h i)

-- ---- bodies in the place of a name

-- what is written for the rest of a body, whose next token is fresh or not
abbrev pub body_left : Token → Bool → List Token → List Token
body_left t fresh [] = []
body_left t fresh (b ∷ bs) = record { kind = b.kind; place = t.place; fresh = fresh } ∷ body_left t false bs

rest-left : (t : Token) (bs : List Token) → map token_of (map (λ c. put_for (flat t) false c.kind) (flats bs)) ≡ body_left t false bs
rest-left t [] = refl
rest-left t (b ∷ bs) = ap (λ r. record { kind = b.kind; place = t.place; fresh = false } ∷ r) (rest-left t bs)

pub body-left : (t : Token) (bs : List Token) → map token_of (body_for (flat t) (flats bs)) ≡ body_left t t.fresh bs
body-left t [] = refl
body-left t (b ∷ bs) = ap (λ r. record { kind = b.kind; place = t.place; fresh = t.fresh } ∷ r) (rest-left t bs)

pub body-done : (t : Token) (fresh : Bool) (n : ℕ) (bs : List Token) → length bs ≤ n → body_left t fresh (drop n bs) ≡ []
body-done t fresh n bs h = ap (body_left t fresh) (drop_all n bs h)

-- ---- the list of macros

abbrev pub entry_macro : Entry → Macro
entry_macro e = record { name = e.0.now; body = e.1.now }

pub entries-macros : (es : List Entry) → map entry_macro es ≡ map macro_of (map named es)
entries-macros [] = refl
entries-macros (e ∷ es) = (λ i. record { name = e.0.now; body = sym (flats_back e.1.now) i } ∷ entries-macros es i)
