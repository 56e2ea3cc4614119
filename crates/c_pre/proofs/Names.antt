-- What names are behind lines, and what is written for them.
use Rattle.std.proofs.Common.{◌≡◌, ℕ, Bool, true, false, cond, ◌&&◌, ◌||◌, List, [], ◌∷◌, ◌++◌, map, bytes_eq, Option, Some, None, option_map, is_some, refl, sym, ap, ◌∙◌}
use Rattle.std.specs.List.{list_any}
use Rattle.std.proofs.lemmas.List.{map-append}
use Rattle.std.proofs.lemmas.Bool.Decides.{same_from_decides}
use Rattle.std.proofs.lemmas.Slice.Eq.{bytes_eq-Decides}
use Rattle.c_text.specs.declared.place.Place.{Place}
use Rattle.c_text.specs.declared.token.TokenKind.{TokenKind}
use Rattle.c_text.specs.SeenToken.{Seen, token_of}
use Rattle.c_text.specs.StandardHeader.{Header, stdbool_h, stddef_h, stdint_h, string_h, kind_in}
use Rattle.c_text.specs.Directive.{Line, text, standard, quoted, define, conditional, otherwise, endif, unbalanced, refused, word_of}
use Rattle.cg_out.specs.Words.{or_else}
use Rattle.c_text.specs.MacroDefinition.{first_by, body_by, body_of, is_macro, same_kind, same_body}
use Rattle.c_text.specs.Preprocessing.{each_behind, NamedBody, macros_at, put_for, body_for, kind_by, replaced_by, replaced_word, replaced, macro_of}
use Rattle.c_text.proofs.Group.{first_by-append}
use Rattle.c_pre.specs.Shown.{unjoin}
use Rattle.c_pre.specs.Run.{look, kind_among, same_header, with_header, written_word, written}
use Rattle.cg_out.proofs.WordLaws.{or_else-none, or_else-assoc}

-- ---- headers

abbrev pub headers_of : List Header → List (Line Place) → List Header
headers_of hs [] = hs
headers_of hs (standard h ∷ ls) = headers_of (with_header hs h) ls
headers_of hs (l ∷ ls) = headers_of hs ls

pub headers_of-append : (hs : List Header) (xs ys : List (Line Place)) → headers_of hs (xs ++ ys) ≡ headers_of (headers_of hs xs) ys
headers_of-append hs [] ys = refl
headers_of-append hs (text ts ∷ xs) ys = headers_of-append hs xs ys
headers_of-append hs (standard h ∷ xs) ys = headers_of-append (with_header hs h) xs ys
headers_of-append hs (quoted ∷ xs) ys = headers_of-append hs xs ys
headers_of-append hs (define p name body ∷ xs) ys = headers_of-append hs xs ys
headers_of-append hs (conditional p wanted name ∷ xs) ys = headers_of-append hs xs ys
headers_of-append hs (otherwise p ∷ xs) ys = headers_of-append hs xs ys
headers_of-append hs (endif p ∷ xs) ys = headers_of-append hs xs ys
headers_of-append hs (unbalanced p ∷ xs) ys = headers_of-append hs xs ys
headers_of-append hs (refused p kind ∷ xs) ys = headers_of-append hs xs ys

same-header : (g h : Header) → same_header g h ≡ true → g ≡ h
same-header stdbool_h stdbool_h e = refl
same-header stddef_h stddef_h e = refl
same-header stdint_h stdint_h e = refl
same-header string_h string_h e = refl
same-header stdbool_h stddef_h e = cc
same-header stdbool_h stdint_h e = cc
same-header stdbool_h string_h e = cc
same-header stddef_h stdbool_h e = cc
same-header stddef_h stdint_h e = cc
same-header stddef_h string_h e = cc
same-header stdint_h stdbool_h e = cc
same-header stdint_h stddef_h e = cc
same-header stdint_h string_h e = cc
same-header string_h stdbool_h e = cc
same-header string_h stddef_h e = cc
same-header string_h stdint_h e = cc

or_else-twice : {X : Type 0} (x y : Option X) → or_else (or_else x y) x ≡ or_else x y
or_else-twice (Some x) y = refl
or_else-twice None None = refl
or_else-twice None (Some y) = refl

kind_among-append : (hs : List Header) (h : Header) (name : List ℕ) → kind_among (hs ++ h ∷ []) name ≡ or_else (kind_among hs name) (kind_in h name)
kind_among-append [] h name = or_else-none (kind_in h name)
kind_among-append (g ∷ hs) h name = ap (or_else (kind_in g name)) (kind_among-append hs h name) ∙ sym (or_else-assoc (kind_in g name) (kind_among hs name) (kind_in h name))

kind_among-there : (hs : List Header) (h : Header) (name : List ℕ) → list_any (λ g. same_header g h) hs ≡ true → kind_among hs name ≡ or_else (kind_among hs name) (kind_in h name)
kind_among-there [] h name e = cc
kind_among-there (g ∷ hs) h name e = by (same_header g h) refl (kind_among-there hs h name)
  where
    by : (b : Bool) → same_header g h ≡ b → (list_any (λ f. same_header f h) hs ≡ true → kind_among hs name ≡ or_else (kind_among hs name) (kind_in h name)) → kind_among (g ∷ hs) name ≡ or_else (kind_among (g ∷ hs) name) (kind_in h name)
    by true s more = sym (ap (λ f. or_else (or_else (kind_in g name) (kind_among hs name)) (kind_in f name)) (sym (same-header g h s)) ∙ or_else-twice (kind_in g name) (kind_among hs name))
    by false s more = ap (or_else (kind_in g name)) (more (ap (λ b. b || list_any (λ f. same_header f h) hs) (sym s) ∙ e)) ∙ sym (or_else-assoc (kind_in g name) (kind_among hs name) (kind_in h name))

kind_among-with : (hs : List Header) (h : Header) (name : List ℕ) → kind_among (with_header hs h) name ≡ or_else (kind_among hs name) (kind_in h name)
kind_among-with hs h name = by (list_any (λ g. same_header g h) hs) refl
  where
    by : (b : Bool) → list_any (λ g. same_header g h) hs ≡ b → kind_among (cond b hs (hs ++ h ∷ [])) name ≡ or_else (kind_among hs name) (kind_in h name)
    by true e = kind_among-there hs h name e
    by false e = kind_among-append hs h name

pub kinds-behind : (hs : List Header) (ls : List (Line Place)) (name : List ℕ) → kind_among (headers_of hs ls) name ≡ or_else (kind_among hs name) (first_by (kind_by name) ls)
kinds-behind hs [] name = sym (or_else-none (kind_among hs name))
kinds-behind hs (standard h ∷ ls) name =
    kinds-behind (with_header hs h) ls name
    ∙ ap (λ o. or_else o (first_by (kind_by name) ls)) (kind_among-with hs h name)
    ∙ or_else-assoc (kind_among hs name) (kind_in h name) (first_by (kind_by name) ls)
kinds-behind hs (text ts ∷ ls) name = kinds-behind hs ls name
kinds-behind hs (quoted ∷ ls) name = kinds-behind hs ls name
kinds-behind hs (define p n body ∷ ls) name = kinds-behind hs ls name
kinds-behind hs (conditional p wanted n ∷ ls) name = kinds-behind hs ls name
kinds-behind hs (otherwise p ∷ ls) name = kinds-behind hs ls name
kinds-behind hs (endif p ∷ ls) name = kinds-behind hs ls name
kinds-behind hs (unbalanced p ∷ ls) name = kinds-behind hs ls name
kinds-behind hs (refused p kind ∷ ls) name = kinds-behind hs ls name

-- ---- macros

-- a macro's body, of whose tokens it is left open whether they are joined
abbrev pub open_body : List (Seen Place) → List (Seen Place)
open_body ts = map unjoin ts

abbrev pub open_macro : NamedBody Place → NamedBody Place
open_macro m = (m.0, open_body m.1)

abbrev pub macros_of : List (Line Place) → List (NamedBody Place)
macros_of before = map open_macro (each_behind macros_at [] before)

is-some : (o : Option (List (Seen Place))) → is_some (option_map open_body o) ≡ is_some o
is-some None = refl
is-some (Some body) = refl

is_macro-more : (name : List ℕ) (before : List (Line Place)) (l : Line Place) → is_macro name before ≡ false → body_by name l ≡ None → is_macro name (before ++ l ∷ []) ≡ false
is_macro-more name before l h e = ap is_some (first_by-append (body_by name) before (l ∷ []) ∙ ap (λ o. or_else (body_of name before) (or_else o None)) e) ∙ none (body_of name before) h
  where
    none : (o : Option (List (Seen Place))) → is_some o ≡ false → is_some (or_else o None) ≡ false
    none None e = refl
    none (Some body) e = cc

-- a look-up among macros that are new behind lines that do not define the name
abbrev Looks : List ℕ → List (Line Place) → List (Line Place) → Type 0
Looks name before ls = is_macro name before ≡ false → look name (map open_macro (each_behind macros_at before ls)) ≡ option_map open_body (body_of name ls)

-- a line that defines nothing
looks-past : (name : List ℕ) (before : List (Line Place)) (l : Line Place) (ls : List (Line Place)) → macros_at before l ≡ [] → body_by name l ≡ None → Looks name (before ++ l ∷ []) ls → Looks name before (l ∷ ls)
looks-past name before l ls m b more h =
    ap (λ ms. look name (map open_macro (ms ++ each_behind macros_at (before ++ l ∷ []) ls))) m
    ∙ more (is_macro-more name before l h b)
    ∙ sym (ap (λ o. option_map open_body (or_else o (body_of name ls))) b)

bytes-same : (xs ys : List ℕ) → bytes_eq xs ys ≡ bytes_eq ys xs
bytes-same xs ys = let d = bytes_eq-Decides ys xs in same_from_decides (bytes_eq xs ys) (bytes_eq ys xs) (bytes_eq-Decides xs ys) (λ e. sym (d.0 e), λ e. d.1 (sym e))

looks-define : (name : List ℕ) (before : List (Line Place)) (p : Place) (n : List ℕ) (body : List (Seen Place)) (ls : List (Line Place)) → Looks name (before ++ define p n body ∷ []) ls → Looks name before (define p n body ∷ ls)
looks-define name before p n body ls more h = by (bytes_eq n name) refl
  where
    rest : List (NamedBody Place)
    rest = each_behind macros_at (before ++ define p n body ∷ []) ls

    past : (c : Bool) → is_macro n before ≡ c → bytes_eq n name ≡ false → look name (map open_macro (each_behind macros_at before (define p n body ∷ ls))) ≡ look name (map open_macro rest)
    past true d e = ap (λ k. look name (map open_macro (cond k [] ((n, body) ∷ []) ++ rest))) d
    past false d e =
        ap (λ k. look name (map open_macro (cond k [] ((n, body) ∷ []) ++ rest))) d
        ∙ ap (λ k. cond k (Some (open_body body)) (look name (map open_macro rest))) (bytes-same name n ∙ e)

    by : (b : Bool) → bytes_eq n name ≡ b → look name (map open_macro (each_behind macros_at before (define p n body ∷ ls))) ≡ option_map open_body (body_of name (define p n body ∷ ls))
    by true e =
        ap (λ k. look name (map open_macro (cond k [] ((n, body) ∷ []) ++ rest))) (ap (λ w. is_macro w before) ((bytes_eq-Decides n name).0 e) ∙ h)
        ∙ ap (λ k. cond k (Some (open_body body)) (look name (map open_macro rest))) (bytes-same name n ∙ e)
        ∙ sym (ap (λ k. option_map open_body (or_else (cond k (Some body) None) (body_of name ls))) e)
    by false e =
        past (is_macro n before) refl e
        ∙ more (is_macro-more name before (define p n body) h (ap (λ k. cond k (Some body) None) e))
        ∙ sym (ap (λ k. option_map open_body (or_else (cond k (Some body) None) (body_of name ls))) e)

pub look-behind : (name : List ℕ) (before ls : List (Line Place)) → Looks name before ls
look-behind name before [] h = refl
look-behind name before (text ts ∷ ls) h = looks-past name before (text ts) ls refl refl (look-behind name (before ++ text ts ∷ []) ls) h
look-behind name before (standard k ∷ ls) h = looks-past name before (standard k) ls refl refl (look-behind name (before ++ standard k ∷ []) ls) h
look-behind name before (quoted ∷ ls) h = looks-past name before quoted ls refl refl (look-behind name (before ++ quoted ∷ []) ls) h
look-behind name before (define p n body ∷ ls) h = looks-define name before p n body ls (look-behind name (before ++ define p n body ∷ []) ls) h
look-behind name before (conditional p wanted n ∷ ls) h = looks-past name before (conditional p wanted n) ls refl refl (look-behind name (before ++ conditional p wanted n ∷ []) ls) h
look-behind name before (otherwise p ∷ ls) h = looks-past name before (otherwise p) ls refl refl (look-behind name (before ++ otherwise p ∷ []) ls) h
look-behind name before (endif p ∷ ls) h = looks-past name before (endif p) ls refl refl (look-behind name (before ++ endif p ∷ []) ls) h
look-behind name before (unbalanced p ∷ ls) h = looks-past name before (unbalanced p) ls refl refl (look-behind name (before ++ unbalanced p ∷ []) ls) h
look-behind name before (refused p kind ∷ ls) h = looks-past name before (refused p kind) ls refl refl (look-behind name (before ++ refused p kind ∷ []) ls) h

pub look-macros : (name : List ℕ) (before : List (Line Place)) → look name (macros_of before) ≡ option_map open_body (body_of name before)
look-macros name before = look-behind name [] before refl

pub is_macro-look : (name : List ℕ) (before : List (Line Place)) → is_some (look name (macros_of before)) ≡ is_macro name before
is_macro-look name before = ap is_some (look-macros name before) ∙ is-some (body_of name before)

-- ---- bodies

pub open-kept : (ts : List (Seen Place)) → map token_of (open_body ts) ≡ map token_of ts
open-kept [] = refl
open-kept (t ∷ ts) = ap (λ r. token_of t ∷ r) (open-kept ts)

pub same_body-open : (xs ys : List (Seen Place)) → same_body (open_body xs) (open_body ys) ≡ same_body xs ys
same_body-open [] [] = refl
same_body-open [] (y ∷ ys) = refl
same_body-open (x ∷ xs) [] = refl
same_body-open (x ∷ xs) (y ∷ ys) = ap (λ r. same_kind x.kind y.kind && r) (same_body-open xs ys)

rest-open : (t : Seen Place) (bs : List (Seen Place)) → map token_of (map (λ c. put_for t false c.kind) bs) ≡ map token_of (map (λ c. put_for (unjoin t) false c.kind) (open_body bs))
rest-open t [] = refl
rest-open t (b ∷ bs) = ap (λ r. token_of (put_for t false b.kind) ∷ r) (rest-open t bs)

body-open : (t : Seen Place) (body : List (Seen Place)) → map token_of (body_for t body) ≡ map token_of (body_for (unjoin t) (open_body body))
body-open t [] = refl
body-open t (b ∷ bs) = ap (λ r. token_of (put_for t t.fresh b.kind) ∷ r) (rest-open t bs)

by-open : (t : Seen Place) (o : Option (List (Seen Place))) (k : Option TokenKind) → map token_of (replaced_by t o k) ≡ map token_of (replaced_by (unjoin t) (option_map open_body o) k)
by-open t None None = refl
by-open t None (Some k) = refl
by-open t (Some body) k = body-open t body

word-open : (before : List (Line Place)) (t : Seen Place) (o : Option (List ℕ)) → map token_of (replaced_word before t o) ≡ map token_of (written_word (macros_of before) (headers_of [] before) (unjoin t) o)
word-open before t None = refl
word-open before t (Some name) =
    by-open t (body_of name before) (first_by (kind_by name) before)
    ∙ (λ i. map token_of (replaced_by (unjoin t) (sym (look-macros name before) i) (sym (kinds-behind [] before name) i)))

-- what is written for tokens behind lines
pub written-behind : (before : List (Line Place)) (ts : List (Seen Place)) → map token_of (replaced before ts) ≡ written (macros_of before) (headers_of [] before) (open_body ts)
written-behind before [] = refl
written-behind before (t ∷ ts) =
    map-append token_of (replaced_word before t (word_of t.kind)) (replaced before ts)
    ∙ (λ i. word-open before t (word_of t.kind) i ++ written-behind before ts i)

pub macros-kept : (ms : List (NamedBody Place)) → map macro_of (map open_macro ms) ≡ map macro_of ms
macros-kept [] = refl
macros-kept (m ∷ ms) = (λ i. record { name = m.0; body = open-kept m.1 i } ∷ macros-kept ms i)
