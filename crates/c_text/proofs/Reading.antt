-- The same lines are read whatever is kept of places.
use Rattle.std.proofs.Common.{◌≡◌, ℕ, zero, suc, Bool, true, false, cond, List, [], ◌∷◌, ◌++◌, map, bytes_eq, Option, Some, None, is_some, option_map, refl, sym, ap, ◌∙◌}
use Rattle.std.proofs.lemmas.List.{map-append}
use Rattle.c_text.specs.SeenToken.{Seen, all_kept_by}
use Rattle.c_text.specs.Directive.{Line, text, standard, quoted, define, conditional, otherwise, endif, unbalanced, refused}
use Rattle.c_text.specs.MacroDefinition.{first_by, body_by, body_of, is_macro}
use Rattle.c_text.specs.Conditional.{is_ended, if_ended, balanced, is_read, left_by, reads_behind, read_lines}
use Rattle.c_text.proofs.Places.{line_by}
use Rattle.cg_out.proofs.WordLaws.{or_else-map}

-- ---- the first of some lines

module _ {P Q : Type 0} (f : P → Q) where
  pub first_by-by : {X Y : Type 0} (g : X → Y) (a : Line P → Option X) (b : Line Q → Option Y) → ((l : Line P) → b (line_by f l) ≡ option_map g (a l)) → (ls : List (Line P)) → first_by b (map (line_by f) ls) ≡ option_map g (first_by a ls)
  first_by-by g a b e [] = refl
  first_by-by g a b e (l ∷ ls) = rw (e l, first_by-by g a b e ls) (or_else-map g (a l) (first_by a ls))

  given-by : (c : Bool) (body : List (Seen P)) → cond c (Some (all_kept_by f body)) None ≡ option_map (all_kept_by f) (cond c (Some body) None)
  given-by true body = refl
  given-by false body = refl

  body_by-by : (name : List ℕ) (l : Line P) → body_by name (line_by f l) ≡ option_map (all_kept_by f) (body_by name l)
  body_by-by name (text ts) = refl
  body_by-by name (standard h) = refl
  body_by-by name quoted = refl
  body_by-by name (define p n body) = given-by (bytes_eq n name) body
  body_by-by name (conditional p wanted n) = refl
  body_by-by name (otherwise p) = refl
  body_by-by name (endif p) = refl
  body_by-by name (unbalanced p) = refl
  body_by-by name (refused p k) = refl

  pub body_of-by : (name : List ℕ) (ls : List (Line P)) → body_of name (map (line_by f) ls) ≡ option_map (all_kept_by f) (body_of name ls)
  body_of-by name ls = first_by-by (all_kept_by f) (body_by name) (body_by name) (body_by-by name) ls

  still-some : (o : Option (List (Seen P))) → is_some (option_map (all_kept_by f) o) ≡ is_some o
  still-some None = refl
  still-some (Some x) = refl

  pub is_macro-by : (name : List ℕ) (ls : List (Line P)) → is_macro name (map (line_by f) ls) ≡ is_macro name ls
  is_macro-by name ls = ap (λ o. is_some o) (body_of-by name ls) ∙ still-some (body_of name ls)

  -- ---- whole conditionals

  is_ended-by : (depth : ℕ) (ls : List (Line P)) → is_ended depth (map (line_by f) ls) ≡ is_ended depth ls
  is_ended-by depth [] = refl
  is_ended-by depth (text ts ∷ ls) = is_ended-by depth ls
  is_ended-by depth (standard h ∷ ls) = is_ended-by depth ls
  is_ended-by depth (quoted ∷ ls) = is_ended-by depth ls
  is_ended-by depth (define p n body ∷ ls) = is_ended-by depth ls
  is_ended-by depth (conditional p wanted n ∷ ls) = is_ended-by (suc depth) ls
  is_ended-by depth (otherwise p ∷ ls) = is_ended-by depth ls
  is_ended-by zero (endif p ∷ ls) = refl
  is_ended-by (suc depth) (endif p ∷ ls) = is_ended-by depth ls
  is_ended-by depth (unbalanced p ∷ ls) = is_ended-by depth ls
  is_ended-by depth (refused p k ∷ ls) = is_ended-by depth ls

  if_ended-by : (r : Bool) (l : Line P) (p : P) → if_ended r (line_by f l) (f p) ≡ line_by f (if_ended r l p)
  if_ended-by true l p = refl
  if_ended-by false l p = refl

  pub balanced-by : (elses : List Bool) (ls : List (Line P)) → balanced elses (map (line_by f) ls) ≡ map (line_by f) (balanced elses ls)
  balanced-by elses [] = refl
  balanced-by elses (text ts ∷ ls) = ap (λ r. text (all_kept_by f ts) ∷ r) (balanced-by elses ls)
  balanced-by elses (standard h ∷ ls) = ap (λ r. standard h ∷ r) (balanced-by elses ls)
  balanced-by elses (quoted ∷ ls) = ap (λ r. quoted ∷ r) (balanced-by elses ls)
  balanced-by elses (define p n body ∷ ls) = ap (λ r. define (f p) n (all_kept_by f body) ∷ r) (balanced-by elses ls)
  balanced-by elses (conditional p wanted n ∷ ls) = rw (is_ended-by 0 ls, if_ended-by (is_ended 0 ls) (conditional p wanted n) p, balanced-by (false ∷ elses) ls) refl
  balanced-by [] (otherwise p ∷ ls) = ap (λ r. unbalanced (f p) ∷ r) (balanced-by [] ls)
  balanced-by (true ∷ es) (otherwise p ∷ ls) = ap (λ r. unbalanced (f p) ∷ r) (balanced-by (true ∷ es) ls)
  balanced-by (false ∷ es) (otherwise p ∷ ls) = ap (λ r. otherwise (f p) ∷ r) (balanced-by (true ∷ es) ls)
  balanced-by [] (endif p ∷ ls) = ap (λ r. unbalanced (f p) ∷ r) (balanced-by [] ls)
  balanced-by (e ∷ es) (endif p ∷ ls) = ap (λ r. endif (f p) ∷ r) (balanced-by es ls)
  balanced-by elses (unbalanced p ∷ ls) = ap (λ r. unbalanced (f p) ∷ r) (balanced-by elses ls)
  balanced-by elses (refused p k ∷ ls) = ap (λ r. refused (f p) k ∷ r) (balanced-by elses ls)

  -- ---- lines that are read

  kept-if : (c : Bool) (ls : List (Line P)) → cond c (map (line_by f) ls) [] ≡ map (line_by f) (cond c ls [])
  kept-if true ls = refl
  kept-if false ls = refl

  left_by-by : (h : List (Line P) → List (Line P)) (k : List (Line Q) → List (Line Q)) → ((ls : List (Line P)) → k (map (line_by f) ls) ≡ map (line_by f) (h ls)) → (reads : List Bool) (before : List (Line P)) (l : Line P)
      → left_by k reads (map (line_by f) before) (line_by f l) ≡ map (line_by f) (left_by h reads before l)
  left_by-by h k e reads before (text ts) = kept-if (is_read reads) (text ts ∷ [])
  left_by-by h k e reads before (standard s) = kept-if (is_read reads) (standard s ∷ [])
  left_by-by h k e reads before quoted = rw (e before) (kept-if (is_read reads) (h before))
  left_by-by h k e reads before (define p n body) = kept-if (is_read reads) (define p n body ∷ [])
  left_by-by h k e reads before (conditional p wanted n) = refl
  left_by-by h k e reads before (otherwise p) = refl
  left_by-by h k e reads before (endif p) = refl
  left_by-by h k e reads before (unbalanced p) = refl
  left_by-by h k e reads before (refused p c) = kept-if (is_read reads) (refused p c ∷ [])

  reads_behind-by : (reads : List Bool) (before : List (Line P)) (l : Line P) → reads_behind reads (map (line_by f) before) (line_by f l) ≡ reads_behind reads before l
  reads_behind-by reads before (text ts) = refl
  reads_behind-by reads before (standard s) = refl
  reads_behind-by reads before quoted = refl
  reads_behind-by reads before (define p n body) = refl
  reads_behind-by reads before (conditional p wanted n) = rw (is_macro-by n before) refl
  reads_behind-by [] before (otherwise p) = refl
  reads_behind-by (r ∷ rs) before (otherwise p) = refl
  reads_behind-by reads before (endif p) = refl
  reads_behind-by reads before (unbalanced p) = refl
  reads_behind-by reads before (refused p c) = refl

  pub read_lines-by : (h : List (Line P) → List (Line P)) (k : List (Line Q) → List (Line Q)) → ((ls : List (Line P)) → k (map (line_by f) ls) ≡ map (line_by f) (h ls)) → (reads : List Bool) (before ls : List (Line P))
      → read_lines k reads (map (line_by f) before) (map (line_by f) ls) ≡ map (line_by f) (read_lines h reads before ls)
  read_lines-by h k e reads before [] = refl
  read_lines-by h k e reads before (l ∷ ls) =
      let new = left_by h reads before l in
      let behind = reads_behind reads before l in
      rw (left_by-by h k e reads before l, reads_behind-by reads before l, ← map-append (line_by f) before new, read_lines-by h k e behind (before ++ new) ls)
      (sym (map-append (line_by f) new (read_lines h behind (before ++ new) ls)))
