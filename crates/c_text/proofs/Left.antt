-- What preprocessing leaves does not depend on places, but for the places in it.
use Rattle.std.proofs.Common.{◌≡◌, ℕ, Bool, true, false, cond, ◌&&◌, List, [], ◌∷◌, ◌++◌, map, Option, Some, None, option_map, Result, Ok, Err, refl, sym, ap, ◌∙◌}
use Rattle.std.proofs.lemmas.List.{map-append}
use Rattle.c_text.specs.declared.token.Token.{Token}
use Rattle.c_text.specs.declared.token.TokenKind.{TokenKind}
use Rattle.c_text.specs.declared.place.Place.{Place}
use Rattle.c_text.specs.declared.refusal.CKind.TheVariants.{Redefined}
use Rattle.c_text.specs.Tokens.{tokens}
use Rattle.c_text.specs.BareTokens.{ReadsAs}
use Rattle.c_text.specs.SeenToken.{Seen, Bare, bares, seen_behind, kept_by, all_kept_by, token_of}
use Rattle.c_text.specs.Directive.{Line, text, standard, quoted, define, conditional, otherwise, endif, unbalanced, refused, word_of, lines_of}
use Rattle.c_text.specs.MacroDefinition.{first_by, body_of, is_macro, same_kind, same_body}
use Rattle.c_text.specs.Conditional.{balanced}
use Rattle.c_text.specs.Preprocessing.{header_lines, source_lines, each_behind, Fault, unless_same, faults_at, NamedBody, macros_at, put_for, body_for, kind_by, replaced_by, replaced_word, replaced, tokens_at, Left, unless_fault, left_of, macro_of, placed_left, preprocessed, preprocessed_of, preprocessed_texts}
use Rattle.c_text.specs.BarePreprocessing.{token_kinds, macro_kinds, bare_preprocessed, seen_kinds, named_kinds, bare_left, preprocessed_bare}
use Rattle.c_text.proofs.Places.{line_by, lines_of-by}
use Rattle.c_text.proofs.Reading.{body_of-by, is_macro-by, balanced-by, read_lines-by}

module _ {P Q : Type 0} (f : P → Q) where
  -- ---- the lines

  header_lines-by : (header : List (Seen P)) (before : List (Line P)) → header_lines (all_kept_by f header) (map (line_by f) before) ≡ map (line_by f) (header_lines header before)
  header_lines-by header before =
      rw (lines_of-by f None header, balanced-by f [] (lines_of None header))
      (read_lines-by f (λ ls. []) (λ ls. []) (λ ls. refl) [] before (balanced [] (lines_of None header)))

  pub source_lines-by : (header : List (Seen P)) (name : List ℕ) (source : List (Seen P)) → source_lines (all_kept_by f header) name (all_kept_by f source) ≡ map (line_by f) (source_lines header name source)
  source_lines-by header name source =
      rw (lines_of-by f (Some name) source, balanced-by f [] (lines_of (Some name) source))
      (read_lines-by f (header_lines header) (header_lines (all_kept_by f header)) (header_lines-by header) [] [] (balanced [] (lines_of (Some name) source)))

  each_behind-by : {X Y : Type 0} (g : X → Y) (a : List (Line P) → Line P → List X) (b : List (Line Q) → Line Q → List Y) → ((before : List (Line P)) (l : Line P) → b (map (line_by f) before) (line_by f l) ≡ map g (a before l))
      → (before ls : List (Line P)) → each_behind b (map (line_by f) before) (map (line_by f) ls) ≡ map g (each_behind a before ls)
  each_behind-by g a b e before [] = refl
  each_behind-by g a b e before (l ∷ ls) =
      rw (e before l, ← map-append (line_by f) before (l ∷ []), each_behind-by g a b e (before ++ l ∷ []) ls)
      (sym (map-append g (a before l) (each_behind a (before ++ l ∷ []) ls)))

  -- ---- faults

  abbrev pub fault_by : Fault P → Fault Q
  fault_by x = (x.0, f x.1)

  same_body-by : (xs ys : List (Seen P)) → same_body (all_kept_by f xs) (all_kept_by f ys) ≡ same_body xs ys
  same_body-by [] [] = refl
  same_body-by [] (y ∷ ys) = refl
  same_body-by (x ∷ xs) [] = refl
  same_body-by (x ∷ xs) (y ∷ ys) = ap (λ r. same_kind x.kind y.kind && r) (same_body-by xs ys)

  unless-by : (c : Bool) (p : P) → cond c [] ((Redefined, f p) ∷ []) ≡ map fault_by (cond c [] ((Redefined, p) ∷ []))
  unless-by true p = refl
  unless-by false p = refl

  unless_same-by : (p : P) (o : Option (List (Seen P))) (body : List (Seen P)) → unless_same (f p) (option_map (all_kept_by f) o) (all_kept_by f body) ≡ map fault_by (unless_same p o body)
  unless_same-by p None body = refl
  unless_same-by p (Some first) body = rw (same_body-by first body) (unless-by (same_body first body) p)

  faults_at-by : (before : List (Line P)) (l : Line P) → faults_at (map (line_by f) before) (line_by f l) ≡ map fault_by (faults_at before l)
  faults_at-by before (text ts) = refl
  faults_at-by before (standard h) = refl
  faults_at-by before quoted = refl
  faults_at-by before (define p name body) = rw (body_of-by f name before) (unless_same-by p (body_of name before) body)
  faults_at-by before (conditional p wanted name) = refl
  faults_at-by before (otherwise p) = refl
  faults_at-by before (endif p) = refl
  faults_at-by before (unbalanced p) = refl
  faults_at-by before (refused p k) = refl

  -- ---- macros

  abbrev pub named_by : NamedBody P → NamedBody Q
  named_by m = (m.0, all_kept_by f m.1)

  once-by : (c : Bool) (name : List ℕ) (body : List (Seen P)) → cond c [] ((name, all_kept_by f body) ∷ []) ≡ map named_by (cond c [] ((name, body) ∷ []))
  once-by true name body = refl
  once-by false name body = refl

  macros_at-by : (before : List (Line P)) (l : Line P) → macros_at (map (line_by f) before) (line_by f l) ≡ map named_by (macros_at before l)
  macros_at-by before (text ts) = refl
  macros_at-by before (standard h) = refl
  macros_at-by before quoted = refl
  macros_at-by before (define p name body) = rw (is_macro-by f name before) (once-by (is_macro name before) name body)
  macros_at-by before (conditional p wanted name) = refl
  macros_at-by before (otherwise p) = refl
  macros_at-by before (endif p) = refl
  macros_at-by before (unbalanced p) = refl
  macros_at-by before (refused p k) = refl

  -- ---- replacement

  rest-by : (t : Seen P) (bs : List (Seen P)) → map (λ c. put_for (kept_by f t) false c.kind) (all_kept_by f bs) ≡ all_kept_by f (map (λ c. put_for t false c.kind) bs)
  rest-by t [] = refl
  rest-by t (b ∷ bs) = ap (λ r. put_for (kept_by f t) false b.kind ∷ r) (rest-by t bs)

  body_for-by : (t : Seen P) (body : List (Seen P)) → body_for (kept_by f t) (all_kept_by f body) ≡ all_kept_by f (body_for t body)
  body_for-by t [] = refl
  body_for-by t (b ∷ bs) = ap (λ r. put_for (kept_by f t) t.fresh b.kind ∷ r) (rest-by t bs)

  kind_by-by : (name : List ℕ) (l : Line P) → kind_by name (line_by f l) ≡ kind_by name l
  kind_by-by name (text ts) = refl
  kind_by-by name (standard h) = refl
  kind_by-by name quoted = refl
  kind_by-by name (define p n body) = refl
  kind_by-by name (conditional p wanted n) = refl
  kind_by-by name (otherwise p) = refl
  kind_by-by name (endif p) = refl
  kind_by-by name (unbalanced p) = refl
  kind_by-by name (refused p k) = refl

  first_kind-by : (name : List ℕ) (ls : List (Line P)) → first_by (kind_by name) (map (line_by f) ls) ≡ first_by (kind_by name) ls
  first_kind-by name [] = refl
  first_kind-by name (l ∷ ls) = rw (kind_by-by name l, first_kind-by name ls) refl

  replaced_by-by : (t : Seen P) (o : Option (List (Seen P))) (k : Option TokenKind) → replaced_by (kept_by f t) (option_map (all_kept_by f) o) k ≡ all_kept_by f (replaced_by t o k)
  replaced_by-by t (Some body) k = body_for-by t body
  replaced_by-by t None (Some k) = refl
  replaced_by-by t None None = refl

  replaced_word-by : (before : List (Line P)) (t : Seen P) (w : Option (List ℕ)) → replaced_word (map (line_by f) before) (kept_by f t) w ≡ all_kept_by f (replaced_word before t w)
  replaced_word-by before t None = refl
  replaced_word-by before t (Some name) = rw (body_of-by f name before, first_kind-by name before) (replaced_by-by t (body_of name before) (first_by (kind_by name) before))

  replaced-by : (before : List (Line P)) (ts : List (Seen P)) → replaced (map (line_by f) before) (all_kept_by f ts) ≡ all_kept_by f (replaced before ts)
  replaced-by before [] = refl
  replaced-by before (t ∷ ts) =
      rw (replaced_word-by before t (word_of t.kind), replaced-by before ts)
      (sym (map-append (kept_by f) (replaced_word before t (word_of t.kind)) (replaced before ts)))

  tokens_at-by : (before : List (Line P)) (l : Line P) → tokens_at (map (line_by f) before) (line_by f l) ≡ map (kept_by f) (tokens_at before l)
  tokens_at-by before (text ts) = replaced-by before ts
  tokens_at-by before (standard h) = refl
  tokens_at-by before quoted = refl
  tokens_at-by before (define p name body) = refl
  tokens_at-by before (conditional p wanted name) = refl
  tokens_at-by before (otherwise p) = refl
  tokens_at-by before (endif p) = refl
  tokens_at-by before (unbalanced p) = refl
  tokens_at-by before (refused p k) = refl

  -- ---- the whole

  abbrev pub result_by : Result (Left P) (Fault P) → Result (Left Q) (Fault Q)
  result_by (Ok left) = Ok (all_kept_by f left.0, map named_by left.1)
  result_by (Err x) = Err (fault_by x)

  unless_fault-by : (xs : List (Fault P)) (left : Left P) → unless_fault (map fault_by xs) (all_kept_by f left.0, map named_by left.1) ≡ result_by (unless_fault xs left)
  unless_fault-by [] left = refl
  unless_fault-by (x ∷ xs) left = refl

  pub left_of-by : (ls : List (Line P)) → left_of (map (line_by f) ls) ≡ result_by (left_of ls)
  left_of-by ls =
      rw (each_behind-by fault_by faults_at faults_at faults_at-by [] ls, each_behind-by (kept_by f) tokens_at tokens_at tokens_at-by [] ls, each_behind-by named_by macros_at macros_at macros_at-by [] ls)
      (unless_fault-by (each_behind faults_at [] ls) (each_behind tokens_at [] ls, each_behind macros_at [] ls))

  -- ---- kinds

  seen_kinds-by : (ts : List (Seen P)) → seen_kinds (all_kept_by f ts) ≡ seen_kinds ts
  seen_kinds-by [] = refl
  seen_kinds-by (t ∷ ts) = ap (λ r. t.kind ∷ r) (seen_kinds-by ts)

  macros_kinds-by : (ms : List (NamedBody P)) → map named_kinds (map named_by ms) ≡ map named_kinds ms
  macros_kinds-by [] = refl
  macros_kinds-by (m ∷ ms) = rw (seen_kinds-by m.1, macros_kinds-by ms) refl

  bare_left-by : (r : Result (Left P) (Fault P)) → bare_left (result_by r) ≡ bare_left r
  bare_left-by (Ok left) = rw (seen_kinds-by left.0, macros_kinds-by left.1) refl
  bare_left-by (Err x) = refl

  pub bare_left-source : (header : List (Seen P)) (name : List ℕ) (source : List (Seen P)) → bare_left (left_of (source_lines header name source)) ≡ bare_left (left_of (source_lines (all_kept_by f header) name (all_kept_by f source)))
  bare_left-source header name source =
      let ls = source_lines header name source in
      sym (ap (λ ms. bare_left (left_of ms)) (source_lines-by header name source) ∙ ap bare_left (left_of-by ls) ∙ bare_left-by (left_of ls))

-- ---- of tokens and of texts

placed_kinds : (ts : List (Seen Place)) → token_kinds (map token_of ts) ≡ seen_kinds ts
placed_kinds [] = refl
placed_kinds (t ∷ ts) = ap (λ r. t.kind ∷ r) (placed_kinds ts)

placed_macros : (ms : List (NamedBody Place)) → map macro_kinds (map macro_of ms) ≡ map named_kinds ms
placed_macros [] = refl
placed_macros (m ∷ ms) = rw (placed_kinds m.1, placed_macros ms) refl

placed-bare : (r : Result (Left Place) (Fault Place)) → bare_preprocessed (placed_left r) ≡ bare_left r
placed-bare (Ok left) = rw (placed_kinds left.0, placed_macros left.1) refl
placed-bare (Err x) = refl

-- what is left of tokens, but for places, is what is left of the tokens without their places
pub preprocessed-bare : (header : List Token) (name : List ℕ) (source : List Token) → bare_preprocessed (preprocessed header name source) ≡ preprocessed_bare (bares header) name (bares source)
preprocessed-bare header name source =
    placed-bare (left_of (source_lines (seen_behind None header) name (seen_behind None source)))
    ∙ bare_left-source (λ p. tt) (seen_behind None header) name (seen_behind None source)

-- the same of texts whose tokens are known but for places
pub texts-bare : (header name source : List ℕ) (hs ss : List Bare) → ReadsAs true header hs → ReadsAs false source ss → bare_preprocessed (preprocessed_texts header name source) ≡ preprocessed_bare hs name ss
texts-bare header name source hs ss h s =
    ap (λ r. bare_preprocessed (preprocessed_of name r (tokens false source))) h.read
    ∙ ap (λ r. bare_preprocessed (preprocessed_of name (Ok h.list) r)) s.read
    ∙ preprocessed-bare h.list name s.list
    ∙ ap (λ bs. preprocessed_bare bs name (bares s.list)) h.are
    ∙ ap (λ bs. preprocessed_bare hs name bs) s.are
