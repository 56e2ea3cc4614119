-- Line by line: what is left behind each line is what the definition leaves of the lines up to it.
use Rattle.std.proofs.Common.{◌≡◌, ℕ, Bool, true, false, cond, List, [], ◌∷◌, ◌++◌, map, Option, Some, None, option_map, is_some, Result, Ok, Err, refl, sym, ap, ◌∙◌, append_assoc, append-nil}
use Rattle.std.proofs.lemmas.List.{map-append}
use Rattle.c_text.specs.declared.place.Place.{Place}
use Rattle.c_text.specs.declared.token.Token.{Token}
use Rattle.c_text.specs.declared.preprocessed.Preprocessed.{Preprocessed}
use Rattle.c_text.specs.declared.refusal.CKind.TheVariants.{Redefined}
use Rattle.c_text.specs.declared.refusal.CFault.{CFault}
use Rattle.c_text.specs.declared.refusal.CFault.TheVariants.{Fault, Memory}
use Rattle.c_text.specs.declared.preprocessed.Macro.{Macro}
use Rattle.c_text.specs.Refusal.{Refusal, Gives}
use Rattle.c_text.specs.SeenToken.{Seen, seen_behind, token_of}
use Rattle.c_text.specs.Directive.{Line, text, standard, quoted, define, conditional, otherwise, endif, unbalanced, refused, lines_of}
use Rattle.c_text.specs.MacroDefinition.{is_macro, body_of, same_body}
use Rattle.cg_out.specs.Words.{◌>>=◌, same_bool}
use Rattle.c_text.specs.Conditional.{balanced, is_read, left_by, reads_behind, read_lines}
use Rattle.c_text.specs.Preprocessing.{header_lines, each_behind, Fault as PlacedFault, unless_same, faults_at, NamedBody, macros_at, tokens_at, unless_fault, macro_of, placed_left, preprocessed}
use Rattle.c_text.proofs.Group.{each_behind-append}
use Rattle.c_pre.specs.Shown.{unjoined, told, cut}
use Rattle.c_pre.specs.Merging.{merged}
use Rattle.c_pre.specs.Run.{Progress, nothing_left, with_header, written, redefined, defined, taken, passed, reads_then, ran, ran_header}
use Rattle.c_pre.proofs.Cut.{lines-told}
use Rattle.c_pre.proofs.Alike.{merged-alike}
use Rattle.c_pre.proofs.Unjoined.{balanced-unjoined}
use Rattle.c_pre.proofs.Names.{headers_of, headers_of-append, open_body, open_macro, macros_of, look-macros, is_macro-look, same_body-open, written-behind, macros-kept}

-- ---- what is left behind lines

abbrev pub tokens_behind : List (Line Place) → List Token
tokens_behind before = map token_of (each_behind tokens_at [] before)

abbrev pub progress_of : List (Line Place) → Progress
progress_of before = record { tokens = tokens_behind before; macros = macros_of before; headers = headers_of [] before }

abbrev pub outcome : List (PlacedFault Place) → Progress → Result Progress Refusal
outcome [] s = Ok s
outcome (f ∷ fs) s = Err (record { kind = f.0; place = f.1 })

-- the first fault of more lines, or else what is left behind them
abbrev pub outcome_of : List (Line Place) → List (Line Place) → Result Progress Refusal
outcome_of before more = outcome (each_behind faults_at before more) (progress_of (before ++ more))

-- ---- one line

tokens-one : (before : List (Line Place)) (l : Line Place) → tokens_behind (before ++ l ∷ []) ≡ tokens_behind before ++ map token_of (tokens_at before l)
tokens-one before l =
    ap (map token_of) (each_behind-append tokens_at [] before (l ∷ []) ∙ ap (λ ts. each_behind tokens_at [] before ++ ts) (append-nil (tokens_at before l)))
    ∙ map-append token_of (each_behind tokens_at [] before) (tokens_at before l)

macros-one : (before : List (Line Place)) (l : Line Place) → macros_of (before ++ l ∷ []) ≡ macros_of before ++ map open_macro (macros_at before l)
macros-one before l =
    ap (map open_macro) (each_behind-append macros_at [] before (l ∷ []) ∙ ap (λ ms. each_behind macros_at [] before ++ ms) (append-nil (macros_at before l)))
    ∙ map-append open_macro (each_behind macros_at [] before) (macros_at before l)

-- behind a line that leaves these tokens and macros, and these headers
progress-one : (before : List (Line Place)) (l : Line Place) (ts : List Token) (ms : List (NamedBody Place)) (hs : List _)
    → map token_of (tokens_at before l) ≡ ts → map open_macro (macros_at before l) ≡ ms → headers_of (headers_of [] before) (l ∷ []) ≡ hs
    → progress_of (before ++ l ∷ []) ≡ record { tokens = tokens_behind before ++ ts; macros = macros_of before ++ ms; headers = hs }
progress-one before l ts ms hs t m h = (λ i. record {
  tokens = (tokens-one before l ∙ ap (λ r. tokens_behind before ++ r) t) i;
  macros = (macros-one before l ∙ ap (λ r. macros_of before ++ r) m) i;
  headers = (headers_of-append [] before (l ∷ []) ∙ h) i;
})

-- behind a line that leaves nothing but maybe tokens
same-macros : (before : List (Line Place)) (ts : List Token) → record { tokens = ts; macros = macros_of before ++ []; headers = headers_of [] before } ≡ record (progress_of before) { tokens = ts }
same-macros before ts = (λ i. record { tokens = ts; macros = append-nil (macros_of before) i; headers = headers_of [] before })

taken-text : (before : List (Line Place)) (ts : List (Seen Place)) → taken (progress_of before) (unjoined (text ts)) ≡ outcome_of before (text ts ∷ [])
taken-text before ts = ap (λ s. Ok s) (sym (
    progress-one before (text ts) (written (macros_of before) (headers_of [] before) (open_body ts)) [] (headers_of [] before) (written-behind before ts) refl refl
    ∙ same-macros before (tokens_behind before ++ written (macros_of before) (headers_of [] before) (open_body ts))))

taken-standard : (before : List (Line Place)) (h : _) → taken (progress_of before) (standard h) ≡ outcome_of before (standard h ∷ [])
taken-standard before h = ap (λ s. Ok s) (sym (
    progress-one before (standard h) [] [] (with_header (headers_of [] before) h) refl refl refl
    ∙ (λ i. record { tokens = append-nil (tokens_behind before) i; macros = append-nil (macros_of before) i; headers = with_header (headers_of [] before) h })))

-- where a definition adds these macros
define-one : (before : List (Line Place)) (p : Place) (name : List ℕ) (body : List (Seen Place)) (b : Bool) → is_macro name before ≡ b
    → progress_of (before ++ define p name body ∷ []) ≡ record (progress_of before) { macros = macros_of before ++ cond b [] ((name, open_body body) ∷ []) }
define-one before p name body b e =
    progress-one before (define p name body) [] (cond b [] ((name, open_body body) ∷ [])) (headers_of [] before) refl (ap (λ c. map open_macro (cond c [] ((name, body) ∷ []))) e ∙ opened b) refl
    ∙ (λ i. record { tokens = append-nil (tokens_behind before) i; macros = macros_of before ++ cond b [] ((name, open_body body) ∷ []); headers = headers_of [] before })
  where
    opened : (c : Bool) → map open_macro (cond c [] ((name, body) ∷ [])) ≡ cond c [] ((name, open_body body) ∷ [])
    opened true = refl
    opened false = refl

taken-define : (before : List (Line Place)) (p : Place) (name : List ℕ) (body : List (Seen Place)) → taken (progress_of before) (unjoined (define p name body)) ≡ outcome_of before (define p name body ∷ [])
taken-define before p name body =
    ap (defined (progress_of before) p name (open_body body)) (look-macros name before)
    ∙ by (body_of name before) refl
    ∙ ap (λ fs. outcome fs (progress_of (before ++ define p name body ∷ []))) (sym (append-nil (unless_same p (body_of name before) body)))
  where
    redone : (c : Bool) → redefined (progress_of before) p c ≡ outcome (cond c [] ((Redefined, p) ∷ [])) (progress_of before)
    redone true = refl
    redone false = refl

    by : (o : Option (List (Seen Place))) → body_of name before ≡ o → defined (progress_of before) p name (open_body body) (option_map open_body (body_of name before)) ≡ outcome (unless_same p (body_of name before) body) (progress_of (before ++ define p name body ∷ []))
    by None e =
        ap (λ o. defined (progress_of before) p name (open_body body) (option_map open_body o)) e
        ∙ ap (λ s. Ok s) (sym (define-one before p name body false (ap is_some e)))
        ∙ sym (ap (λ o. outcome (unless_same p o body) (progress_of (before ++ define p name body ∷ []))) e)
    by (Some first) e =
        ap (λ o. defined (progress_of before) p name (open_body body) (option_map open_body o)) e
        ∙ ap (redefined (progress_of before) p) (same_body-open first body)
        ∙ redone (same_body first body)
        ∙ ap (outcome (cond (same_body first body) [] ((Redefined, p) ∷ []))) (sym (define-one before p name body true (ap is_some e) ∙ (λ i. record { tokens = tokens_behind before; macros = append-nil (macros_of before) i; headers = headers_of [] before })))
        ∙ sym (ap (λ o. outcome (unless_same p o body) (progress_of (before ++ define p name body ∷ []))) e)

-- ---- lines of a file

nothing-more : (before : List (Line Place)) → Ok (progress_of before) ≡ outcome_of before []
nothing-more before = ap (λ b. Ok (progress_of b)) (sym (append-nil before))

-- what the code does at a quoted include is what the definition leaves there
abbrev pub Includes : (Progress → Result Progress Refusal) → (List (Line Place) → List (Line Place)) → Type 0
Includes q h = (before : List (Line Place)) → q (progress_of before) ≡ outcome_of before (h before)

if-read : (before new : List (Line Place)) (r : Bool) (s : Result Progress Refusal) → s ≡ outcome_of before new → cond r s (Ok (progress_of before)) ≡ outcome_of before (cond r new [])
if-read before new true s e = e
if-read before new false s e = nothing-more before

passed-is : (q : Progress → Result Progress Refusal) (h : List (Line Place) → List (Line Place)) → Includes q h → (reads : List Bool) (before : List (Line Place)) (l : Line Place) → passed q reads (progress_of before) (unjoined l) ≡ outcome_of before (left_by h reads before l)
passed-is q h inc reads before (text ts) = if-read before (text ts ∷ []) (is_read reads) (taken (progress_of before) (unjoined (text ts))) (taken-text before ts)
passed-is q h inc reads before (standard k) = if-read before (standard k ∷ []) (is_read reads) (taken (progress_of before) (standard k)) (taken-standard before k)
passed-is q h inc reads before quoted = if-read before (h before) (is_read reads) (q (progress_of before)) (inc before)
passed-is q h inc reads before (define p name body) = if-read before (define p name body ∷ []) (is_read reads) (taken (progress_of before) (unjoined (define p name body))) (taken-define before p name body)
passed-is q h inc reads before (conditional p wanted name) = nothing-more before
passed-is q h inc reads before (otherwise p) = nothing-more before
passed-is q h inc reads before (endif p) = nothing-more before
passed-is q h inc reads before (unbalanced p) = refl
passed-is q h inc reads before (refused p kind) = if-read before (refused p kind ∷ []) (is_read reads) (taken (progress_of before) (refused p kind)) refl

reads-are : (reads : List Bool) (before : List (Line Place)) (l : Line Place) → reads_then reads (progress_of before) (unjoined l) ≡ reads_behind reads before l
reads-are reads before (text ts) = refl
reads-are reads before (standard k) = refl
reads-are reads before quoted = refl
reads-are reads before (define p name body) = refl
reads-are reads before (conditional p wanted name) = ap (λ b. same_bool wanted b ∷ reads) (is_macro-look name before)
reads-are [] before (otherwise p) = refl
reads-are (r ∷ rs) before (otherwise p) = refl
reads-are reads before (endif p) = refl
reads-are reads before (unbalanced p) = refl
reads-are reads before (refused p kind) = refl

-- one part behind another
joined : (xs ys : List (PlacedFault Place)) (s t : Progress) (go : Progress → Result Progress Refusal) → go s ≡ outcome ys t → (outcome xs s >>= go) ≡ outcome (xs ++ ys) t
joined [] ys s t go e = e
joined (x ∷ xs) ys s t go e = refl

pub ran-is : (q : Progress → Result Progress Refusal) (h : List (Line Place) → List (Line Place)) → Includes q h → (reads : List Bool) (before ls : List (Line Place)) → ran q reads (progress_of before) (map unjoined ls) ≡ outcome_of before (read_lines h reads before ls)
ran-is q h inc reads before [] = nothing-more before
ran-is q h inc reads before (l ∷ ls) =
    let new = left_by h reads before l in
    let then = reads_behind reads before l in
    let rest = read_lines h then (before ++ new) ls in
    (λ i. passed-is q h inc reads before l i >>= λ s. ran q (reads-are reads before l i) s (map unjoined ls))
    ∙ joined (each_behind faults_at before new) (each_behind faults_at (before ++ new) rest) (progress_of (before ++ new)) (progress_of ((before ++ new) ++ rest)) (λ s. ran q then s (map unjoined ls)) (ran-is q h inc then (before ++ new) ls)
    ∙ (λ i. outcome (sym (each_behind-append faults_at before new rest) i) (progress_of (append_assoc before new rest i)))

-- ---- both files

abbrev pub finished : Progress → Result Preprocessed Refusal
finished s = Ok (record { tokens = s.tokens; macros = map macro_of s.macros })

placed : (fs : List (PlacedFault Place)) (ls : List (Line Place)) → (outcome fs (progress_of ls) >>= finished) ≡ placed_left (unless_fault fs (each_behind tokens_at [] ls, each_behind macros_at [] ls))
placed [] ls = ap (λ ms. Ok (record { tokens = tokens_behind ls; macros = ms })) (macros-kept (each_behind macros_at [] ls))
placed (f ∷ fs) ls = refl

-- a file's lines in the code
abbrev pub file_lines : Option (List ℕ) → List Token → List (Line Place)
file_lines beside ts = balanced [] (map (told beside) (merged (cut ts)))

-- they leave what the definition's lines leave
file-lines : (beside : Option (List ℕ)) (ts : List Token) (q : Progress → Result Progress Refusal) (s : Progress) → ran q [] s (file_lines beside ts) ≡ ran q [] s (map unjoined (balanced [] (lines_of beside (seen_behind None ts))))
file-lines beside ts q s =
    (merged-alike beside (cut ts)).runs q [] [] s
    ∙ ap (ran q [] s) (ap (balanced []) (sym (lines-told beside ts)) ∙ balanced-unjoined [] (lines_of beside (seen_behind None ts)))

nothing-included : Includes (λ s. Ok s) (λ ls. [])
nothing-included before = nothing-more before

header-included : (header : List Token) → Includes (ran_header (file_lines None header)) (header_lines (seen_behind None header))
header-included header before =
    file-lines None header (λ s. Ok s) (progress_of before)
    ∙ ran-is (λ s. Ok s) (λ ls. []) nothing-included [] before (balanced [] (lines_of None (seen_behind None header)))

pub expanded : (header : List Token) (name : List ℕ) (source : List Token)
    → (ran (ran_header (file_lines None header)) [] nothing_left (file_lines (Some name) source) >>= finished) ≡ preprocessed header name source
expanded header name source =
    let hs = seen_behind None header in
    let ls = balanced [] (lines_of (Some name) (seen_behind None source)) in
    let all = read_lines (header_lines hs) [] [] ls in
    ap (λ r. r >>= finished) (file-lines (Some name) source (ran_header (file_lines None header)) nothing_left
    ∙ ran-is (ran_header (file_lines None header)) (header_lines hs) (header-included header) [] [] ls)
    ∙ placed (each_behind faults_at [] all) all

-- ---- what the code returns

run-is : (header : List Token) (name : List ℕ) (source : List Token) (hs ss : List (Line Place)) (start : Progress) (r : Result Progress Refusal)
    → hs ≡ file_lines None header → ss ≡ file_lines (Some name) source → start ≡ nothing_left → ran (ran_header hs) [] start ss ≡ r → (r >>= finished) ≡ preprocessed header name source
run-is header name source hs ss start r h s n e =
    ap (λ x. x >>= finished) (sym e ∙ (λ i. ran (ran_header (h i)) [] (n i) (s i))) ∙ expanded header name source

pub expanded-ok : (header : List Token) (name : List ℕ) (source : List Token) (hs ss : List (Line Place)) (start : Progress) (s : Progress) (ms : List Macro)
    → hs ≡ file_lines None header → ss ≡ file_lines (Some name) source → start ≡ nothing_left → ran (ran_header hs) [] start ss ≡ Ok s → ms ≡ map macro_of s.macros
    → preprocessed header name source ≡ Ok (record { tokens = s.tokens; macros = ms })
expanded-ok header name source hs ss start s ms h t n e m =
    sym (run-is header name source hs ss start (Ok s) h t n e) ∙ ap (λ xs. Ok (record { tokens = s.tokens; macros = xs })) (sym m)

pub expanded-err : (header : List Token) (name : List ℕ) (source : List Token) (hs ss : List (Line Place)) (start : Progress) (fault : CFault) (view : Unit {0} → Progress)
    → hs ≡ file_lines None header → ss ≡ file_lines (Some name) source → start ≡ nothing_left → Gives view (Err fault) (ran (ran_header hs) [] start ss)
    → Gives {X = Preprocessed} (λ x. x) (Err fault) (preprocessed header name source)
expanded-err header name source hs ss start (Fault kind place) view h t n e = sym (run-is header name source hs ss start (Err (record { kind = kind; place = place })) h t n e)
expanded-err header name source hs ss start Memory view h t n e = tt
