-- Lines that are read as a group (6.10.1).
use Rattle.std.proofs.Common.{◌≡◌, ℕ, Bool, true, false, cond, List, [], ◌∷◌, ◌++◌, Option, refl, sym, ap, ◌∙◌, append_assoc, append-nil}
use Rattle.c_text.specs.StandardHeader.{Header}
use Rattle.c_text.specs.SeenToken.{Seen}
use Rattle.c_text.specs.Directive.{begins_fresh, before_lines, lines, Line, text, standard, define}
use Rattle.cg_out.specs.Words.{or_else}
use Rattle.c_text.specs.MacroDefinition.{first_by}
use Rattle.c_text.specs.Conditional.{is_ended, balanced, is_read, left_by, reads_behind, read_lines}
use Rattle.c_text.specs.Preprocessing.{each_behind}
use Rattle.cg_out.proofs.WordLaws.{or_else-assoc}

-- ---- appended lists

pub first_by-append : {P X : Type 0} (g : Line P → Option X) (xs ys : List (Line P)) → first_by g (xs ++ ys) ≡ or_else (first_by g xs) (first_by g ys)
first_by-append g [] ys = refl
first_by-append g (x ∷ xs) ys = ap (or_else (g x)) (first_by-append g xs ys) ∙ sym (or_else-assoc (g x) (first_by g xs) (first_by g ys))

pub each_behind-append : {P X : Type 0} (g : List (Line P) → Line P → List X) (before xs ys : List (Line P)) → each_behind g before (xs ++ ys) ≡ each_behind g before xs ++ each_behind g (before ++ xs) ys
each_behind-append g before [] ys = ap (λ b. each_behind g b ys) (sym (append-nil before))
each_behind-append g before (x ∷ xs) ys =
    ap (λ r. g before x ++ r) (each_behind-append g (before ++ x ∷ []) xs ys
    ∙ ap (λ b. each_behind g (before ++ x ∷ []) xs ++ each_behind g b ys) (append_assoc before (x ∷ []) xs))
    ∙ sym (append_assoc (g before x) (each_behind g (before ++ x ∷ []) xs) (each_behind g (before ++ x ∷ xs) ys))

before_lines-append : {P : Type 0} (r : Bool) (t : Seen P) (u : Seen P) (us : List (Seen P)) (ms : List (List (Seen P))) → before_lines r t (lines (u ∷ us) ++ ms) ≡ before_lines r t (lines (u ∷ us)) ++ ms
before_lines-append true t u us ms = refl
before_lines-append false t u us ms = some (begins_fresh us) (lines us)
  where
    some : (s : Bool) (ls : List (List (Seen _))) → before_lines false t (before_lines s u ls ++ ms) ≡ before_lines false t (before_lines s u ls) ++ ms
    some true ls = refl
    some false [] = refl
    some false (l ∷ ls) = refl

-- a fresh token begins a line of its own
pub lines-append : {P : Type 0} (xs ys : List (Seen P)) → begins_fresh ys ≡ true → lines (xs ++ ys) ≡ lines xs ++ lines ys
lines-append [] ys e = refl
lines-append (t ∷ []) ys e = ap (λ r. before_lines r t (lines ys)) e
lines-append (t ∷ u ∷ us) ys e = ap (before_lines u.fresh t) (lines-append (u ∷ us) ys e) ∙ before_lines-append u.fresh t u us (lines ys)

-- ---- groups

-- the lines stand whole in a file, and where they are read they leave these lines
pub record IsGroup {P : Type 0} (ls : List (Line P)) (leaves : List (Line P) → List (Line P)) : Type 0 where
  pub whole : (elses : List Bool) (rest : List (Line P)) → balanced elses (ls ++ rest) ≡ ls ++ balanced elses rest
  pub closed : (depth : ℕ) (rest : List (Line P)) → is_ended depth (ls ++ rest) ≡ is_ended depth rest
  pub read : (h : List (Line P) → List (Line P)) (reads : List Bool) (before rest : List (Line P)) → is_read reads ≡ true
      → read_lines h reads before (ls ++ rest) ≡ leaves before ++ read_lines h reads (before ++ leaves before) rest

pub group-none : {P : Type 0} → IsGroup {P = P} [] (λ before. [])
group-none = record {
  whole = λ elses rest. refl;
  closed = λ depth rest. refl;
  read = λ h reads before rest e. ap (λ b. read_lines h reads b rest) (sym (append-nil before));
}

-- a line that is no conditional one and no quoted include
pub record IsPlain {P : Type 0} (l : Line P) : Type 0 where
  pub whole : (elses : List Bool) (rest : List (Line P)) → balanced elses (l ∷ rest) ≡ l ∷ balanced elses rest
  pub closed : (depth : ℕ) (rest : List (Line P)) → is_ended depth (l ∷ rest) ≡ is_ended depth rest
  pub left : (h : List (Line P) → List (Line P)) (reads : List Bool) (before : List (Line P)) → left_by h reads before l ≡ cond (is_read reads) (l ∷ []) []
  pub behind : (reads : List Bool) (before : List (Line P)) → reads_behind reads before l ≡ reads

pub plain-text : {P : Type 0} (ts : List (Seen P)) → IsPlain (text ts)
plain-text ts = record { whole = λ elses rest. refl; closed = λ depth rest. refl; left = λ h reads before. refl; behind = λ reads before. refl }

pub plain-standard : {P : Type 0} (h : Header) → IsPlain {P = P} (standard h)
plain-standard h = record { whole = λ elses rest. refl; closed = λ depth rest. refl; left = λ h reads before. refl; behind = λ reads before. refl }

pub plain-define : {P : Type 0} (p : P) (name : List ℕ) (body : List (Seen P)) → IsPlain (define p name body)
plain-define p name body = record { whole = λ elses rest. refl; closed = λ depth rest. refl; left = λ h reads before. refl; behind = λ reads before. refl }

one-line : {P : Type 0} (l : Line P) → IsPlain l → (h : List (Line P) → List (Line P)) (reads : List Bool) (before rest : List (Line P)) (r : Bool) → is_read reads ≡ r
    → read_lines h reads before (l ∷ rest) ≡ cond r (l ∷ []) [] ++ read_lines h reads (before ++ cond r (l ∷ []) []) rest
one-line l x h reads before rest r e =
    let e1 : left_by h reads before l ≡ cond r (l ∷ []) [] = x.left h reads before ∙ ap (λ s. cond s (l ∷ []) []) e in
    ap (λ new. new ++ read_lines h (reads_behind reads before l) (before ++ new) rest) e1
    ∙ ap (λ rs. cond r (l ∷ []) [] ++ read_lines h rs (before ++ cond r (l ∷ []) []) rest) (x.behind reads before)

pub group-line : {P : Type 0} (l : Line P) → IsPlain l → IsGroup (l ∷ []) (λ before. l ∷ [])
group-line l x = record {
  whole = x.whole;
  closed = x.closed;
  read = λ h reads before rest e. one-line l x h reads before rest true e;
}

pub group-append : {P : Type 0} (xs ys : List (Line P)) (f g : List (Line P) → List (Line P)) → IsGroup xs f → IsGroup ys g → IsGroup (xs ++ ys) (λ before. f before ++ g (before ++ f before))
group-append xs ys f g x y = record {
  whole = λ elses rest. ap (balanced elses) (append_assoc xs ys rest) ∙ x.whole elses (ys ++ rest) ∙ ap (λ r. xs ++ r) (y.whole elses rest) ∙ sym (append_assoc xs ys (balanced elses rest));
  closed = λ depth rest. ap (is_ended depth) (append_assoc xs ys rest) ∙ x.closed depth (ys ++ rest) ∙ y.closed depth rest;
  read = λ h reads before rest e.
      let next = before ++ f before in
      ap (read_lines h reads before) (append_assoc xs ys rest)
      ∙ x.read h reads before (ys ++ rest) e
      ∙ ap (λ r. f before ++ r) (y.read h reads next rest e)
      ∙ sym (append_assoc (f before) (g next) (read_lines h reads (next ++ g next) rest))
      ∙ ap (λ b. (f before ++ g next) ++ read_lines h reads b rest) (append_assoc before (f before) (g next));
}
