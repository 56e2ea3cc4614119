-- Whole conditionals, found in one pass.
use Rattle.std.proofs.Common.{◌≡◌, ℕ, zero, suc, ◌+◌, ◌-◌, ◌<◌, ◌≤◌, Bool, true, false, ◌&&◌, not, cond, nat_eq, nat_lt, zero-add, List, [], ◌∷◌, ◌++◌, reverse, count_by, drop, map, Some, refl, sym, ap, ◌∙◌, arith, length, get_or, drop-cons, append_assoc, add-one}
use Rattle.std.specs.List.{list_all}
use Rattle.std.proofs.lemmas.Bool.Decides.{nat_tests}
use Rattle.std.proofs.Math.Bool.{and-true}
use Rattle.std.proofs.lemmas.List.{reverse-append, map-append}
use Rattle.std.proofs.lemmas.List.Folds.{list_all-append}
use Rattle.std.proofs.lemmas.List.Sums.{sum_by-cons}
use Rattle.c_text.specs.declared.place.Place.{Place}
use Rattle.c_text.specs.Directive.{Line, text, standard, quoted, define, conditional, otherwise, endif, unbalanced, refused}
use Rattle.c_text.specs.Conditional.{is_ended, if_ended, balanced}
use Rattle.c_pre.specs.declared.line.Line.{Line as CodeLine}
use Rattle.c_pre.specs.Shown.{shown}
use Rattle.c_pre.specs.Balance.{open_ends, endings, is_flag, balanced_line, elses_behind, endings_behind}

-- ---- flags

one-more : (b : Bool) (n : ℕ) → nat_eq (cond (not b) 1 0 + n) 0 ≡ (nat_eq n 0 && (b && true))
one-more true n = rw (zero-add n, and-true (nat_eq n 0)) refl
one-more false n = grind (arith, nat_tests)

pub none-unset : (bs : List Bool) → nat_eq (count_by not bs) 0 ≡ list_all (λ r. r) (reverse bs)
none-unset [] = refl
none-unset (b ∷ bs) =
    ap (λ n. nat_eq n 0) (sum_by-cons (λ x. cond (not x) 1 0) b bs)
    ∙ one-more b (count_by not bs)
    ∙ ap (λ r. r && (b && true)) (none-unset bs)
    ∙ sym (ap (list_all (λ r. r)) (reverse-append (b ∷ []) bs) ∙ list_all-append (λ r. r) (reverse bs) (b ∷ []))

-- ---- ends

ended-more : (depth n : ℕ) → nat_lt (suc depth) (n + 1) ≡ nat_lt depth n
ended-more depth n = grind (arith, nat_tests)

ended-less : (depth n : ℕ) → nat_lt (suc depth) n ≡ nat_lt depth (n - 1)
ended-less depth n = grind (arith, nat_tests)

ended-none : (depth : ℕ) → false ≡ nat_lt (suc depth) 0
ended-none depth = grind (arith, nat_tests)

ended-now : (n : ℕ) → true ≡ nat_lt 0 (n + 1)
ended-now n = grind (arith, nat_tests)

-- a conditional is ended where more `#endif` are open behind it than others are open in it
pub is_ended-open : (depth : ℕ) (ls : List (Line Place)) → is_ended depth ls ≡ nat_lt depth (open_ends ls)
is_ended-open zero [] = refl
is_ended-open (suc depth) [] = ended-none depth
is_ended-open depth (text ts ∷ ls) = is_ended-open depth ls
is_ended-open depth (standard h ∷ ls) = is_ended-open depth ls
is_ended-open depth (quoted ∷ ls) = is_ended-open depth ls
is_ended-open depth (define p name body ∷ ls) = is_ended-open depth ls
is_ended-open depth (conditional p wanted name ∷ ls) = is_ended-open (suc depth) ls ∙ ended-less depth (open_ends ls)
is_ended-open depth (otherwise p ∷ ls) = is_ended-open depth ls
is_ended-open zero (endif p ∷ ls) = ended-now (open_ends ls)
is_ended-open (suc depth) (endif p ∷ ls) = is_ended-open depth ls ∙ sym (ended-more depth (open_ends ls))
is_ended-open depth (unbalanced p ∷ ls) = is_ended-open depth ls
is_ended-open depth (refused p kind ∷ ls) = is_ended-open depth ls

-- ---- lines

is_flag-some : (b : Bool) → is_flag true (Some b) ≡ b
is_flag-some true = refl
is_flag-some false = refl

-- a file's lines one by one
pub balanced-step : (elses : List Bool) (l : Line Place) (ls : List (Line Place)) → balanced elses (l ∷ ls) ≡ balanced_line elses (endings (l ∷ ls)) l ∷ balanced (elses_behind elses l) ls
balanced-step elses (text ts) ls = refl
balanced-step elses (standard h) ls = refl
balanced-step elses quoted ls = refl
balanced-step elses (define p name body) ls = refl
balanced-step elses (conditional p wanted name) ls = ap (λ b. if_ended b (conditional p wanted name) p ∷ balanced (false ∷ elses) ls) (sym (is_flag-some (is_ended 0 ls)))
balanced-step [] (otherwise p) ls = refl
balanced-step (true ∷ es) (otherwise p) ls = refl
balanced-step (false ∷ es) (otherwise p) ls = refl
balanced-step [] (endif p) ls = refl
balanced-step (e ∷ es) (endif p) ls = refl
balanced-step elses (unbalanced p) ls = refl
balanced-step elses (refused p kind) ls = refl

pub endings-step : (l : Line Place) (ls : List (Line Place)) → endings_behind (endings (l ∷ ls)) l ≡ endings ls
endings-step (text ts) ls = refl
endings-step (standard h) ls = refl
endings-step quoted ls = refl
endings-step (define p name body) ls = refl
endings-step (conditional p wanted name) ls = refl
endings-step (otherwise p) ls = refl
endings-step (endif p) ls = refl
endings-step (unbalanced p) ls = refl
endings-step (refused p kind) ls = refl

-- ---- lines from the last to the first

pub shown-last : (lines : List CodeLine) (at : ℕ) (d l : CodeLine) → get_or lines (at - 1) d ≡ l → 0 < at → at ≤ length lines → map shown (drop (at - 1) lines) ≡ shown l ∷ map shown (drop at lines)
shown-last lines at d l is h k =
    let i : at - 1 < length lines = omega arith in
    let e : suc (at - 1) ≡ at = omega arith in
    ap (map shown) (drop-cons lines (at - 1) d i ∙ (λ j. is j ∷ drop (e j) lines))

-- ---- lines from the first to the last

pub line-on : (list : List CodeLine) (line new : CodeLine) (elses ended elses_then : List Bool) (rest all : List (Line Place)) → ended ≡ endings (shown line ∷ rest)
    → shown new ≡ balanced_line elses ended (shown line) → elses_then ≡ elses_behind elses (shown line)
    → map shown list ++ balanced elses (shown line ∷ rest) ≡ all → map shown (list ++ new ∷ []) ++ balanced elses_then rest ≡ all
line-on list line new elses ended elses_then rest all e is behind told_so =
    ap (λ xs. xs ++ balanced elses_then rest) (map-append shown list (new ∷ []))
    ∙ append_assoc (map shown list) (shown new ∷ []) (balanced elses_then rest)
    ∙ (λ i. map shown list ++ (is ∙ ap (λ f. balanced_line elses f (shown line)) e) i ∷ balanced (behind i) rest)
    ∙ ap (λ xs. map shown list ++ xs) (sym (balanced-step elses (shown line) rest))
    ∙ told_so

pub shown-next : (lines : List CodeLine) (at : ℕ) (l : CodeLine) → l ≡ get_or lines at l → at < length lines → map shown (drop at lines) ≡ shown l ∷ map shown (drop (at + 1) lines)
shown-next lines at l is h = ap (map shown) (drop-cons lines at l h ∙ (λ j. sym is j ∷ drop (sym (add-one at) j) lines))
