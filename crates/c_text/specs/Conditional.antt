-- Which lines are read: conditional and source file inclusion (ISO/IEC 9899:1999, 6.10.1 and 6.10.2).
use Rattle.std.specs.Prelude.{ℕ, zero, suc, Bool, true, false, not, if◌then◌else◌, List, [], ◌∷◌, ◌++◌, drop}
use Rattle.std.specs.List.{list_all}
use Rattle.c_text.specs.Directive.{Line, quoted, conditional, otherwise, endif, unbalanced}
use Rattle.c_text.specs.MacroDefinition.{is_macro}
use Rattle.cg_out.specs.Words.{same_bool}

-- ---- whole conditionals

-- the `#endif` of a conditional stands in the lines, before which so many others are open inside it
abbrev pub is_ended : {P : Type 0} → ℕ → List (Line P) → Bool
is_ended depth [] = false
is_ended depth (conditional p wanted name ∷ ls) = is_ended (suc depth) ls
is_ended zero (endif p ∷ ls) = true
is_ended (suc depth) (endif p ∷ ls) = is_ended depth ls
is_ended depth (l ∷ ls) = is_ended depth ls

abbrev pub if_ended : {P : Type 0} → Bool → Line P → P → Line P
if_ended true l p = l
if_ended false l p = unbalanced p

-- the lines of a file, in which a conditional line that belongs to no whole conditional is unbalanced;
-- `elses` says of each open conditional, the innermost first, whether its `#else` came
abbrev pub balanced : {P : Type 0} → List Bool → List (Line P) → List (Line P)
balanced elses [] = []
balanced elses (conditional p wanted name ∷ ls) = if_ended (is_ended 0 ls) (conditional p wanted name) p ∷ balanced (false ∷ elses) ls
balanced (false ∷ es) (otherwise p ∷ ls) = otherwise p ∷ balanced (true ∷ es) ls
balanced elses (otherwise p ∷ ls) = unbalanced p ∷ balanced elses ls
balanced (e ∷ es) (endif p ∷ ls) = endif p ∷ balanced es ls
balanced [] (endif p ∷ ls) = unbalanced p ∷ balanced [] ls
balanced elses (l ∷ ls) = l ∷ balanced elses ls

-- ---- lines that are read

-- a line is read where each open conditional reads the part that it stands in
abbrev pub is_read : List Bool → Bool
is_read reads = list_all (λ r. r) reads

-- what a line leaves behind the lines that were read before it; in a part that is not read only conditionals are looked at
abbrev pub left_by : {P : Type 0} → (List (Line P) → List (Line P)) → List Bool → List (Line P) → Line P → List (Line P)
left_by header reads before (conditional p wanted name) = []
left_by header reads before (otherwise p) = []
left_by header reads before (endif p) = []
left_by header reads before (unbalanced p) = unbalanced p ∷ []
left_by header reads before quoted = if is_read reads then header before else []
left_by header reads before l = if is_read reads then l ∷ [] else []

-- for each open conditional, the innermost first: whether the part behind the line is read
abbrev pub reads_behind : {P : Type 0} → List Bool → List (Line P) → Line P → List Bool
reads_behind reads before (conditional p wanted name) = same_bool wanted (is_macro name before) ∷ reads
reads_behind (r ∷ rs) before (otherwise p) = not r ∷ rs
reads_behind reads before (endif p) = drop 1 reads
reads_behind reads before l = reads

-- the lines of a file that are read, behind those that were read before; `header` gives those of a quoted include
abbrev pub read_lines : {P : Type 0} → (List (Line P) → List (Line P)) → List Bool → List (Line P) → List (Line P) → List (Line P)
read_lines header reads before [] = []
read_lines header reads before (l ∷ ls) =
    left_by header reads before l ++ read_lines header (reads_behind reads before l) (before ++ left_by header reads before l) ls
