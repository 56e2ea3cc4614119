-- What is known of names while the parts of a unit are read: macros and standard headers.
use Rattle.std.specs.Prelude.{ℕ, if◌then◌else◌, List, [], ◌∷◌, ◌++◌, codes, bytes_eq, Option, Some, None}
use Rattle.cg_out.specs.Words.{look_up, or_else}
use Rattle.c_text.specs.declared.token.TokenKind.{TokenKind}
use Rattle.c_text.specs.declared.token.TokenKind.TheVariants.{Word, Constant as Number}
use Rattle.c_text.specs.StandardHeader.{Header, stdbool_h, stddef_h, stdint_h, string_h, kind_in}
use Rattle.c_tree.specs.BareExpression.{Tree, constant}
use Rattle.c_printed.specs.Spelling.{left}
use Rattle.c_printed.specs.PrintedExpression.{tokens_of}
use Rattle.c_printed.specs.PrintedUnit.{Part, include, include_beside, define}
use Rattle.c_printed.specs.Expanded.{Meaning}
use Rattle.c_printed.specs.Settled.{Becomes}

-- a macro with its body
abbrev pub Macro : Type 0
Macro = List ℕ × Option Tree

-- macros and standard headers, each in the order of reading
pub record State : Type 0 where
  pub macros : List Macro
  pub headers : List Header

abbrev pub nothing_known : State
nothing_known = record { macros = []; headers = [] }

-- ---- what a name is there

abbrev pub kind_by_headers : List ℕ → List Header → Option TokenKind
kind_by_headers w [] = None
kind_by_headers w (h ∷ hs) = or_else (kind_in h w) (kind_by_headers w hs)

abbrev pub macro_body : Option Tree → List TokenKind
macro_body None = []
macro_body (Some t) = tokens_of left t

abbrev pub word_by : List ℕ → Option (Option Tree) → Option TokenKind → List TokenKind
word_by w (Some body) k = macro_body body
word_by w None (Some k) = k ∷ []
word_by w None None = Word w ∷ []

-- the tokens that a word becomes
abbrev pub becomes : State → Becomes
becomes s w = word_by w (look_up w s.macros) (kind_by_headers w s.headers)

abbrev pub constant_by : Option TokenKind → Option Tree
constant_by (Some (Number c)) = Some (constant c)
constant_by other = None

abbrev pub tree_by : Option (Option Tree) → Option TokenKind → Option Tree
tree_by (Some body) k = body
tree_by None k = constant_by k

-- the tree that a name stands for: a macro's body, and behind `stdbool.h` the constants of `true` and `false`
abbrev pub meaning : State → Meaning
meaning s n = tree_by (look_up n s.macros) (kind_by_headers n s.headers)

-- ---- what a part adds

abbrev pub header_named : List ℕ → Option Header
header_named n =
    if bytes_eq n (codes "stdbool.h") then Some stdbool_h
    else if bytes_eq n (codes "stddef.h") then Some stddef_h
    else if bytes_eq n (codes "stdint.h") then Some stdint_h
    else if bytes_eq n (codes "string.h") then Some string_h
    else None

abbrev pub listed : Option Header → List Header
listed None = []
listed (Some h) = h ∷ []

abbrev pub unless_known : Option (Option Tree) → Macro → List Macro
unless_known None m = m ∷ []
unless_known (Some body) m = []

-- a macro that is defined anew with its first body is no other one
abbrev pub new_macros : State → Macro → List Macro
new_macros s m = unless_known (look_up m.0 s.macros) m

abbrev pub with_macros : State → List Macro → State
with_macros s ms = record { macros = s.macros ++ ms; headers = s.headers }

abbrev pub with_headers : State → List Header → State
with_headers s hs = record { macros = s.macros; headers = s.headers ++ hs }

-- behind a part, where a quoted include leaves what `beside` says
abbrev pub behind_part : (beside : State → State) → State → Part → State
behind_part beside s (define n body) = with_macros s (new_macros s (n, body))
behind_part beside s (include n) = with_headers s (listed (header_named n))
behind_part beside s (include_beside n) = beside s
behind_part beside s p = s

abbrev pub behind_all : (State → State) → State → List Part → State
behind_all beside s [] = s
behind_all beside s (p ∷ ps) = behind_all beside (behind_part beside s p) ps

-- behind the parts of a header
abbrev pub header_state : List Part → State → State
header_state header s = behind_all (λ t. t) s header
