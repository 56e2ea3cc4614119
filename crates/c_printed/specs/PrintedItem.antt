-- The texts of structs and functions, and their tokens.
use Rattle.std.specs.Prelude.{ℕ, Bool, true, false, List, [], ◌∷◌, ◌++◌, codes, Option, Some, None}
use Rattle.c_text.specs.declared.token.TokenKind.{TokenKind}
use Rattle.c_text.specs.declared.token.TokenKind.TheVariants.{Word, Mark}
use Rattle.c_text.specs.declared.token.Spelled.TheVariants.{Exact}
use Rattle.c_tree.specs.declared.item.CType.{CType}
use Rattle.c_tree.specs.declared.item.CType.TheVariants.{Void, Integer, Pointer}
use Rattle.c_tree.specs.declared.item.Target.{Target}
use Rattle.c_tree.specs.declared.item.Target.TheVariants.{Byte, Struct}
use Rattle.c_tree.specs.BareStatement.{Actions}
use Rattle.c_tree.specs.BareUnit.{BareField, BareHead, BareItem, struct, function}
use Rattle.c_printed.specs.Spelling.{type_text, Voice}
use Rattle.c_printed.specs.PrintedExpression.{separator, comma}
use Rattle.c_printed.specs.PrintedStatement.{actions_text, actions_tokens}

-- a field with the comment before it, which may be empty
pub record Field : Type 0 where
  pub about : List ℕ
  pub named : BareField

-- ---- types with names

abbrev pub const_text : Bool → List ℕ
const_text true = codes "const "
const_text false = []

abbrev pub target_text : Target → List ℕ
target_text Byte = codes "uint8_t"
target_text (Struct tag) = codes "struct " ++ tag

abbrev pub named_text : CType → List ℕ → List ℕ
named_text Void n = codes "void " ++ n
named_text (Integer s) n = type_text s ++ (codes " " ++ n)
named_text (Pointer to constant) n = const_text constant ++ (target_text to ++ (codes " *" ++ n))

abbrev pub const_tokens : Bool → List TokenKind
const_tokens true = Word (codes "const") ∷ []
const_tokens false = []

abbrev pub target_tokens : Voice → Target → List TokenKind
target_tokens v Byte = v.type (Exact 8 false)
target_tokens v (Struct tag) = Word (codes "struct") ∷ Word tag ∷ []

abbrev pub named_tokens : Voice → CType → List ℕ → List TokenKind
named_tokens v Void n = Word (codes "void") ∷ Word n ∷ []
named_tokens v (Integer s) n = v.type s ++ Word n ∷ []
named_tokens v (Pointer to constant) n = const_tokens constant ++ (target_tokens v to ++ Mark (codes "*") ∷ Word n ∷ [])

-- ---- structs

-- a comment on a line of its own
abbrev pub about_text : List ℕ → List ℕ
about_text [] = []
about_text (b ∷ bs) = codes "    /* " ++ ((b ∷ bs) ++ codes " */\n")

abbrev pub field_text : Field → List ℕ
field_text f = about_text f.about ++ (codes "    " ++ (named_text f.named.kind f.named.name ++ codes ";\n"))

abbrev pub fields_text : List Field → List ℕ
fields_text [] = []
fields_text (f ∷ fs) = field_text f ++ fields_text fs

abbrev pub struct_text : List ℕ → List Field → List ℕ
struct_text tag fs = codes "struct " ++ (tag ++ (codes " {\n" ++ (fields_text fs ++ codes "};")))

abbrev pub fields_tokens : Voice → List BareField → List TokenKind
fields_tokens v [] = []
fields_tokens v (f ∷ fs) = named_tokens v f.kind f.name ++ Mark (codes ";") ∷ fields_tokens v fs

abbrev pub struct_tokens : Voice → List ℕ → List BareField → List TokenKind
struct_tokens v tag fs = Word (codes "struct") ∷ Word tag ∷ Mark (codes "{") ∷ (fields_tokens v fs ++ Mark (codes "}") ∷ Mark (codes ";") ∷ [])

-- ---- functions

abbrev pub params_text : Bool → List BareField → List ℕ
params_text first [] = []
params_text first (p ∷ ps) = separator first ++ (named_text p.kind p.name ++ params_text false ps)

abbrev pub all_params_text : List BareField → List ℕ
all_params_text [] = codes "void"
all_params_text (p ∷ ps) = params_text true (p ∷ ps)

abbrev pub static_text : Bool → List ℕ
static_text true = codes "static "
static_text false = []

abbrev pub head_text : BareHead → List ℕ
head_text h = static_text h.fixed ++ (named_text h.returns h.name ++ (codes "(" ++ (all_params_text h.params ++ codes ")")))

abbrev pub body_text : Option Actions → List ℕ
body_text None = codes ";"
body_text (Some list) = codes "\n{\n" ++ (actions_text 4 list ++ codes "}")

abbrev pub function_text : BareHead → Option Actions → List ℕ
function_text h body = head_text h ++ body_text body

abbrev pub params_tokens : Voice → Bool → List BareField → List TokenKind
params_tokens v first [] = []
params_tokens v first (p ∷ ps) = comma first ++ (named_tokens v p.kind p.name ++ params_tokens v false ps)

abbrev pub all_params_tokens : Voice → List BareField → List TokenKind
all_params_tokens v [] = Word (codes "void") ∷ []
all_params_tokens v (p ∷ ps) = params_tokens v true (p ∷ ps)

abbrev pub static_tokens : Bool → List TokenKind
static_tokens true = Word (codes "static") ∷ []
static_tokens false = []

abbrev pub head_tokens : Voice → BareHead → List TokenKind
head_tokens v h = static_tokens h.fixed ++ (named_tokens v h.returns h.name ++ Mark (codes "(") ∷ (all_params_tokens v h.params ++ Mark (codes ")") ∷ []))

abbrev pub body_tokens : Voice → Option Actions → List TokenKind
body_tokens v None = Mark (codes ";") ∷ []
body_tokens v (Some list) = Mark (codes "{") ∷ (actions_tokens v list ++ Mark (codes "}") ∷ [])

-- ---- items

abbrev pub field_of : Field → BareField
field_of f = f.named

abbrev pub item_tokens : Voice → BareItem → List TokenKind
item_tokens v (struct tag fs) = struct_tokens v tag fs
item_tokens v (function h body) = head_tokens v h ++ body_tokens v body
