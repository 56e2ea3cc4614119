-- How the tokens that preprocessing leaves are cut into a unit (ISO/IEC 9899:1999, 6.9): into items, at `;` and `}` outside brackets.
use Rattle.std.specs.Prelude.{ℕ, zero, suc, ◌+◌, Bool, true, false, if◌then◌else◌, List, [], ◌∷◌, Option, Some, None, Result, Ok, Err}
use Rattle.c_text.specs.declared.token.Token.{Token}
use Rattle.c_text.specs.declared.token.TokenKind.{TokenKind}
use Rattle.c_tree.specs.declared.symbol.Bracket.{Bracket}
use Rattle.c_tree.specs.declared.symbol.Bracket.TheVariants.{Brace}
use Rattle.c_tree.specs.declared.symbol.Keyword.{Keyword}
use Rattle.c_tree.specs.declared.symbol.Keyword.TheVariants as key
use Rattle.c_tree.specs.declared.item.Item.{Item}
use Rattle.c_tree.specs.declared.item.Unit.{Unit as Whole}
use Rattle.c_text.specs.Refusal.{Refusal}
use Rattle.c_tree.specs.Sequence.{Reading, all_read}
use Rattle.cg_out.specs.Words.{◌>>=◌}
use Rattle.c_tree.specs.Symbol.{keyword_of, is_semicolon}
use Rattle.c_tree.specs.Brackets.{closes, depth_after, first_outside, bracket_fault}
use Rattle.c_tree.specs.StructCut.{struct_at}
use Rattle.c_tree.specs.FunctionCut.{function_at}

-- the token ends an item, behind it so many brackets are open
abbrev pub ends_item : ℕ → Option Bracket → TokenKind → Bool
ends_item zero (Some Brace) k = true
ends_item zero other k = is_semicolon k
ends_item (suc depth) other k = false

abbrev pub item_end : ℕ → ℕ → List Token → Option ℕ
item_end at depth [] = None
item_end at depth (x ∷ xs) =
    if ends_item (depth_after x.kind depth) (closes x.kind) x.kind then Some at else item_end (at + 1) (depth_after x.kind depth) xs

abbrev pub item_by : Option Keyword → Reading Item
item_by (Some key.Struct) x xs = struct_at (first_outside is_semicolon 0 0 xs) x xs
item_by other x xs = function_at (item_end 0 0 (x ∷ xs)) x xs

abbrev pub each_item : Reading Item
each_item x xs = item_by (keyword_of x.kind) x xs

abbrev pub whole : List Item → Whole
whole is = record { items = is }

abbrev pub unless_unmatched : Option Refusal → List Token → Result Whole Refusal
unless_unmatched (Some r) xs = Err r
unless_unmatched None xs = all_read each_item 0 xs >>= λ is. Ok (whole is)

-- the unit that the tokens are, or the first fault among them
abbrev pub unit_of_tokens : List Token → Result Whole Refusal
unit_of_tokens xs = unless_unmatched (bracket_fault xs) xs
