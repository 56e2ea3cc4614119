-- The head of a function, as the definition has it.
use Rattle.std.specs.Prelude.{◌≡◌, Bool, List, Result}
use Rattle.c_text.specs.declared.place.Place.{Place}
use Rattle.c_text.specs.declared.token.Token.{Token}
use Rattle.c_tree.specs.declared.item.Item.{Item}
use Rattle.c_text.specs.Refusal.{Refusal}
use Rattle.c_tree.specs.FunctionCut as function_cut
use Rattle.c_tree.specs.ExpressionCut.{closed_in}
use Rattle.c_parser.specs.declared.items.Head.{Head}
use Rattle.c_parser.specs.declared.items.Tail.{Tail}
use Rattle.c_parser.specs.declared.items.Tail.TheVariants.{Prototype, Definition, Unfinished}

abbrev pub head_of : Head → function_cut.FunctionHead
head_of h = record { fixed = h.fixed; returns = h.returns; name = h.name; place = h.place }

abbrev pub tail_view : Tail → function_cut.Tail
tail_view (Prototype end) = function_cut.prototype end
tail_view (Definition brace body end) = function_cut.definition brace (closed_in body.now end)
tail_view Unfinished = function_cut.unfinished

-- the item that the tokens are behind an optional `static`
abbrev pub ReturnsItem : List Token → (Place → Bool → Result Item Refusal) → Type 0
ReturnsItem tokens item = (first : Place) (fixed : Bool) → function_cut.function_of first fixed tokens ≡ item first fixed
