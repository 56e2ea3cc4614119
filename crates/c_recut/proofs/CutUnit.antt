-- The tokens of the items of a unit are cut into the unit.
use Rattle.std.proofs.Common.{◌≡◌, List, [], ◌∷◌, ◌++◌, map, Ok, refl, ap, ◌∙◌}
use Rattle.std.specs.List.{AllByRecursion}
use Rattle.c_text.specs.declared.token.Token.{Token}
use Rattle.c_tree.specs.declared.item.Item.{Item}
use Rattle.c_tree.specs.declared.item.Unit.{Unit as Whole}
use Rattle.c_tree.specs.Sequence.{all_read}
use Rattle.cg_out.specs.Words.{◌>>=◌}
use Rattle.c_tree.specs.TypeName.{kinds_of}
use Rattle.c_tree.specs.UnitCut.{each_item, unless_unmatched, whole, unit_of_tokens}
use Rattle.c_tree.specs.BareUnit.{BareItem, struct, function, bare_item, bare_unit}
use Rattle.c_printed.specs.Spelling.{left}
use Rattle.c_printed.specs.PrintedItem.{item_tokens}
use Rattle.c_printed.proofs.UnitReading.{items_tokens}
use Rattle.c_printed.proofs.UnitFits.{FitsItem}
use Rattle.c_printed.specs.Within.{ItemWithin}
use Rattle.c_recut.proofs.Tokens.{nil-of, split-of}
use Rattle.c_recut.proofs.CutItem.{ItemAs, all-one, cut-struct}
use Rattle.c_recut.proofs.CutFunction.{cut-function}
use Rattle.c_recut.proofs.Matching.{no-fault}

cut-item : (i : BareItem) (ts : List Token) → FitsItem i → ItemWithin i → kinds_of ts ≡ item_tokens left i → ItemAs ts i
cut-item (struct tag fs) ts h w e = cut-struct tag fs ts h.0 h.1 h.2 e
cut-item (function f body) ts h w e = cut-function f body ts h.0 h.1 w e

record ItemsAs (ts : List Token) (is : List BareItem) : Type 0 where
  list : List Item
  are : map bare_item list ≡ is
  given : all_read each_item 0 ts ≡ Ok list

cut-items : (is : List BareItem) (ts : List Token) → AllByRecursion FitsItem is → AllByRecursion ItemWithin is → kinds_of ts ≡ items_tokens is → ItemsAs ts is
cut-items [] ts h w e = record { list = []; are = refl; given = ap (all_read each_item 0) (nil-of ts e) }
cut-items (i ∷ is) ts h w e =
    let s = split-of (item_tokens left i) (items_tokens is) ts e in
    let x = cut-item i s.left h.0 w.0 s.left_kinds in
    let more = cut-items is s.right h.1 w.1 s.right_kinds in
    record {
      list = x.item ∷ more.list;
      are = λ j. x.is j ∷ more.are j;
      given = ap (all_read each_item 0) (s.is ∙ ap (λ us. us ++ s.right) x.whole) ∙ all-one each_item x.first x.others s.right x.item more.list (x.reads s.right) more.given;
    }

-- the tokens of items are cut into a unit that is these items
pub unit-cut : (is : List BareItem) (ts : List Token) → AllByRecursion FitsItem is → AllByRecursion ItemWithin is → kinds_of ts ≡ items_tokens is → (u : Whole) × (unit_of_tokens ts ≡ Ok u) × (bare_unit u ≡ is)
unit-cut is ts h w e =
    let x = cut-items is ts h w e in
    (whole x.list, ap (λ f. unless_unmatched f ts) (no-fault is ts e) ∙ ap (λ r. r >>= λ us. Ok (whole us)) x.given, x.are)
