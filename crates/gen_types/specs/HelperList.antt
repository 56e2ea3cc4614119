-- Several helpers of one unit, by their kinds and widths.
use Rattle.std.specs.Prelude.{◌≡◌, ℕ, ⊤, false, List, [], ◌∷◌, map, bytes_eq}
use Rattle.c_tree.specs.declared.item.Item.{Item}
use Rattle.c_tree.specs.declared.item.Item.TheVariants as item
use Rattle.shift_helpers.specs.declared.helper.HelperKind.{HelperKind}
use Rattle.shift_helpers.specs.declared.helper.HelperKind.TheVariants as h
use Rattle.shift_helpers.specs.HelperTree.{helper, helper_name}

abbrev pub helper_item : HelperKind × ℕ → Item
helper_item h = item.Function (helper h.0 h.1)

abbrev pub helper_items : List (HelperKind × ℕ) → List Item
helper_items helpers = map helper_item helpers

-- none of the helpers has the name
abbrev pub Lack : List (HelperKind × ℕ) → List ℕ → Type 0
Lack [] name = ⊤
Lack (h ∷ helpers) name = (bytes_eq name (helper_name h.0 h.1) ≡ false) × Lack helpers name

-- no two of them have one name
abbrev pub AreDifferent : List (HelperKind × ℕ) → Type 0
AreDifferent [] = ⊤
AreDifferent (h ∷ helpers) = Lack helpers (helper_name h.0 h.1) × AreDifferent helpers

-- every kind at every width
abbrev pub every_helper : List (HelperKind × ℕ)
every_helper =
    (h.PackLeft, 8) ∷ (h.PackLeft, 16) ∷ (h.PackLeft, 32) ∷ (h.PackLeft, 64)
    ∷ (h.PackRight, 8) ∷ (h.PackRight, 16) ∷ (h.PackRight, 32) ∷ (h.PackRight, 64)
    ∷ (h.UnpackLeft, 8) ∷ (h.UnpackLeft, 16) ∷ (h.UnpackLeft, 32) ∷ (h.UnpackLeft, 64)
    ∷ (h.UnpackRight, 8) ∷ (h.UnpackRight, 16) ∷ (h.UnpackRight, 32) ∷ (h.UnpackRight, 64)
    ∷ []
