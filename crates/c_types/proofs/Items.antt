-- Items in a row, and what is known behind them.
use Rattle.std.proofs.Common.{◌≡◌, ℕ, ◌+◌, ◌<◌, List, [], ◌∷◌, ◌++◌, length, take, drop, get_or, add-one, sym, ap, ◌∙◌}
use Rattle.std.proofs.Math.Seq.{take-suc}
use Rattle.c_text.specs.Refusal.{Refusal}
use Rattle.c_tree.specs.declared.item.Item.{Item}
use Rattle.c_widths.specs.DataModel.{DataModel}
use Rattle.c_types.specs.Setting.{Setting, setting}
use Rattle.c_types.specs.UnitTypes.{item_faults, items_in_order}
use Rattle.c_types.specs.Behind.{behind_item}
use Rattle.c_types.proofs.Sequences.{front}
use Rattle.c_types.proofs.Behind.{setting-behind}

module _ (m : DataModel) (items : List Item) (i : ℕ) (x : Item) (h : i < length items) (is : x ≡ get_or items i x) where
  take-next : take (i + 1) items ≡ take i items ++ x ∷ []
  take-next = ap (λ n. take n items) (add-one i) ∙ take-suc items i x h ∙ ap (λ y. take i items ++ y ∷ []) (sym is)

  -- one more is known
  pub knows-step : (s next : Setting) → s ≡ setting m items (take i items) → next ≡ behind_item x s → next ≡ setting m items (take (i + 1) items)
  knows-step s next knows adds = adds ∙ ap (behind_item x) knows ∙ sym (setting-behind m items (take i items) x) ∙ ap (setting m items) (sym take-next)

  -- an item with a fault
  pub items-fault : (s : Setting) (all : List Refusal) → s ≡ setting m items (take i items) → items_in_order m items (take i items) (drop i items) ≡ all
      → all ≡ item_faults s (behind_item x s) x ++ items_in_order m items (take i items ++ x ∷ []) (drop (i + 1) items)
  items-fault s all knows left =
      let before = take i items in
      let rest = items_in_order m items (before ++ x ∷ []) (drop (i + 1) items) in
      sym left
      ∙ ap (items_in_order m items before) (front items i x h is)
      ∙ ap (λ after. item_faults (setting m items before) after x ++ rest) (setting-behind m items before x)
      ∙ ap (λ t. item_faults t (behind_item x t) x ++ rest) (sym knows)

  -- one without
  pub items-step : (s : Setting) (all : List Refusal) → s ≡ setting m items (take i items) → item_faults s (behind_item x s) x ≡ []
      → items_in_order m items (take i items) (drop i items) ≡ all → items_in_order m items (take (i + 1) items) (drop (i + 1) items) ≡ all
  items-step s all knows none left =
      let rest = items_in_order m items (take i items ++ x ∷ []) (drop (i + 1) items) in
      ap (λ b. items_in_order m items b (drop (i + 1) items)) take-next
      ∙ sym (ap (λ fs. fs ++ rest) none)
      ∙ sym (items-fault s all knows left)
