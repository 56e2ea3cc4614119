-- Words in parts between commas.
use Rattle.std.proofs.Common.{◌≡◌, ℕ, ◌+◌, ◌≢◌, ◌==◌, Bool, true, false, cond, List, [], ◌∷◌, length, take, drop, Option, Some, None, ℤ, refl, sym, ap, ◌∙◌, arith}
use Rattle.std.specs.Prelude.{nat_lt}
use Rattle.std.specs.List.{slice_split, position_or_len}
use Rattle.std.specs.Option.{option_map, option_and_then}
use Rattle.std.proofs.lemmas.Bool.{ltb-true, ltb-false}
use Rattle.std.proofs.lemmas.List.Splits.{slice_split_none, slice_split_first}
use Rattle.std.proofs.lemmas.List.Sums.{fails_before_first}
use Rattle.c_tree.specs.declared.item.Field.{Field}
use Rattle.c_mem.specs.Cells.{CellsOf}
use Rattle.c_widths.specs.DataModel.{DataModel}
use Rattle.command_words.specs.CutWord.{cut_at}
use Rattle.exec_words.specs.StructWord.{with_part, with_parts, parts_of}

-- what is cut at a sign, and the parts of what stands behind it
abbrev pub split_rest : ℕ → List ℕ → Option (List ℕ × List ℕ) → List (List ℕ)
split_rest sign word None = word ∷ []
split_rest sign word (Some (part, rest)) = part ∷ slice_split (λ b. b == sign) rest

by_place : (sign : ℕ) (word : List ℕ) (inside : Bool) → nat_lt (position_or_len (λ b. b == sign) word) (length word) ≡ inside
    → slice_split (λ b. b == sign) word ≡ split_rest sign word (option_map (λ i. (take i word, drop (i + 1) word)) (cond inside (Some (position_or_len (λ b. b == sign) word)) None))
by_place sign word true e = slice_split_first (λ b. b == sign) word 0 (ltb-true _ _ e)
by_place sign word false e =
    let all = ltb-false _ _ e in
    slice_split_none (λ b. b == sign) word (λ k d inside. fails_before_first (λ b. b == sign) word k d (omega (arith, all)))

pub split-cut : (sign : ℕ) (word : List ℕ) (r : Option (List ℕ × List ℕ)) → r ≡ cut_at sign word → slice_split (λ b. b == sign) word ≡ split_rest sign word r
split-cut sign word r e = by_place sign word _ refl ∙ ap (split_rest sign word) (sym e)

-- ---- cells behind them

pub no_parts : (word : List ℕ) → length word ≡ 0 → parts_of word ≡ []
no_parts [] h = refl
no_parts (b ∷ bs) h = absurd (omega (arith, h))

pub some_parts : (word : List ℕ) → length word ≢ 0 → parts_of word ≡ slice_split (λ b. b == 44) word
some_parts [] h = absurd (h refl)
some_parts (b ∷ bs) h = refl

module _ (m : DataModel) (fields : List Field) where
  alone : (made : Option (CellsOf ℤ)) → option_and_then (with_parts m fields []) made ≡ made
  alone None = refl
  alone (Some cells) = refl

  -- behind a part, the others
  pub gives_next : (left part rest : List ℕ) (cells new : CellsOf ℤ) → Some (part, rest) ≡ cut_at 44 left → Some new ≡ with_part m fields part cells
      → with_parts m fields (slice_split (λ b. b == 44) left) cells ≡ with_parts m fields (slice_split (λ b. b == 44) rest) new
  gives_next left part rest cells new e made =
      ap (λ parts. with_parts m fields parts cells) (split-cut 44 left (Some (part, rest)) e)
      ∙ ap (option_and_then (with_parts m fields (slice_split (λ b. b == 44) rest))) (sym made)

  pub gives_none : (left part rest : List ℕ) (cells : CellsOf ℤ) → Some (part, rest) ≡ cut_at 44 left → None ≡ with_part m fields part cells
      → with_parts m fields (slice_split (λ b. b == 44) left) cells ≡ None
  gives_none left part rest cells e made =
      ap (λ parts. with_parts m fields parts cells) (split-cut 44 left (Some (part, rest)) e)
      ∙ ap (option_and_then (with_parts m fields (slice_split (λ b. b == 44) rest))) (sym made)

  pub gives_last : (left : List ℕ) (cells : CellsOf ℤ) → None ≡ cut_at 44 left
      → with_parts m fields (slice_split (λ b. b == 44) left) cells ≡ with_part m fields left cells
  gives_last left cells e =
      ap (λ parts. with_parts m fields parts cells) (split-cut 44 left None e) ∙ alone (with_part m fields left cells)
