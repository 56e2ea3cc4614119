-- Statements and parts of switches in a row, and the blocks that they leave.
use Rattle.std.proofs.Common.{◌≡◌, ℕ, suc, ◌+◌, ◌-◌, ◌<◌, List, [], ◌∷◌, ◌++◌, length, take, drop, map, get_or, drop-cons, add-one, Option, refl, sym, ap, ◌∙◌, arith}
use Rattle.std.proofs.lemmas.Grind.{common_steps}
use Rattle.std.specs.Prelude.{slice_index_or}
use Rattle.c_text.specs.Refusal.{Refusal}
use Rattle.c_text.specs.declared.token.IntType.{IntType}
use Rattle.c_tree.specs.declared.item.CType.{CType}
use Rattle.c_types.specs.Scope.{Declared, Scope, behind, with_name, opened}
use Rattle.c_types.specs.SwitchLabels.{Labels}
use Rattle.c_types.specs.StatementTypes.{Checked, CheckedPart, in_order, parts_in_order}
use Rattle.c_types.specs.Blocks.{closed}

-- ---- scopes

-- declarations in the innermost block leave those around it as they are
pub outer-behind : (ds : Declared) (scope : Scope) → (behind ds scope).outer ≡ scope.outer
outer-behind [] scope = refl
outer-behind (d ∷ ds) scope = outer-behind ds (with_name d scope)

pub behind-append : (ds es : Declared) (scope : Scope) → behind (ds ++ es) scope ≡ behind es (behind ds scope)
behind-append [] es scope = refl
behind-append (d ∷ ds) es scope = behind-append ds es (with_name d scope)

module _ {A : Type 0} where
  pub take-last : (xs : List A) (x : A) → take (length (xs ++ x ∷ []) - 1) (xs ++ x ∷ []) ≡ xs
  take-last xs x = grind (arith, common_steps)

  pub index-last : (xs : List A) (x d : A) → slice_index_or (xs ++ x ∷ []) (length (xs ++ x ∷ []) - 1) d ≡ x
  index-last xs x d = grind (arith, common_steps)

-- a block that is closed leaves the scope around it
pub closed-opened : (scope now : Scope) → now.outer ≡ (opened scope).outer → closed now ≡ scope
closed-opened scope now h =
    let f : List Declared → Declared → Scope = λ blocks d. record { outer = take (length blocks - 1) blocks; inner = slice_index_or blocks (length blocks - 1) d } in
    ap (λ blocks. f blocks now.inner) h
    ∙ (λ i. record { outer = take-last scope.outer scope.inner i; inner = index-last scope.outer scope.inner now.inner i })

-- ---- one step

module _ {X : Type 0} (xs : List X) (i : ℕ) (x : X) where
  pub front : i < length xs → x ≡ get_or xs i x → drop i xs ≡ x ∷ drop (i + 1) xs
  front h is = drop-cons xs i x h ∙ ap (λ y. y ∷ drop (suc i) xs) (sym is) ∙ ap (λ n. x ∷ drop n xs) (sym (add-one i))

module _ {X : Type 0} (f : X → Checked) (returns : CType) where
  -- a statement without a fault
  pub statement-step : (xs : List X) (i : ℕ) (x : X) (scope next : Scope) (all : List Refusal) → i < length xs → x ≡ get_or xs i x
      → (f x).faults returns scope ≡ [] → next ≡ behind (f x).declares scope
      → in_order (map f (drop i xs)) returns scope ≡ all → in_order (map f (drop (i + 1) xs)) returns next ≡ all
  statement-step xs i x scope next all h is none declares left =
      ap (in_order (map f (drop (i + 1) xs)) returns) declares
      ∙ sym (ap (λ fs. fs ++ in_order (map f (drop (i + 1) xs)) returns (behind (f x).declares scope)) none)
      ∙ sym (ap (λ ys. in_order (map f ys) returns scope) (front xs i x h is))
      ∙ left

  -- one with a fault
  pub statement-faults : (xs : List X) (i : ℕ) (x : X) (scope : Scope) (all : List Refusal) → i < length xs → x ≡ get_or xs i x
      → in_order (map f (drop i xs)) returns scope ≡ all
      → all ≡ (f x).faults returns scope ++ in_order (map f (drop (i + 1) xs)) returns (behind (f x).declares scope)
  statement-faults xs i x scope all h is left = sym left ∙ ap (λ ys. in_order (map f ys) returns scope) (front xs i x h is)

module _ {X : Type 0} (f : X → CheckedPart) (type : Option IntType) (returns : CType) where
  pub part-step : (xs : List X) (i : ℕ) (x : X) (labels after : Labels) (scope next : Scope) (all : List Refusal) → i < length xs → x ≡ get_or xs i x
      → (f x).faults type labels returns scope ≡ [] → after ≡ (f x).labels type labels → next ≡ behind (f x).declares scope
      → parts_in_order (map f (drop i xs)) type labels returns scope ≡ all → parts_in_order (map f (drop (i + 1) xs)) type after returns next ≡ all
  part-step xs i x labels after scope next all h is none adds declares left =
      ap (λ ls. parts_in_order (map f (drop (i + 1) xs)) type ls returns next) adds
      ∙ ap (parts_in_order (map f (drop (i + 1) xs)) type ((f x).labels type labels) returns) declares
      ∙ sym (ap (λ fs. fs ++ parts_in_order (map f (drop (i + 1) xs)) type ((f x).labels type labels) returns (behind (f x).declares scope)) none)
      ∙ sym (ap (λ ys. parts_in_order (map f ys) type labels returns scope) (front xs i x h is))
      ∙ left

  pub part-faults : (xs : List X) (i : ℕ) (x : X) (labels : Labels) (scope : Scope) (all : List Refusal) → i < length xs → x ≡ get_or xs i x
      → parts_in_order (map f (drop i xs)) type labels returns scope ≡ all
      → all ≡ (f x).faults type labels returns scope ++ parts_in_order (map f (drop (i + 1) xs)) type ((f x).labels type labels) returns (behind (f x).declares scope)
  part-faults xs i x labels scope all h is left = sym left ∙ ap (λ ys. parts_in_order (map f ys) type labels returns scope) (front xs i x h is)
