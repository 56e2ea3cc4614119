-- Two lists gone over side by side, where each pair puts some items.
use Rattle.std.proofs.Common.{◌≡◌, ℕ, suc, ◌+◌, ◌<◌, min, List, [], ◌∷◌, ◌++◌, length, get_or, take, refl, sym, ap, ◌∙◌, arith, append-nil, append_assoc}
use Rattle.std.specs.List.{flat_map, zip}
use Rattle.std.proofs.lemmas.List.{take_more, take_all}
use Rattle.std.proofs.lemmas.List.Concat.{flat_map-append}
use Rattle.std.proofs.lemmas.Slice.Zip.{length-zip, get_or-zip}
use Rattle.can_model.specs.declared.database.Signal.{Signal}
use Rattle.name_rules.specs.declared.table.SignalNames.{SignalNames}
use Rattle.c_tree.specs.BareStatement.{Action}
use Rattle.gen_pack.specs.Parts.{Part, part, parts_from}

module _ {A B : Type 0} where
  -- one pair more is taken
  pub take-pair : (xs : List A) (ys : List B) (i : ℕ) (x : A) (y : B) → i < length xs → i < length ys → x ≡ get_or xs i x → y ≡ get_or ys i y
      → take (i + 1) (zip xs ys) ≡ take i (zip xs ys) ++ (x, y) ∷ []
  take-pair xs ys i x y a b e f =
      let inside : i < length (zip xs ys) = omega (arith, length-zip xs ys) in
      take_more (zip xs ys) i (x, y) inside
      ∙ ap (λ (p : A × B). take i (zip xs ys) ++ p ∷ []) (get_or-zip xs ys i (x, y) a b ∙ (λ j. (sym e j, sym f j)))

module _ {A B C : Type 0} (put : A × B → List C) where
  -- what the first so many pairs put
  abbrev pub put_by : List A → List B → ℕ → List C
  put_by xs ys i = flat_map put (take i (zip xs ys))

  put-more : (ps : List (A × B)) (p : A × B) → flat_map put (ps ++ p ∷ []) ≡ flat_map put ps ++ put p
  put-more ps p = flat_map-append put ps (p ∷ []) ∙ ap (λ (r : List C). flat_map put ps ++ r) (append-nil (put p))

  -- one pair more is put
  pub one_more : (before now : List C) (xs : List A) (ys : List B) (i j : ℕ) (x : A) (y : B) → j ≡ i + 1 → i < length xs → i < length ys → x ≡ get_or xs i x → y ≡ get_or ys i y
      → now ≡ before ++ put_by xs ys i → now ++ put (x, y) ≡ before ++ put_by xs ys j
  one_more before now xs ys i j x y k a b e f h =
      ap (λ (r : List C). r ++ put (x, y)) h
      ∙ append_assoc before (put_by xs ys i) (put (x, y))
      ∙ ap (λ (r : List C). before ++ r) (sym (ap (λ (u : ℕ). put_by xs ys u) k ∙ ap (flat_map put) (take-pair xs ys i x y a b e f) ∙ put-more (take i (zip xs ys)) (x, y)))

  -- at the end all are
  pub all_pairs : (xs : List A) (ys : List B) (i : ℕ) → i ≡ min (length xs) (length ys) → put_by xs ys i ≡ flat_map put (zip xs ys)
  all_pairs xs ys i h = ap (flat_map put) (take_all i (zip xs ys) (omega (arith, length-zip xs ys)))

-- ---- the statements of signals with their names

-- the statements that a signal with its names puts, whatever its number
abbrev pub of_pair : (Part → List Action) → Signal × SignalNames → List Action
of_pair put p = put (part 0 p.0 p.1)

-- which number a signal has changes none of its statements
pub record IsAnyNumber (put : Part → List Action) : Type 0 where
  pub same : (i : ℕ) (s : Signal) (n : SignalNames) → put (part i s n) ≡ put (part 0 s n)

pub parts-in-pairs : (put : Part → List Action) → IsAnyNumber put → (i : ℕ) (ss : List Signal) (ns : List SignalNames) → flat_map (of_pair put) (zip ss ns) ≡ flat_map put (parts_from i ss ns)
parts-in-pairs put any i [] ns = refl
parts-in-pairs put any i (s ∷ ss) [] = refl
parts-in-pairs put any i (s ∷ ss) (n ∷ ns) = rw (parts-in-pairs put any (suc i) ss ns) (ap (λ r. r ++ flat_map put (parts_from (suc i) ss ns)) (sym (any.same i s n)))
