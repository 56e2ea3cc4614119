-- Tables of the code against lists of names with values.
use Rattle.std.proofs.Common.{◌≡◌, ℕ, ◌+◌, Bool, true, false, cond, List, [], ◌∷◌, ◌++◌, length, map, bytes_eq, Some, None, refl, sym, ap, ◌∙◌, arith}
use Rattle.std.specs.Prelude.{not, nat_lt, position}
use Rattle.std.specs.List.{prefix_len}
use Rattle.std.proofs.lemmas.Grind.{common_steps}
use Rattle.std.proofs.lemmas.List.{length-map}
use Rattle.std.proofs.lemmas.Slice.Eq.{bytes_eq-Decides}
use Rattle.std.specs.Borrow.{Bor}
use Rattle.std.specs.Map.{keys_of, lookup, set_value}
use Rattle.indexmap.specs.IndexMap.{insert_entry}
use Rattle.cg_out.specs.Words.{look_up}
use Rattle.name_table.specs.Entries.{named}
use Rattle.name_table.specs.WithValue.{with_value}

abbrev pub same_key : Bor (List ℕ) → Bor (List ℕ) → Bool
same_key a b = bytes_eq a.now b.now

pub either-way : (a b : List ℕ) → bytes_eq a b ≡ bytes_eq b a
either-way a b = grind (arith, common_steps, bytes_eq-Decides)

module _ {X Y : Type 0} (f : X → Y) (p : Y → Bool) where
  prefix_len-map : (xs : List X) → prefix_len (λ y. not (p y)) (map f xs) ≡ prefix_len (λ x. not (p (f x))) xs
  prefix_len-map [] = refl
  prefix_len-map (x ∷ xs) = ap (λ n. cond (not (p (f x))) (1 + n) 0) (prefix_len-map xs)

  -- among values that others stand for
  pub position-map : (xs : List X) → position p (map f xs) ≡ position (λ x. p (f x)) xs
  position-map xs =
      let place = prefix_len (λ x. not (p (f x))) xs in
      ap (λ n. cond (nat_lt n (length (map f xs))) (Some n) None) (prefix_len-map xs)
      ∙ ap (λ n. cond (nat_lt place n) (Some place) None) (length-map xs f)

module _ {V : Type 0} where
  pub look-lookup : (name : List ℕ) (es : List (Bor (List ℕ) × V)) → look_up name (map named es) ≡ lookup (λ k. bytes_eq name k.now) es
  look-lookup name [] = refl
  look-lookup name (e ∷ es) =
      ap (λ b. cond b (Some e.1) (look_up name (map named es))) (either-way e.0.now name)
      ∙ ap (cond (bytes_eq name e.0.now) (Some e.1)) (look-lookup name es)

  pub insert-new : (name : Bor (List ℕ)) (value : V) (es : List (Bor (List ℕ) × V)) → look_up name.now (map named es) ≡ None
      → map named (insert_entry same_key es name value) ≡ map named es ++ (name.now, value) ∷ []
  insert-new name value [] h = refl
  insert-new name value (e ∷ es) h = by (bytes_eq name.now e.0.now) refl (insert-new name value es)
    where
      turned : (b : Bool) → bytes_eq name.now e.0.now ≡ b → cond b (Some e.1) (look_up name.now (map named es)) ≡ None
      turned b s = ap (λ b. cond b (Some e.1) (look_up name.now (map named es))) (sym s ∙ either-way name.now e.0.now) ∙ h

      by : (b : Bool) → bytes_eq name.now e.0.now ≡ b → (look_up name.now (map named es) ≡ None → map named (insert_entry same_key es name value) ≡ map named es ++ (name.now, value) ∷ []) → map named (insert_entry same_key (e ∷ es) name value) ≡ map named (e ∷ es) ++ (name.now, value) ∷ []
      by true s more = let found : Some e.1 ≡ None = turned true s in cc
      by false s more =
          ap (λ b. map named (cond b ((e.0, value) ∷ es) (e ∷ insert_entry same_key es name value))) s
          ∙ ap (λ r. named e ∷ r) (more (turned false s))

  -- ---- another value

  pub set-with_value : (name : List ℕ) (value : V) (es : List (Bor (List ℕ) × V))
      → map named (set_value (λ k. bytes_eq name k.now) es value) ≡ with_value name value (map named es)
  set-with_value name value [] = refl
  set-with_value name value (e ∷ es) =
      by (bytes_eq name e.0.now) (set-with_value name value es)
      ∙ ap (λ b. cond b ((e.0.now, value) ∷ map named es) (named e ∷ with_value name value (map named es))) (either-way name e.0.now)
    where
      by : (b : Bool) → map named (set_value (λ k. bytes_eq name k.now) es value) ≡ with_value name value (map named es)
          → map named (cond b ((e.0, value) ∷ es) (e ∷ set_value (λ k. bytes_eq name k.now) es value)) ≡ cond b ((e.0.now, value) ∷ map named es) (named e ∷ with_value name value (map named es))
      by true more = refl
      by false more = ap (λ r. named e ∷ r) more

  -- a name that has no value
  pub with_value-absent : (name : List ℕ) (value : V) (es : List (List ℕ × V)) → look_up name es ≡ None → with_value name value es ≡ es
  with_value-absent name value [] h = refl
  with_value-absent name value (e ∷ es) h = by (bytes_eq e.0 name) h (with_value-absent name value es)
    where
      by : (b : Bool) → cond b (Some e.1) (look_up name es) ≡ None → (look_up name es ≡ None → with_value name value es ≡ es)
          → cond b ((e.0, value) ∷ es) (e ∷ with_value name value es) ≡ e ∷ es
      by true found more = let no : Some e.1 ≡ None = found in cc
      by false none more = ap (λ r. e ∷ r) (more none)

  -- ---- places

  pub position-named : (name : List ℕ) (es : List (Bor (List ℕ) × V))
      → position (λ k. bytes_eq name k.now) (keys_of es) ≡ position (λ e. bytes_eq name e.0) (map named es)
  position-named name es =
      position-map (λ (e : Bor (List ℕ) × V). e.0) (λ k. bytes_eq name k.now) es
      ∙ sym (position-map named (λ (e : List ℕ × V). bytes_eq name e.0) es)
