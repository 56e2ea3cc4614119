-- Blocks of locals.
use Rattle.std.proofs.Common.{◌≡◌, ℕ, zero, suc, ◌+◌, ◌<◌, ◌≤◌, length, take, drop, set, get_or, Bool, true, false, cond, List, [], ◌∷◌, ◌++◌, bytes_eq, Some, None, is_some, refl, sym, ap, ◌∙◌, arith}
use Rattle.cg_out.specs.Words.{look_up}
use Rattle.name_table.specs.WithValue.{with_value}
use Rattle.c_effect.specs.declared.state.Held.{Held}
use Rattle.c_effect.specs.Locals.{Block, set_local}

-- a name that is not there
pub record Absent (name : List ℕ) (held : Held) (block : Block) : Type 0 where
  pub none : look_up name block ≡ None
  pub same : with_value name held block ≡ block

step : (name n : List ℕ) (held h : Held) (rest : Block) (is : Bool) → bytes_eq n name ≡ is → is_some (cond is (Some h) (look_up name rest)) ≡ false
    → (is_some (look_up name rest) ≡ false → Absent name held rest) → Absent name held ((n, h) ∷ rest)
step name n held h rest true e has ih = absurd (cc)
step name n held h rest false e has ih =
    let r = ih has in record { none = rw (e, r.none) refl; same = rw (e, r.same) refl }

pub absent : (name : List ℕ) (held : Held) (block : Block) → is_some (look_up name block) ≡ false → Absent name held block
absent name held [] has = record { none = refl; same = refl }
absent name held ((n, h) ∷ rest) has = step name n held h rest (bytes_eq n name) refl has (absent name held rest)

-- ---- a local is set

pub set_step : (name : List ℕ) (held : Held) (block : Block) (blocks : List Block)
    → set_local name held (block ∷ blocks) ≡ cond (is_some (look_up name block)) (with_value name held block ∷ blocks) (block ∷ set_local name held blocks)
unfolding set_local
set_step name held block blocks = refl

pub set_none : (name : List ℕ) (held : Held) → set_local name held [] ≡ []
unfolding set_local
set_none name held = refl

module _ (name : List ℕ) (held : Held) where
  past : (xs : List Block) (i : ℕ) (d : Block) → i < length xs → is_some (look_up name (get_or xs i d)) ≡ false
      → take (i + 1) xs ++ set_local name held (drop (i + 1) xs) ≡ take i xs ++ set_local name held (drop i xs)
  past [] i d h e = absurd (omega (arith, h))
  past (x ∷ xs) zero d h e = sym (set_step name held x xs ∙ rw e refl)
  past (x ∷ xs) (suc i) d h e = let next : suc i + 1 ≡ suc (i + 1) = omega arith in rw next (ap (λ ys. x ∷ ys) (past xs i d (omega (arith, h)) e))

  at : (xs : List Block) (i : ℕ) (d : Block) → i < length xs → is_some (look_up name (get_or xs i d)) ≡ true
      → set xs i (with_value name held (get_or xs i d)) ≡ take i xs ++ set_local name held (drop i xs)
  at [] i d h e = absurd (omega (arith, h))
  at (x ∷ xs) zero d h e = sym (set_step name held x xs ∙ rw e refl)
  at (x ∷ xs) (suc i) d h e = ap (λ ys. x ∷ ys) (at xs i d (omega (arith, h)) e)

  kept : (xs : List Block) (i : ℕ) (d : Block) → i < length xs → set xs i (get_or xs i d) ≡ xs
  kept [] i d h = absurd (omega (arith, h))
  kept (x ∷ xs) zero d h = refl
  kept (x ∷ xs) (suc i) d h = ap (λ ys. x ∷ ys) (kept xs i d (omega (arith, h)))

  -- the block that has the name is changed
  pub sets-at : (xs : List Block) (i : ℕ) (y new : Block) → i < length xs → y ≡ get_or xs i y → true ≡ is_some (look_up name y) → new ≡ with_value name held y
      → set xs i new ≡ take i xs ++ set_local name held (drop i xs)
  sets-at xs i y new h is has changed =
      ap (set xs i) (changed ∙ ap (with_value name held) is) ∙ at xs i y h (ap (λ b. is_some (look_up name b)) (sym is) ∙ sym has)

  -- a block that has not stays, and the next one is asked
  pub stays-at : (xs : List Block) (i : ℕ) (y new : Block) → i < length xs → y ≡ get_or xs i y → false ≡ is_some (look_up name y) → new ≡ with_value name held y
      → set xs i new ≡ xs
  stays-at xs i y new h is has changed = ap (set xs i) (changed ∙ Absent.same (absent name held y (sym has)) ∙ is) ∙ kept xs i y h

  pub passes-at : (xs : List Block) (i : ℕ) (y : Block) → i < length xs → y ≡ get_or xs i y → false ≡ is_some (look_up name y)
      → take (i + 1) xs ++ set_local name held (drop (i + 1) xs) ≡ take i xs ++ set_local name held (drop i xs)
  passes-at xs i y h is has = past xs i y h (ap (λ b. is_some (look_up name b)) (sym is) ∙ sym has)

  -- no block has it
  pub passes-all : (xs : List Block) (i : ℕ) → length xs ≤ i → take i xs ++ set_local name held (drop i xs) ≡ xs
  passes-all [] zero h = set_none name held
  passes-all [] (suc i) h = set_none name held
  passes-all (x ∷ xs) zero h = absurd (omega (arith, h))
  passes-all (x ∷ xs) (suc i) h = ap (λ ys. x ∷ ys) (passes-all xs i (omega (arith, h)))
