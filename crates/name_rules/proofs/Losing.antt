-- How many bytes names can lose: the greatest number that passes is found from above.
use Rattle.std.proofs.Common.{◌≡◌, ◌⊎◌, inl, inr, ℕ, zero, suc, ◌+◌, ◌-◌, ◌<◌, ◌≤◌, Bool, true, false, cond, not, ◌&&◌, eqb, leb, ltb, max, min, List, [], ◌∷◌, length, get_or, take, drop, bytes_eq, filter, map, refl, sym, ap, ◌∙◌, arith}
use Rattle.std.specs.List.{list_all, range_with_len, AllByRecursion}
use Rattle.std.specs.Char.{is_ascii_digit}
use Rattle.std.proofs.lemmas.Bool.{and_parts, and_left, and_right, and_from, ltb-true, le-leb, lt-leb, cases_eq, cases_lt, cases_Bool, cond_both}
use Rattle.std.proofs.lemmas.Bool.Decides.{nat_tests}
use Rattle.std.proofs.lemmas.List.{take_more}
use Rattle.std.proofs.lemmas.List.Folds.{list_all-append}
use Rattle.name_rules.specs.Pruning.{can_lose, greatest}
use Rattle.name_rules.specs.Fronts.{front_len, loses, most_lost}

-- ---- what two texts begin with alike

pub front_len-nil : (xs : List ℕ) → front_len xs [] ≡ 0
front_len-nil [] = refl
front_len-nil (x ∷ xs) = refl

flip : (x y : ℕ) → eqb y x ≡ eqb x y
flip x y = grind (arith, nat_tests)

leb-suc : (m n : ℕ) → leb (suc m) (suc n) ≡ leb m n
leb-suc m n = grind (arith, nat_tests)

pub take-leb : (n : ℕ) (xs ys : List ℕ) → n ≤ length xs → bytes_eq (take n ys) (take n xs) ≡ leb n (front_len xs ys)
take-leb zero xs ys h = sym (le-leb 0 (front_len xs ys) (omega arith))
take-leb (suc n) [] ys h = absurd (omega arith)
take-leb (suc n) (x ∷ xs) [] h = sym (lt-leb (suc n) 0 (omega arith))
take-leb (suc n) (x ∷ xs) (y ∷ ys) h = by (eqb x y) refl (take-leb n xs ys (omega arith)) where
  by : (b : Bool) → eqb x y ≡ b → bytes_eq (take n ys) (take n xs) ≡ leb n (front_len xs ys) → (eqb y x && bytes_eq (take n ys) (take n xs)) ≡ leb (suc n) (cond b (suc (front_len xs ys)) 0)
  by true s e = (λ i. (flip x y ∙ s) i && e i) ∙ sym (leb-suc n (front_len xs ys))
  by false s e = ap (λ c. c && bytes_eq (take n ys) (take n xs)) (flip x y ∙ s) ∙ sym (lt-leb (suc n) 0 (omega arith))

-- ---- names one by one

leb-min : (n a b : ℕ) → leb n (min a b) ≡ (leb n a && leb n b)
leb-min n a b = grind (arith, nat_tests)

and_true : (b : Bool) → (b && true) ≡ b
and_true true = refl
and_true false = refl

pub one_more : (p : List ℕ → Bool) (names : List (List ℕ)) (i n a b : ℕ) (d : List ℕ) → i < length names → list_all p (take i names) ≡ leb n a → p (get_or names i d) ≡ leb n b → list_all p (take (i + 1) names) ≡ leb n (min a b)
one_more p names i n a b d lt h e =
    ap (list_all p) (take_more names i d lt)
    ∙ list_all-append p (take i names) (get_or names i d ∷ [])
    ∙ (λ j. h j && (e j && true))
    ∙ ap (λ c. leb n a && c) (and_true (leb n b))
    ∙ sym (leb-min n a b)

-- ---- the greatest number that passes

max-above : (a b : ℕ) → b ≤ a → max a b ≡ a
max-above a b h = omega arith

max-below : (a b : ℕ) → a ≤ b → max a b ≡ b
max-below a b h = omega arith

module _ (p : ℕ → Bool) where
  greatest-none : (a m : ℕ) → ((k : ℕ) → a ≤ k → k < a + m → p k ≡ false) → greatest (filter p (range_with_len a m)) ≡ 0
  greatest-none a zero h = refl
  greatest-none a (suc m) h = rw (h a (omega arith) (omega arith)) (greatest-none (a + 1) m (λ k b c. h k (omega arith) (omega arith)))

  greatest-at : (n a m : ℕ) → a ≤ n → n < a + m → p n ≡ true → ((k : ℕ) → n < k → k < a + m → p k ≡ false) → greatest (filter p (range_with_len a m)) ≡ n
  greatest-at n a zero b c t h = absurd (omega arith)
  greatest-at n a (suc m) b c t h = by (cases_eq a n) (greatest-none (a + 1) m) (greatest-at n (a + 1) m) where
    by : (a ≡ n) ⊎ (a ≡ n → ⊥) → (((k : ℕ) → a + 1 ≤ k → k < a + 1 + m → p k ≡ false) → greatest (filter p (range_with_len (a + 1) m)) ≡ 0)
        → (a + 1 ≤ n → n < a + 1 + m → p n ≡ true → ((k : ℕ) → n < k → k < a + 1 + m → p k ≡ false) → greatest (filter p (range_with_len (a + 1) m)) ≡ n)
        → greatest (cond (p a) (a ∷ filter p (range_with_len (a + 1) m)) (filter p (range_with_len (a + 1) m))) ≡ n
    by (inl e) none later =
        let zero_rest = none (λ k u v. h k (omega arith) (omega arith)) in
        let here : p a ≡ true = ap p e ∙ t in
        ap (λ c. greatest (cond c (a ∷ filter p (range_with_len (a + 1) m)) (filter p (range_with_len (a + 1) m)))) here
        ∙ ap (max a) zero_rest ∙ max-above a 0 (omega arith) ∙ e
    by (inr ne) none later =
        let found = later (omega arith) (omega arith) t (λ k u v. h k u (omega arith)) in
        cond_both (p a) (a ∷ filter p (range_with_len (a + 1) m)) (filter p (range_with_len (a + 1) m)) (λ (xs : List ℕ). greatest xs ≡ n)
        (λ u. ap (max a) found ∙ max-below a n (omega arith)) (λ u. found)

  greatest-passes : (xs : List ℕ) → (greatest (filter p xs) ≡ 0) ⊎ (p (greatest (filter p xs)) ≡ true)
  greatest-passes [] = inl refl
  greatest-passes (x ∷ xs) = by (cases_Bool (p x)) (greatest-passes xs) where
    at_most : (g : ℕ) → p x ≡ true → (g ≡ 0) ⊎ (p g ≡ true) → (x < g) ⊎ (g ≤ x) → (max x g ≡ 0) ⊎ (p (max x g) ≡ true)
    at_most g e (inl z) o = inr (ap p (max-above x g (omega arith)) ∙ e)
    at_most g e (inr q) (inl lt) = inr (ap p (max-below x g (omega arith)) ∙ q)
    at_most g e (inr q) (inr le) = inr (ap p (max-above x g le) ∙ e)

    by : (p x ≡ true) ⊎ (p x ≡ false) → (greatest (filter p xs) ≡ 0) ⊎ (p (greatest (filter p xs)) ≡ true)
        → (greatest (cond (p x) (x ∷ filter p xs) (filter p xs)) ≡ 0) ⊎ (p (greatest (cond (p x) (x ∷ filter p xs) (filter p xs))) ≡ true)
    by (inl e) later = rw e (at_most (greatest (filter p xs)) e later (cases_lt x (greatest (filter p xs))))
    by (inr e) later = rw e later

-- ---- the names

swap-and : (q b l : Bool) → (q && (b && l)) ≡ (b && (q && l))
swap-and true b l = refl
swap-and false true l = refl
swap-and false false l = refl

regroup : (b c d e bs ls : Bool) → ((((b && c) && d) && e) && (bs && ls)) ≡ ((b && bs) && (((c && d) && e) && ls))
regroup true c d e bs ls = swap-and ((c && d) && e) bs ls
regroup false c d e bs ls = refl

-- they can all lose n bytes where they begin alike and each loses them
pub all-can_lose : (first : List ℕ) (n : ℕ) (names : List (List ℕ)) → list_all (can_lose first n) names ≡ (list_all (λ x. bytes_eq (take n x) (take n first)) names && list_all (loses n) names)
all-can_lose first n [] = refl
all-can_lose first n (x ∷ names) =
    ap (λ l. can_lose first n x && l) (all-can_lose first n names)
    ∙ regroup (bytes_eq (take n x) (take n first)) (eqb (get_or x (n - 1) 0) 95) (ltb n (length x)) (not (is_ascii_digit (get_or x n 0))) _ _

-- where all names begin alike up to here, what each loses decides, and further on none can lose as much
module _ (first : List ℕ) (names : List (List ℕ)) (shared k : ℕ) (alike : list_all (λ x. bytes_eq (take k x) (take k first)) names ≡ leb k shared) where
  pub beyond : shared < k → list_all (can_lose first k) names ≡ false
  beyond h = all-can_lose first k names ∙ and_left _ (list_all (loses k) names) (alike ∙ lt-leb k shared h)

  pub up_to : k ≤ shared → list_all (loses k) names ≡ true → list_all (can_lose first k) names ≡ true
  up_to h t = all-can_lose first k names ∙ and_from _ _ (alike ∙ le-leb k shared h) t

pub one_stays : (first : List ℕ) (names : List (List ℕ)) (k : ℕ) → list_all (loses k) names ≡ false → list_all (can_lose first k) names ≡ false
one_stays first names k h = all-can_lose first k names ∙ and_right _ (list_all (loses k) names) h

pub most_lost-none : (first : List ℕ) (names : List (List ℕ)) → ((k : ℕ) → 0 < k → k ≤ length first → list_all (can_lose first k) names ≡ false) → 0 ≡ most_lost first names
most_lost-none first names h = sym (greatest-none (λ n. list_all (can_lose first n) names) 1 (length first) (λ k a b. h k (omega arith) (omega arith)))

pub most_lost-at : (first : List ℕ) (names : List (List ℕ)) (n : ℕ) → 0 < n → n ≤ length first → list_all (can_lose first n) names ≡ true
    → ((k : ℕ) → n < k → k ≤ length first → list_all (can_lose first k) names ≡ false) → n ≡ most_lost first names
most_lost-at first names n a b t h = sym (greatest-at (λ n. list_all (can_lose first n) names) n 1 (length first) (omega arith) (omega arith) t (λ k u v. h k u (omega arith)))

within : (first : List ℕ) (n : ℕ) (names : List (List ℕ)) → list_all (can_lose first n) names ≡ true → AllByRecursion (λ x. n ≤ length x) names
within first n [] h = tt
within first n (x ∷ names) h =
    let here = and_parts (can_lose first n x) (list_all (can_lose first n) names) h in
    let digit = and_parts _ (not (is_ascii_digit (get_or x n 0))) here.0 in
    let inside = and_parts _ (ltb n (length x)) digit.0 in
    let lt : n < length x = ltb-true n (length x) inside.1 in
    (omega arith, within first n names here.1)

pub drop-none : (names : List (List ℕ)) → map (drop 0) names ≡ names
drop-none [] = refl
drop-none (x ∷ names) = ap (λ xs. x ∷ xs) (drop-none names)

pub nothing : (names : List (List ℕ)) (n : ℕ) → n ≡ 0 → AllByRecursion (λ x. n ≤ length x) names
nothing [] n h = tt
nothing (x ∷ names) n h = (omega arith, nothing names n h)

pub most_lost-within : (first : List ℕ) (names : List (List ℕ)) → AllByRecursion (λ x. most_lost first names ≤ length x) names
most_lost-within first names = by (greatest-passes (λ n. list_all (can_lose first n) names) (range_with_len 1 (length first))) where
  by : (most_lost first names ≡ 0) ⊎ (list_all (can_lose first (most_lost first names)) names ≡ true) → AllByRecursion (λ x. most_lost first names ≤ length x) names
  by (inl z) = nothing names (most_lost first names) z
  by (inr p) = within first (most_lost first names) names p
