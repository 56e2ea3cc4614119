-- Of more candidates than there are taken names some is free: the candidates differ, and so do no more of them stand among the taken names than there are.
use Rattle.std.proofs.Common.{◌≡◌, ◌⊎◌, inl, inr, ℕ, zero, suc, ◌+◌, ◌-◌, ◌^◌, ◌<◌, ◌≤◌, Bool, true, false, cond, ◌||◌, eqb, List, [], ◌∷◌, ◌++◌, length, map, bytes_eq, is_some, Option, Some, refl, sym, ap, ◌∙◌, arith, length-append, append_assoc}
use Rattle.std.specs.Prelude.{codes}
use Rattle.std.specs.Global.{Vec}
use Rattle.std.specs.Fmt.{decimal}
use Rattle.std.specs.List.{range_with_len, IsDistinct, AllByRecursion}
use Rattle.std.specs.Set.{is_member}
use Rattle.std.proofs.lemmas.Bool.{cases_lt, or_cases, false_from_ne_true, eqb-true}
use Rattle.std.proofs.lemmas.Cmp.{nat_list_eq_equiv}
use Rattle.std.proofs.lemmas.Fmt.{decimal_injective}
use Rattle.std.proofs.lemmas.List.{append_cancel_left, length-map}
use Rattle.std.proofs.lemmas.List.Folds.{list_any-append}
use Rattle.std.proofs.lemmas.List.FromFn.{length-map-range_with_len}
use Rattle.std.proofs.lemmas.Map.Made.{length-le_from_is_member}
use Rattle.cg_out.specs.Words.{look_up}
use Rattle.name_rules.specs.declared.picking.PlaceKind.{PlaceKind}
use Rattle.name_rules.specs.declared.picking.PlaceKind.TheVariants.{File, Struct, Locals}
use Rattle.name_rules.specs.Reserved.{keywords, given_names, sized_types, helper_names, parameter_names, is_among, is_reserved, is_reserved_local}
use Rattle.name_rules.specs.Picks.{candidate}
use Rattle.name_rules.specs.Places.{is_reserved_in, seen_name, taken_among, Resumes}
use Rattle.name_rules.proofs.Seen.{same_name, either_way}

-- ---- the taken names as a list

outer_words : List (List ℕ)
outer_words = (keywords ++ given_names) ++ sized_types

local_words : List (List ℕ)
local_words = (outer_words ++ parameter_names) ++ helper_names

abbrev words_of : PlaceKind → List (List ℕ)
words_of File = outer_words
words_of Struct = outer_words
words_of Locals = local_words

few-outer : length outer_words ≤ 97
unfolding outer_words keywords given_names sized_types
few-outer = omega arith

few-local : length local_words ≤ 97
unfolding local_words outer_words keywords given_names sized_types parameter_names helper_names
few-local = omega arith

few : (kind : PlaceKind) → length (words_of kind) ≤ 97
few File = few-outer
few Struct = few-outer
few Locals = few-local

among-outer : (x : List ℕ) → is_among outer_words x ≡ is_reserved x
unfolding outer_words
among-outer x = list_any-append (bytes_eq x) (keywords ++ given_names) sized_types ∙ ap (λ b. b || is_among sized_types x) (list_any-append (bytes_eq x) keywords given_names)

among-local : (x : List ℕ) → is_among local_words x ≡ is_reserved_local x
unfolding local_words
among-local x =
    list_any-append (bytes_eq x) (outer_words ++ parameter_names) helper_names
    ∙ ap (λ b. b || is_among helper_names x) (list_any-append (bytes_eq x) outer_words parameter_names ∙ ap (λ b. b || is_among parameter_names x) (among-outer x))

among-words : (kind : PlaceKind) (x : List ℕ) → is_among (words_of kind) x ≡ is_reserved_in kind x
among-words File x = among-outer x
among-words Struct x = among-outer x
among-words Locals x = among-local x

abbrev seen_names : List (Vec ℕ × ℕ) → List (List ℕ)
seen_names es = map (λ e. e.0.items) es

some-or : (b : Bool) (n : ℕ) (o : Option ℕ) (c : Bool) → is_some o ≡ c → is_some (cond b (Some n) o) ≡ (b || c)
some-or true n o c h = refl
some-or false n o c h = h

among-seen : (x : List ℕ) (es : List (Vec ℕ × ℕ)) → is_some (look_up x (map seen_name es)) ≡ is_among (seen_names es) x
among-seen x [] = refl
among-seen x (e ∷ es) = some-or (bytes_eq e.0.items x) e.1 (look_up x (map seen_name es)) (is_among (map (λ e. e.0.items) es) x) (among-seen x es) ∙ ap (λ b. b || is_among (map (λ e. e.0.items) es) x) (either_way e.0.items x)

taken_names : PlaceKind → List (Vec ℕ × ℕ) → List (List ℕ)
taken_names kind es = seen_names es ++ words_of kind

among-taken : (kind : PlaceKind) (es : List (Vec ℕ × ℕ)) (x : List ℕ) → is_among (taken_names kind es) x ≡ taken_among kind es x
unfolding taken_names
among-taken kind es x = list_any-append (bytes_eq x) (seen_names es) (words_of kind) ∙ (λ i. sym (among-seen x es) i || among-words kind x i)

length-taken : (kind : PlaceKind) (es : List (Vec ℕ × ℕ)) → length (taken_names kind es) ≤ length es + 97
unfolding taken_names
length-taken kind es = omega (arith, length-append (map (λ (e : Vec ℕ × ℕ). e.0.items) es) (words_of kind), length-map es (λ (e : Vec ℕ × ℕ). e.0.items), few kind)

-- ---- candidates differ

candidate-suffix : (x : List ℕ) (k : ℕ) → 2 ≤ k → candidate x k ≡ x ++ (codes "_" ++ decimal k)
candidate-suffix x k h = by (eqb k 1) refl where
  by : (b : Bool) → eqb k 1 ≡ b → cond b x (x ++ codes "_" ++ decimal k) ≡ x ++ (codes "_" ++ decimal k)
  by true s = let one : k ≡ 1 = eqb-true k 1 s in absurd (omega arith)
  by false s = append_assoc x (codes "_") (decimal k)

candidates-differ : (x : List ℕ) (j k : ℕ) → 2 ≤ j → j < k → k < 2 ^ 64 → bytes_eq (candidate x j) (candidate x k) ≡ false
candidates-differ x j k a b c = false_from_ne_true (bytes_eq (candidate x j) (candidate x k)) (λ e.
    let same : x ++ (codes "_" ++ decimal j) ≡ x ++ (codes "_" ++ decimal k) = sym (candidate-suffix x j a) ∙ same_name (candidate x j) (candidate x k) e ∙ candidate-suffix x k (omega arith) in
    let ends : codes "_" ++ decimal j ≡ codes "_" ++ decimal k = append_cancel_left x (codes "_" ++ decimal j) (codes "_" ++ decimal k) same in
    let digits : decimal j ≡ decimal k = append_cancel_left (codes "_") (decimal j) (decimal k) ends in
    let numbers : j ≡ k = decimal_injective j k (omega arith) c digits in
    absurd (omega arith))

later-differ : (x : List ℕ) (j a m : ℕ) → 2 ≤ j → j < a → a + m ≤ 2 ^ 64 → AllByRecursion (λ y. bytes_eq (candidate x j) y ≡ false) (map (candidate x) (range_with_len a m))
later-differ x j a zero p q r = tt
later-differ x j a (suc m) p q r = (candidates-differ x j a p q (omega arith), later-differ x j (a + 1) m p (omega arith) (omega arith))

candidates-distinct : (x : List ℕ) (a m : ℕ) → 2 ≤ a → a + m ≤ 2 ^ 64 → IsDistinct bytes_eq (map (candidate x) (range_with_len a m))
unfolding IsDistinct
candidates-distinct x a zero p r = tt
candidates-distinct x a (suc m) p r = (later-differ x a (a + 1) m p (omega arith) (omega arith), candidates-distinct x (a + 1) m (omega arith) (omega arith))

-- ---- all of them are taken

members-taken : (is_taken : List ℕ → Bool) (x q : List ℕ) (a m : ℕ) → ((k : ℕ) → a ≤ k → k < a + m → is_taken (candidate x k) ≡ true) → is_member bytes_eq (map (candidate x) (range_with_len a m)) q ≡ true → is_taken q ≡ true
members-taken is_taken x q a zero h e = absurd (let f : ◌≡◌ {A = Bool} false true = e in cc)
members-taken is_taken x q a (suc m) h e =
    by (or_cases (bytes_eq q (candidate x a)) (is_member bytes_eq (map (candidate x) (range_with_len (a + 1) m)) q) e) (members-taken is_taken x q (a + 1) m (λ k b c. h k (omega arith) (omega arith))) where
      by : (bytes_eq q (candidate x a) ≡ true) ⊎ (is_member bytes_eq (map (candidate x) (range_with_len (a + 1) m)) q ≡ true)
          → (is_member bytes_eq (map (candidate x) (range_with_len (a + 1) m)) q ≡ true → is_taken q ≡ true) → is_taken q ≡ true
      by (inl s) later = ap is_taken (same_name q (candidate x a) s) ∙ h a (omega arith) (omega arith)
      by (inr s) later = later s

crowded : (kind : PlaceKind) (es : List (Vec ℕ × ℕ)) (x : List ℕ) (n : ℕ) → length es + 99 < n → n < 2 ^ 64 → ((k : ℕ) → 1 ≤ k → k < n → taken_among kind es (candidate x k) ≡ true) → ⊥
crowded kind es x n large small all =
    let m = n - 2 in
    let xs = map (candidate x) (range_with_len 2 m) in
    let member = λ (q : List ℕ) (e : is_member bytes_eq xs q ≡ true). among-taken kind es q ∙ members-taken (taken_among kind es) x q 2 m (λ k a b. all k (omega arith) (omega arith)) e in
    let le : length xs ≤ length (taken_names kind es) = length-le_from_is_member nat_list_eq_equiv xs (taken_names kind es) (candidates-distinct x 2 m (omega arith) (omega arith)) member in
    omega (arith, length-map-range_with_len (candidate x) 2 m, length-taken kind es)

-- so no suffix from this limit on has all candidates below it taken
pub resumes-lt : (kind : PlaceKind) (es : List (Vec ℕ × ℕ)) (x : List ℕ) (limit next : ℕ) → length es + 99 < limit → limit < 2 ^ 64 → Resumes (taken_among kind es) x next → next < limit
resumes-lt kind es x limit next large small r = by (cases_lt next limit) where
  by : (next < limit) ⊎ (limit ≤ next) → next < limit
  by (inl lt) = lt
  by (inr le) = absurd (crowded kind es x limit large small (λ k a b. r.taken k a (omega arith)))
