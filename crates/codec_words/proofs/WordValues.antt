-- Values that words set one by one, none twice, are those that the words give.
use Rattle.std.proofs.Common.{◌≡◌, ℕ, ◌<◌, Bool, true, false, cond, not, List, [], ◌∷◌, length, map, replicate, get_or, Option, Some, None, refl, sym, ap, subst, ◌∙◌, arith, ℤ, pos}
use Rattle.std.proofs.lemmas.Bool.Decides.{nat_tests}
use Rattle.std.proofs.lemmas.List.{length-set, get_or-set_same, get_or-set_other, length-replicate, get_or-replicate}
use Rattle.std.proofs.lemmas.List.FromFn.{fill_by_all, length-map-range_with_len, get_or-map-range_with_len}
use Rattle.std.proofs.lemmas.Option.{slice_get_within, slice_get-get_or}
use Rattle.std.specs.List.{list_any, AllByRecursion, range_with_len}
use Rattle.std.specs.Option.{option_map, option_and_then}
use Rattle.std.specs.Prelude.{◌&&◌, ◌||◌, ◌==◌, position, slice_get, slice_set, unwrap_or, bytes_eq, IfSome}
use Rattle.can_model.specs.declared.database.Message.{Message}
use Rattle.can_model.specs.declared.database.Signal.{Signal}
use Rattle.command_words.specs.CutWord.{cut_at_last}
use Rattle.command_words.specs.NumberWord.{number_in}
use Rattle.codec_words.specs.NamedValues.{held_by, given_by, pair_of, pairs_of, are_apart, value_for, values_of}
use Rattle.codec_words.specs.Given.{given_once, with_words}

-- ---- the pairs of all words, and then their values

abbrev put_all : List (ℕ × ℤ) → List (Option ℤ) → Option (List (Option ℤ))
put_all [] vs = Some vs
put_all (p ∷ ps) vs = option_and_then (put_all ps) (given_once vs p.0 p.1 (slice_get vs p.0))

none_further : (m : Message) (words : List (List ℕ)) → ((us : List (Option ℤ)) → with_words m words us ≡ None) → (given : Option (List (Option ℤ))) → option_and_then (with_words m words) given ≡ None
none_further m words h None = refl
none_further m words h (Some us) = h us

all_further : (m : Message) (words : List (List ℕ)) (ps : List (ℕ × ℤ)) → ((us : List (Option ℤ)) → with_words m words us ≡ put_all ps us) → (given : Option (List (Option ℤ))) → option_and_then (with_words m words) given ≡ option_and_then (put_all ps) given
all_further m words ps h None = refl
all_further m words ps h (Some us) = h us

first_put : (m : Message) (words : List (List ℕ)) (vs : List (Option ℤ)) (o : Option (ℕ × ℤ)) (r : Option (List (ℕ × ℤ)))
    → ((us : List (Option ℤ)) → with_words m words us ≡ option_and_then (λ ps. put_all ps us) r)
    → option_and_then (with_words m words) (option_and_then (λ p. given_once vs p.0 p.1 (slice_get vs p.0)) o) ≡ option_and_then (λ ps. put_all ps vs) (option_and_then (λ p. option_map (λ ps. p ∷ ps) r) o)
first_put m words vs None r h = refl
first_put m words vs (Some p) None h = none_further m words h (given_once vs p.0 p.1 (slice_get vs p.0))
first_put m words vs (Some p) (Some ps) h = all_further m words ps h (given_once vs p.0 p.1 (slice_get vs p.0))

with_words-put : (m : Message) (words : List (List ℕ)) (vs : List (Option ℤ)) → with_words m words vs ≡ option_and_then (λ ps. put_all ps vs) (pairs_of m words)
with_words-put m [] vs = refl
with_words-put m (word ∷ words) vs = first_put m words vs (pair_of m word) (pairs_of m words) (with_words-put m words)

-- ---- the pairs are of signals

pub given_here : (m : Message) (name text : List ℕ) (i : ℕ) (s : Signal) (v : ℤ) → position (λ s. bytes_eq s.name name) m.signals ≡ Some i → slice_get m.signals i ≡ Some s → option_and_then (held_by s) (number_in text) ≡ Some v → given_by m name text ≡ Some (i, v)
given_here m name text i s v place at value =
    ap (option_and_then (λ i. option_and_then (λ s. option_map (λ v. (i, v)) (option_and_then (held_by s) (number_in text))) (slice_get m.signals i))) place
    ∙ ap (option_and_then (λ s. option_map (λ v. (i, v)) (option_and_then (held_by s) (number_in text)))) at
    ∙ ap (option_map (λ v. (i, v))) value

given_within : (m : Message) (name text : List ℕ) → IfSome (given_by m name text) (λ p. p.0 < length m.signals)
given_within m name text = place (position (λ s. bytes_eq s.name name) m.signals) where
  value : (i : ℕ) (s : Signal) → slice_get m.signals i ≡ Some s → (o : Option ℤ) → IfSome {T = ℕ × ℤ} (option_map (λ v. (i, v)) o) (λ p. p.0 < length m.signals)
  value i s e None = tt
  value i s e (Some v) = slice_get_within m.signals i s e

  signal : (i : ℕ) (o : Option Signal) → slice_get m.signals i ≡ o → IfSome {T = ℕ × ℤ} (option_and_then (λ s. option_map (λ v. (i, v)) (option_and_then (held_by s) (number_in text))) o) (λ p. p.0 < length m.signals)
  signal i None e = tt
  signal i (Some s) e = value i s e (option_and_then (held_by s) (number_in text))

  place : (o : Option ℕ) → IfSome {T = ℕ × ℤ} (option_and_then (λ i. option_and_then (λ s. option_map (λ v. (i, v)) (option_and_then (held_by s) (number_in text))) (slice_get m.signals i)) o) (λ p. p.0 < length m.signals)
  place None = tt
  place (Some i) = signal i (slice_get m.signals i) refl

pair_within : (m : Message) (word : List ℕ) → IfSome (pair_of m word) (λ p. p.0 < length m.signals)
pair_within m word = by (cut_at_last 61 word) where
  by : (o : Option (List ℕ × List ℕ)) → IfSome (option_and_then (λ parts. given_by m parts.0 parts.1) o) (λ p. p.0 < length m.signals)
  by None = tt
  by (Some parts) = given_within m parts.0 parts.1

both_within : (n : ℕ) (o : Option (ℕ × ℤ)) (r : Option (List (ℕ × ℤ))) → IfSome o (λ p. p.0 < n) → IfSome r (AllByRecursion (λ p. p.0 < n)) → IfSome (option_and_then (λ p. option_map (λ ps. p ∷ ps) r) o) (AllByRecursion (λ p. p.0 < n))
both_within n None r a b = tt
both_within n (Some p) None a b = tt
both_within n (Some p) (Some ps) a b = (a, b)

all_within : (m : Message) (words : List (List ℕ)) → IfSome (pairs_of m words) (AllByRecursion (λ p. p.0 < length m.signals))
all_within m [] = tt
all_within m (word ∷ words) = both_within (length m.signals) (pair_of m word) (pairs_of m words) (pair_within m word) (all_within m words)

-- ---- values by the index of their signal

abbrev values_by : ℕ → (ℕ → Option ℤ) → List (Option ℤ)
values_by n slot = map slot (range_with_len 0 n)

abbrev put : ℕ × ℤ → (ℕ → Option ℤ) → ℕ → Option ℤ
put p slot j = cond (j == p.0) (Some p.1) (slot j)

get_in : (n : ℕ) (slot : ℕ → Option ℤ) (i : ℕ) → i < n → slice_get (values_by n slot) i ≡ Some (slot i)
get_in n slot i lt =
    let within : i < length (values_by n slot) = subst (λ k. i < k) (sym (length-map-range_with_len slot 0 n)) lt in
    slice_get-get_or (values_by n slot) i None within ∙ ap Some (get_or-map-range_with_len slot 0 n i i None lt (omega arith))

put_in : (n : ℕ) (slot : ℕ → Option ℤ) (p : ℕ × ℤ) → p.0 < n → slice_set (values_by n slot) p.0 (Some p.1) ≡ values_by n (put p slot)
put_in n slot p lt = fill_by_all (put p slot) (slice_set (values_by n slot) p.0 (Some p.1)) n None (length-set (values_by n slot) p.0 (Some p.1) ∙ length-map-range_with_len slot 0 n) (λ k within. at k within (k == p.0) refl) where
  there : p.0 < length (values_by n slot)
  there = subst (λ k. p.0 < k) (sym (length-map-range_with_len slot 0 n)) lt

  at : (k : ℕ) → k < n → (b : Bool) → (k == p.0) ≡ b → get_or (slice_set (values_by n slot) p.0 (Some p.1)) k None ≡ cond b (Some p.1) (slot k)
  at k within true e =
      let same : k ≡ p.0 = grind (arith, nat_tests) in
      ap (λ j. get_or (slice_set (values_by n slot) p.0 (Some p.1)) j None) same ∙ get_or-set_same (values_by n slot) p.0 (Some p.1) None there
  at k within false e =
      get_or-set_other (values_by n slot) p.0 k (Some p.1) None (λ same. absurd (grind (arith, nat_tests)))
      ∙ get_or-map-range_with_len slot 0 n k k None within (omega arith)

-- ---- pairs one by one: each is of a signal that has no value yet

abbrev no_value : Option ℤ → Bool
no_value None = true
no_value (Some v) = false

abbrev fits : List (ℕ × ℤ) → (ℕ → Option ℤ) → Bool
fits [] slot = true
fits (p ∷ ps) slot = no_value (slot p.0) && fits ps (put p slot)

abbrev after : List (ℕ × ℤ) → (ℕ → Option ℤ) → ℕ → Option ℤ
after [] slot = slot
after (p ∷ ps) slot = after ps (put p slot)

one_put : (n : ℕ) (slot : ℕ → Option ℤ) (p : ℕ × ℤ) (ps : List (ℕ × ℤ)) → p.0 < n → put_all ps (values_by n (put p slot)) ≡ cond (fits ps (put p slot)) (Some (values_by n (after ps (put p slot)))) None
    → (o : Option ℤ) → option_and_then (put_all ps) (given_once (values_by n slot) p.0 p.1 (Some o)) ≡ cond (no_value o && fits ps (put p slot)) (Some (values_by n (after ps (put p slot)))) None
one_put n slot p ps lt h None = ap (put_all ps) (put_in n slot p lt) ∙ h
one_put n slot p ps lt h (Some v) = refl

put_all-is : (n : ℕ) (ps : List (ℕ × ℤ)) (slot : ℕ → Option ℤ) → AllByRecursion (λ p. p.0 < n) ps → put_all ps (values_by n slot) ≡ cond (fits ps slot) (Some (values_by n (after ps slot))) None
put_all-is n [] slot h = refl
put_all-is n (p ∷ ps) slot h =
    ap (λ o. option_and_then (put_all ps) (given_once (values_by n slot) p.0 p.1 o)) (get_in n slot p.0 h.0)
    ∙ one_put n slot p ps h.0 (put_all-is n ps (put p slot) h.1) (slot p.0)

-- ---- they fit where no signal has two values

abbrev free : List (ℕ × ℤ) → (ℕ → Option ℤ) → Bool
free [] slot = true
free (p ∷ ps) slot = no_value (slot p.0) && free ps slot

swapped : (n two f g : Bool) → g ≡ (not two && f) → (n && g) ≡ (not two && (n && f))
swapped true true f g h = h
swapped true false f g h = h
swapped false true f g h = refl
swapped false false f g h = refl

free-put : (ps : List (ℕ × ℤ)) (p : ℕ × ℤ) (slot : ℕ → Option ℤ) → free ps (put p slot) ≡ (not (list_any (λ q. q.0 == p.0) ps) && free ps slot)
free-put [] p slot = refl
free-put (q ∷ qs) p slot = by (q.0 == p.0) (free-put qs p slot) where
  by : (b : Bool) → free qs (put p slot) ≡ (not (list_any (λ q. q.0 == p.0) qs) && free qs slot)
      → (no_value (cond b (Some p.1) (slot q.0)) && free qs (put p slot)) ≡ (not (b || list_any (λ q. q.0 == p.0) qs) && (no_value (slot q.0) && free qs slot))
  by true h = refl
  by false h = swapped (no_value (slot q.0)) (list_any (λ q. q.0 == p.0) qs) (free qs slot) (free qs (put p slot)) h

joined : (n apart two f g : Bool) → g ≡ (not two && f) → (n && (apart && g)) ≡ ((not two && apart) && (n && f))
joined true true true f g h = h
joined true true false f g h = h
joined true false true f g h = refl
joined true false false f g h = refl
joined false true true f g h = refl
joined false true false f g h = refl
joined false false true f g h = refl
joined false false false f g h = refl

fits-is : (ps : List (ℕ × ℤ)) (slot : ℕ → Option ℤ) → fits ps slot ≡ (are_apart ps && free ps slot)
fits-is [] slot = refl
fits-is (p ∷ ps) slot =
    ap (λ b. no_value (slot p.0) && b) (fits-is ps (put p slot))
    ∙ joined (no_value (slot p.0)) (are_apart ps) (list_any (λ q. q.0 == p.0) ps) (free ps slot) (free ps (put p slot)) (free-put ps p slot)

abbrev nothing : ℕ → Option ℤ
nothing j = None

all_free : (ps : List (ℕ × ℤ)) → free ps nothing ≡ true
all_free [] = refl
all_free (p ∷ ps) = all_free ps

-- ---- and leave each signal its value

or_parts : (a b : Bool) → (a || b) ≡ false → (a ≡ false) × (b ≡ false)
or_parts true b h = absurd (cc)
or_parts false b h = (refl, h)

and_parts : (a b : Bool) → (not a && b) ≡ true → (a ≡ false) × (b ≡ true)
and_parts true b h = absurd (cc)
and_parts false b h = (refl, h)

turned : (i j : ℕ) → (i == j) ≡ (j == i)
turned i j = grind (arith, nat_tests)

put-other : (p : ℕ × ℤ) (slot : ℕ → Option ℤ) (j : ℕ) → (p.0 == j) ≡ false → put p slot j ≡ slot j
put-other p slot j e = ap (λ b. cond b (Some p.1) (slot j)) (turned j p.0 ∙ e)

after-other : (ps : List (ℕ × ℤ)) (slot : ℕ → Option ℤ) (j : ℕ) → list_any (λ q. q.0 == j) ps ≡ false → after ps slot j ≡ slot j
after-other [] slot j h = refl
after-other (p ∷ ps) slot j h =
    let parts : ((p.0 == j) ≡ false) × (list_any (λ q. q.0 == j) ps ≡ false) = or_parts (p.0 == j) (list_any (λ q. q.0 == j) ps) h in
    after-other ps (put p slot) j parts.1 ∙ put-other p slot j parts.0

abbrev filled : Option ℤ → ℤ
filled o = unwrap_or o (pos 0)

one_valued : (p : ℕ × ℤ) (ps : List (ℕ × ℤ)) (slot : ℕ → Option ℤ) (j : ℕ) → list_any (λ q. q.0 == p.0) ps ≡ false → ((p.0 == j) ≡ false → filled (after ps (put p slot) j) ≡ value_for ps j)
    → (b : Bool) → (p.0 == j) ≡ b → filled (after ps (put p slot) j) ≡ cond b p.1 (value_for ps j)
one_valued p ps slot j once more true e =
    let same : p.0 ≡ j = grind (arith, nat_tests) in
    let once_here : list_any (λ q. q.0 == j) ps ≡ false = subst (λ k. list_any (λ q. q.0 == k) ps ≡ false) same once in
    ap filled (after-other ps (put p slot) j once_here ∙ ap (λ b. cond b (Some p.1) (slot j)) (turned j p.0 ∙ e))
one_valued p ps slot j once more false e = more e

valued : (ps : List (ℕ × ℤ)) (slot : ℕ → Option ℤ) (j : ℕ) → are_apart ps ≡ true → slot j ≡ None → filled (after ps slot j) ≡ value_for ps j
valued [] slot j apart none = ap filled none
valued (p ∷ ps) slot j apart none =
    let parts : (list_any (λ q. q.0 == p.0) ps ≡ false) × (are_apart ps ≡ true) = and_parts (list_any (λ q. q.0 == p.0) ps) (are_apart ps) apart in
    one_valued p ps slot j parts.0 (λ e. valued ps (put p slot) j parts.1 (put-other p slot j e ∙ none)) (p.0 == j) refl

map-filled : (slot : ℕ → Option ℤ) (f : ℕ → ℤ) (js : List ℕ) → ((j : ℕ) → filled (slot j) ≡ f j) → map filled (map slot js) ≡ map f js
map-filled slot f [] h = refl
map-filled slot f (j ∷ js) h = let here : filled (slot j) ≡ f j = h j in let rest : map filled (map slot js) ≡ map f js = map-filled slot f js h in cc

no_values : (n : ℕ) → replicate n None ≡ values_by n nothing
no_values n = fill_by_all nothing (replicate n None) n None (length-replicate n None) (λ k lt. get_or-replicate n k None None lt)

put_all-values : (n : ℕ) (ps : List (ℕ × ℤ)) → AllByRecursion (λ p. p.0 < n) ps → option_map (map filled) (put_all ps (replicate n None)) ≡ cond (are_apart ps) (Some (map (value_for ps) (range_with_len 0 n))) None
put_all-values n ps h =
    ap (λ vs. option_map (map filled) (put_all ps vs)) (no_values n)
    ∙ ap (option_map (map filled)) (put_all-is n ps nothing h)
    ∙ ap (λ b. option_map (map filled) (cond b (Some (values_by n (after ps nothing))) None)) (fits-is ps nothing ∙ ap (λ b. are_apart ps && b) (all_free ps))
    ∙ by (are_apart ps) refl
  where
    by : (b : Bool) → are_apart ps ≡ b → ◌≡◌ {A = Option (List ℤ)} (option_map (map filled) (cond (b && true) (Some (values_by n (after ps nothing))) None)) (cond b (Some (map (value_for ps) (range_with_len 0 n))) None)
    by true e = ap Some (map-filled (after ps nothing) (value_for ps) (range_with_len 0 n) (λ j. valued ps nothing j e refl))
    by false e = refl

-- ---- the law

pub given_values : (m : Message) (words : List (List ℕ)) → option_map (map filled) (with_words m words (replicate (length m.signals) None)) ≡ values_of m words
given_values m words = ap (option_map (map filled)) (with_words-put m words (replicate (length m.signals) None)) ∙ by (pairs_of m words) (all_within m words) where
  by : (o : Option (List (ℕ × ℤ))) → IfSome o (AllByRecursion (λ p. p.0 < length m.signals))
      → option_map (map filled) (option_and_then (λ ps. put_all ps (replicate (length m.signals) None)) o) ≡ option_and_then (λ ps. cond (are_apart ps) (Some (map (value_for ps) (range_with_len 0 (length m.signals)))) None) o
  by None h = refl
  by (Some ps) h = put_all-values (length m.signals) ps h
