-- One pick after another.
use Rattle.std.proofs.Common.{◌≡◌, ℕ, ◌+◌, ◌<◌, ◌≤◌, Bool, false, List, [], ◌∷◌, ◌++◌, length, get_or, take, map, append-nil, refl, sym, ap, subst, ◌∙◌, arith}
use Rattle.std.specs.List.{flat_map}
use Rattle.std.proofs.lemmas.List.{take_more, map_push}
use Rattle.std.proofs.lemmas.List.Concat.{flat_map-append}
use Rattle.name_rules.specs.declared.picking.Candidate.{Candidate}
use Rattle.name_rules.specs.Picks.{IsPick, and_this, ArePicks}
use Rattle.name_rules.specs.Symbols.{AllPairs}
use Rattle.name_rules.specs.Places.{IsFirstFree, taken_after, Picks}

-- a free name is its own pick
pub pick-free : (is_taken : List ℕ → Bool) (x : List ℕ) → is_taken x ≡ false → IsPick is_taken x x
pick-free is_taken x h = record { count = 1; some = omega arith; name = refl; free = h; first = λ k a b. absurd (omega arith) }

-- and the first candidate that is free the pick of a taken one
pub pick-first_free : (is_taken : List ℕ → Bool) (x : List ℕ) (c : Candidate) → IsFirstFree is_taken x c → IsPick is_taken x c.name.items
pick-first_free is_taken x c h = record {
  count = c.suffix;
  some = let low : 2 ≤ c.suffix = h.first.low in omega arith;
  name = h.name;
  free = ap is_taken h.name ∙ h.free;
  first = h.first.taken;
}

pub one : (before after : List ℕ → Bool) (x y : List ℕ) → IsPick before x y → after ≡ and_this before y → Picks before after (x ∷ []) (y ∷ [])
one before after x y p e = record { picks = (p, refl); taken = e }

pub none : (before : List ℕ → Bool) → Picks before before [] []
none before = record { picks = refl; taken = refl }

-- ---- picks and then more picks

picks-append : (is_taken : List ℕ → Bool) (xs ys us vs : List (List ℕ)) → ArePicks is_taken xs ys → ArePicks (taken_after is_taken ys) us vs → ArePicks is_taken (xs ++ us) (ys ++ vs)
picks-append is_taken [] ys us vs h k =
    subst (λ (zs : List (List ℕ)). ArePicks is_taken us (zs ++ vs)) (sym h) (subst (λ (zs : List (List ℕ)). ArePicks (taken_after is_taken zs) us vs) h k)
picks-append is_taken (x ∷ xs) [] us vs h k = absurd h
picks-append is_taken (x ∷ xs) (y ∷ ys) us vs h k = (h.0, picks-append (and_this is_taken y) xs ys us vs h.1 k)

after-append : (is_taken : List ℕ → Bool) (ys vs : List (List ℕ)) → taken_after is_taken (ys ++ vs) ≡ taken_after (taken_after is_taken ys) vs
after-append is_taken [] vs = refl
after-append is_taken (y ∷ ys) vs = after-append (and_this is_taken y) ys vs

pub then : (a b c : List ℕ → Bool) (xs ys us vs : List (List ℕ)) → Picks a b xs ys → Picks b c us vs → Picks a c (xs ++ us) (ys ++ vs)
then a b c xs ys us vs p q = record {
  picks = picks-append a xs ys us vs p.picks (subst (λ (t : List ℕ → Bool). ArePicks t us vs) p.taken q.picks);
  taken = q.taken ∙ ap (λ (t : List ℕ → Bool). taken_after t vs) p.taken ∙ sym (after-append a ys vs);
}

-- one pick and then more
pub next : (a b c : List ℕ → Bool) (x y : List ℕ) (us vs : List (List ℕ)) → Picks a b (x ∷ []) (y ∷ []) → Picks b c us vs → Picks a c (x ∷ us) (y ∷ vs)
next a b c x y us vs p q = then a b c (x ∷ []) (y ∷ []) us vs p q

-- a name with an ending, whose front is known
pub ending : (a b : List ℕ → Bool) (x z end y : List ℕ) → x ≡ z → Picks a b ((x ++ end) ∷ []) (y ∷ []) → Picks a b ((z ++ end) ∷ []) (y ∷ [])
ending a b x z end y e p = subst (λ (w : List ℕ). Picks a b ((w ++ end) ∷ []) (y ∷ [])) e p

-- ---- the picks of lists

pub take_item : {A : Type 0} (xs : List A) (i : ℕ) (x : A) → i < length xs → x ≡ get_or xs i x → take (i + 1) xs ≡ take i xs ++ x ∷ []
take_item xs i x lt e = take_more xs i x lt ∙ ap (λ y. take i xs ++ y ∷ []) (sym e)

module _ {A B : Type 0} (f : A → List (List ℕ)) (g : B → List (List ℕ)) where
  -- one item more, with its names
  pub more : (a b c : List ℕ → Bool) (xs : List A) (ys : List B) (x : A) (y : B) → Picks a b (flat_map f xs) (flat_map g ys) → Picks b c (f x) (g y)
      → Picks a c (flat_map f (xs ++ x ∷ [])) (flat_map g (ys ++ y ∷ []))
  more a b c xs ys x y p q =
      rw (flat_map-append f xs (x ∷ []), flat_map-append g ys (y ∷ []), append-nil (f x), append-nil (g y))
      (then a b c (flat_map f xs) (flat_map g ys) (f x) (g y) p q)

pub pairs-push : {A B : Type 0} (P : A → B → Type 0) (xs : List A) (ys : List B) (x : A) (y : B) → AllPairs P xs ys → P x y → AllPairs P (xs ++ x ∷ []) (ys ++ y ∷ [])
pairs-push {B = B} P [] ys x y h p = subst (λ (zs : List B). AllPairs P (x ∷ []) (zs ++ y ∷ [])) (sym h) (p, refl)
pairs-push P (z ∷ xs) [] x y h p = absurd h
pairs-push P (z ∷ xs) (w ∷ ys) x y h p = (h.0, pairs-push P xs ys x y h.1 p)

pub map-map : {A B C : Type 0} (f : B → C) (g : A → B) (xs : List A) → map f (map g xs) ≡ map (λ x. f (g x)) xs
map-map f g [] = refl
map-map f g (x ∷ xs) = ap (λ ys. f (g x) ∷ ys) (map-map f g xs)

-- a name at the end of those of a list, where each item wants one
pub one_name : {A : Type 0} (f : A → List ℕ) (a b c : List ℕ → Bool) (xs : List A) (i : ℕ) (x : A) (ys zs : List (List ℕ)) (y : List ℕ)
    → i < length xs → x ≡ get_or xs i x → zs ≡ ys ++ y ∷ [] → Picks a b (map f (take i xs)) ys → Picks b c (f x ∷ []) (y ∷ []) → Picks a c (map f (take (i + 1) xs)) zs
one_name f a b c xs i x ys zs y lt e k p q =
    rw (take_item xs i x lt e, map_push f (take i xs) x, k) (then a b c (map f (take i xs)) ys (f x ∷ []) (y ∷ []) p q)

-- the names of an item at the end of those of a list
module _ {A B : Type 0} (f : A → List (List ℕ)) (g : B → List (List ℕ)) where
  pub its_names : (a b c : List ℕ → Bool) (xs : List A) (i : ℕ) (x : A) (ys zs : List B) (y : B)
      → i < length xs → x ≡ get_or xs i x → zs ≡ ys ++ y ∷ [] → Picks a b (flat_map f (take i xs)) (flat_map g ys) → Picks b c (f x) (g y) → Picks a c (flat_map f (take (i + 1) xs)) (flat_map g zs)
  its_names a b c xs i x ys zs y lt e k p q = rw (take_item xs i x lt e, k) (more f g a b c (take i xs) ys x y p q)

pub its_pair : {A B : Type 0} (P : A → B → Type 0) (xs : List A) (i : ℕ) (x : A) (ys zs : List B) (y : B)
    → i < length xs → x ≡ get_or xs i x → zs ≡ ys ++ y ∷ [] → AllPairs P (take i xs) ys → P x y → AllPairs P (take (i + 1) xs) zs
its_pair P xs i x ys zs y lt e k h p = rw (take_item xs i x lt e, k) (pairs-push P (take i xs) ys x y h p)

-- the same where each item has one name
pub its_name : {A B : Type 0} (f : A → List ℕ) (g : B → List ℕ) (a b c : List ℕ → Bool) (xs : List A) (i : ℕ) (x : A) (ys zs : List B) (y : B)
    → i < length xs → x ≡ get_or xs i x → zs ≡ ys ++ y ∷ [] → Picks a b (map f (take i xs)) (map g ys) → Picks b c (f x ∷ []) (g y ∷ []) → Picks a c (map f (take (i + 1) xs)) (map g zs)
its_name f g a b c xs i x ys zs y lt e k p q = one_name f a b c xs i x (map g ys) (map g zs) (g y) lt e (ap (map g) k ∙ map_push g ys y) p q

-- the same where what is wanted stands with the names
pub own_names : {B : Type 0} (f g : B → List (List ℕ)) (a b c : List ℕ → Bool) (ys zs : List B) (y : B)
    → zs ≡ ys ++ y ∷ [] → Picks a b (flat_map f ys) (flat_map g ys) → Picks b c (f y) (g y) → Picks a c (flat_map f zs) (flat_map g zs)
own_names f g a b c ys zs y k p q = rw k (more f g a b c ys ys y y p q)
