-- Picks are apart: each is free of what was taken before it, and a candidate of a name of C is one.
use Rattle.std.proofs.Common.{◌≡◌, ℕ, zero, suc, ◌/◌, ◌%◌, ◌<◌, Bool, true, false, not, ◌||◌, ◌&&◌, eqb, List, [], ◌∷◌, ◌++◌, drop, bytes_eq, refl, sym, ap, subst, ◌∙◌, arith}
use Rattle.std.specs.Prelude.{codes}
use Rattle.std.specs.List.{list_any, list_all, AllByRecursion}
use Rattle.std.specs.Char.{is_ascii_alphabetic, is_ascii_alphanumeric, is_ascii_lowercase, to_ascii_uppercase}
use Rattle.std.specs.Fmt.{decimal, digits, digits_onto, digit_glyph}
use Rattle.std.proofs.lemmas.Bool.{or_parts, and_parts, and_from, cond_both}
use Rattle.std.proofs.lemmas.Bool.Decides.{nat_tests}
use Rattle.std.proofs.lemmas.List.Folds.{list_all-append}
use Rattle.name_rules.specs.Distinct.{are_distinct}
use Rattle.name_rules.specs.IsIdentifier.{is_identifier_byte, IsIdentifier}
use Rattle.name_rules.specs.Picks.{candidate, and_this, ArePicks}
use Rattle.name_rules.specs.Names.{is_c_name, AreApart}
use Rattle.name_rules.specs.Wanted.{upper, joined}

-- ---- free of what was taken, and of each other

later-free : (is_taken : List ℕ → Bool) (y : List ℕ) (zs : List (List ℕ)) → AllByRecursion (λ z. and_this is_taken y z ≡ false) zs → AllByRecursion (λ z. is_taken z ≡ false) zs
later-free is_taken y [] h = tt
later-free is_taken y (z ∷ zs) h = (let both = or_parts (bytes_eq y z) (is_taken z) h.0 in both.1, later-free is_taken y zs h.1)

none-later : (is_taken : List ℕ → Bool) (y : List ℕ) (zs : List (List ℕ)) → AllByRecursion (λ z. and_this is_taken y z ≡ false) zs → list_any (bytes_eq y) zs ≡ false
none-later is_taken y [] h = refl
none-later is_taken y (z ∷ zs) h = let both = or_parts (bytes_eq y z) (is_taken z) h.0 in λ i. both.0 i || none-later is_taken y zs h.1 i

pub picks-free : (is_taken : List ℕ → Bool) (xs ys : List (List ℕ)) → ArePicks is_taken xs ys → AllByRecursion (λ y. is_taken y ≡ false) ys
picks-free is_taken [] ys h = subst (λ (zs : List (List ℕ)). AllByRecursion (λ y. is_taken y ≡ false) zs) (sym h) tt
picks-free is_taken (x ∷ xs) [] h = absurd h
picks-free is_taken (x ∷ xs) (y ∷ ys) h = (h.0.free, later-free is_taken y ys (picks-free (and_this is_taken y) xs ys h.1))

pub picks-distinct : (is_taken : List ℕ → Bool) (xs ys : List (List ℕ)) → ArePicks is_taken xs ys → are_distinct ys ≡ true
picks-distinct is_taken [] ys h = ap are_distinct h
picks-distinct is_taken (x ∷ xs) [] h = absurd h
picks-distinct is_taken (x ∷ xs) (y ∷ ys) h =
    let none = none-later is_taken y ys (picks-free (and_this is_taken y) xs ys h.1) in
    λ i. not (none i) && picks-distinct (and_this is_taken y) xs ys h.1 i

-- ---- names of C

abbrev pub is_word : ℕ → Bool
is_word c = is_ascii_alphanumeric c || eqb c 95

digit-word : (d : ℕ) → d < 10 → is_word (digit_glyph false d) ≡ true
digit-word d h = grind (arith, nat_tests)

digits-onto-words : (k n : ℕ) (acc : List ℕ) → list_all is_word acc ≡ true → list_all is_word (digits_onto k 10 false n acc) ≡ true
digits-onto-words zero n acc h = h
digits-onto-words (suc k) n acc h =
    let more : list_all is_word (digit_glyph false (n % 10) ∷ acc) ≡ true = and_from _ _ (digit-word (n % 10) (omega arith)) h in
    cond_both (eqb (n / 10) 0) (digit_glyph false (n % 10) ∷ acc) (digits_onto k 10 false (n / 10) (digit_glyph false (n % 10) ∷ acc)) (λ (bs : List ℕ). list_all is_word bs ≡ true)
    (λ e. more) (λ e. digits-onto-words k (n / 10) (digit_glyph false (n % 10) ∷ acc) more)

decimal-words : (n : ℕ) → list_all is_word (decimal n) ≡ true
unfolding digits
decimal-words n = digits-onto-words 64 n [] refl

c_name-append : (x end : List ℕ) → is_c_name x ≡ true → list_all is_word end ≡ true → is_c_name (x ++ end) ≡ true
c_name-append [] end h k = absurd (let f : ◌≡◌ {A = Bool} false true = h in cc)
c_name-append (b ∷ bs) end h k =
    let both = and_parts (is_ascii_alphabetic b) (list_all is_word bs) h in
    and_from (is_ascii_alphabetic b) (list_all is_word (bs ++ end)) both.0 (list_all-append is_word bs end ∙ and_from (list_all is_word bs) (list_all is_word end) both.1 k)

candidate-c_name : (x : List ℕ) (k : ℕ) → is_c_name x ≡ true → is_c_name (candidate x k) ≡ true
candidate-c_name x k h =
    cond_both (eqb k 1) x (x ++ codes "_" ++ decimal k) (λ (y : List ℕ). is_c_name y ≡ true) (λ e. h)
    (λ e. c_name-append (x ++ codes "_") (decimal k) (c_name-append x (codes "_") h refl) (decimal-words k))

abbrev pub AreCNames : List (List ℕ) → Type 0
AreCNames xs = AllByRecursion (λ x. is_c_name x ≡ true) xs

pub picks-c_names : (is_taken : List ℕ → Bool) (xs ys : List (List ℕ)) → ArePicks is_taken xs ys → AreCNames xs → AreCNames ys
picks-c_names is_taken [] ys h a = subst AreCNames (sym h) tt
picks-c_names is_taken (x ∷ xs) [] h a = absurd h
picks-c_names is_taken (x ∷ xs) (y ∷ ys) h a = (ap is_c_name h.0.name ∙ candidate-c_name x h.0.count a.0, picks-c_names (and_this is_taken y) xs ys h.1 a.1)

pub picks-apart : (is_reserved : List ℕ → Bool) (xs ys : List (List ℕ)) → ArePicks is_reserved xs ys → AreCNames xs → AreApart is_reserved ys
picks-apart is_reserved xs ys h a = record { distinct = picks-distinct is_reserved xs ys h; free = picks-free is_reserved xs ys h; words = picks-c_names is_reserved xs ys h a }

-- ---- identifiers are names of C, also in capitals and with an ending

small-letter : (b : ℕ) → is_ascii_lowercase b ≡ true → is_ascii_alphabetic b ≡ true
small-letter b h = grind (arith, nat_tests)

large-letter : (b : ℕ) → is_ascii_lowercase b ≡ true → is_ascii_alphabetic (to_ascii_uppercase b) ≡ true
large-letter b h = grind (arith, nat_tests)

byte-word : (b : ℕ) → is_identifier_byte b ≡ true → is_word b ≡ true
byte-word b h = grind (arith, nat_tests)

large-word : (b : ℕ) → is_identifier_byte b ≡ true → is_word (to_ascii_uppercase b) ≡ true
large-word b h = grind (arith, nat_tests)

letter-byte : (b : ℕ) → is_ascii_lowercase b ≡ true → is_identifier_byte b ≡ true
letter-byte b h = grind (arith, nat_tests)

abbrev pub AreBytes : List ℕ → Type 0
AreBytes bs = AllByRecursion (λ b. is_identifier_byte b ≡ true) bs

bytes-words : (bs : List ℕ) → AreBytes bs → list_all is_word bs ≡ true
bytes-words [] h = refl
bytes-words (b ∷ bs) h = and_from (is_word b) (list_all is_word bs) (byte-word b h.0) (bytes-words bs h.1)

large-words : (bs : List ℕ) → AreBytes bs → list_all is_word (upper bs) ≡ true
large-words [] h = refl
large-words (b ∷ bs) h = and_from (is_word (to_ascii_uppercase b)) (list_all is_word (upper bs)) (large-word b h.0) (large-words bs h.1)

pub identifier-c_name : (x : List ℕ) → IsIdentifier x → is_c_name x ≡ true
identifier-c_name [] h = absurd h
identifier-c_name (b ∷ bs) h = and_from (is_ascii_alphabetic b) (list_all is_word bs) (small-letter b h.0) (bytes-words bs h.1)

pub upper-c_name : (x : List ℕ) → IsIdentifier x → is_c_name (upper x) ≡ true
upper-c_name [] h = absurd h
upper-c_name (b ∷ bs) h = and_from (is_ascii_alphabetic (to_ascii_uppercase b)) (list_all is_word (upper bs)) (large-letter b h.0) (large-words bs h.1)

-- with an ending
pub small : (x end : List ℕ) → IsIdentifier x → list_all is_word end ≡ true → is_c_name (x ++ end) ≡ true
small x end h k = c_name-append x end (identifier-c_name x h) k

pub large : (x end : List ℕ) → IsIdentifier x → list_all is_word end ≡ true → is_c_name (upper x ++ end) ≡ true
large x end h k = c_name-append (upper x) end (upper-c_name x h) k

pub identifier-bytes : (x : List ℕ) → IsIdentifier x → AreBytes x
identifier-bytes [] h = tt
identifier-bytes (b ∷ bs) h = (letter-byte b h.0, h.1)

bytes-append : (xs ys : List ℕ) → AreBytes xs → AreBytes ys → AreBytes (xs ++ ys)
bytes-append [] ys h k = k
bytes-append (x ∷ xs) ys h k = (h.0, bytes-append xs ys h.1 k)

pub bytes-drop : (n : ℕ) (bs : List ℕ) → AreBytes bs → AreBytes (drop n bs)
bytes-drop zero bs h = h
bytes-drop (suc n) [] h = tt
bytes-drop (suc n) (b ∷ bs) h = bytes-drop n bs h.1

pub joined-identifier : (a b : List ℕ) → IsIdentifier a → AreBytes b → IsIdentifier (joined a b)
joined-identifier [] b h k = absurd h
joined-identifier (x ∷ xs) b h k = (h.0, bytes-append (xs ++ codes "_") b (bytes-append xs (codes "_") h.1 (refl, tt)) k)
