-- The names of a header's macros: they stand among the names of the file, which differ, and none is the error's, which is reserved.
use Rattle.std.proofs.Common.{◌≡◌, ℕ, Bool, true, false, not, ◌||◌, ◌&&◌, cond, List, [], ◌∷◌, ◌++◌, map, Some, None, refl, sym, ap, ◌∙◌, arith}
use Rattle.std.specs.List.{AllByRecursion, list_any, list_all, flat_map}
use Rattle.std.specs.Str.{bytes_eq}
use Rattle.std.specs.Char.{is_ascii_alphabetic}
use Rattle.std.proofs.lemmas.Bool.{false_from_ne_true, both_ways, and_parts}
use Rattle.std.proofs.lemmas.Bool.Decides.{nat_tests}
use Rattle.std.proofs.lemmas.Slice.Eq.{bytes_eq-Decides}
use Rattle.cg_out.specs.Words.{look_up}
use Rattle.can_model.specs.declared.database.Message.{Message}
use Rattle.name_rules.specs.declared.table.SymbolTable.{SymbolTable}
use Rattle.name_rules.specs.declared.table.MessageNames.{MessageNames}
use Rattle.name_rules.specs.Distinct.{are_distinct}
use Rattle.name_rules.specs.Reserved.{keywords, given_names, sized_types, is_reserved}
use Rattle.name_rules.specs.Symbols.{one_or_none, file_names_of_signal, file_names_of_message, file_names}
use Rattle.name_rules.specs.Names.{is_c_name, AreApart}
use Rattle.name_rules.proofs.NamesApart.{is_word}
use Rattle.c_text.specs.Characters.{is_letter, goes_on, Pass, IsName}
use Rattle.c_tree.specs.Symbol.{keywords as keyword_table, keyword_in}
use Rattle.c_printed.specs.Printable.{IsFree}
use Rattle.c_printed.specs.State.{Macro}
use Rattle.gen_unit.specs.Header.{number}
use Rattle.gen_pack.specs.PackTree.{error_name}
use Rattle.c_tree.specs.BareExpression.{bracket}

-- ---- names of C

letter : (b : ℕ) → is_ascii_alphabetic b ≡ true → is_letter b ≡ true
letter b h = grind (arith, nat_tests)

word : (b : ℕ) → is_word b ≡ true → goes_on b ≡ true
word b h = grind (arith, nat_tests)

words : (bs : List ℕ) → list_all is_word bs ≡ true → Pass goes_on bs
words [] h = tt
words (b ∷ bs) h = let both = and_parts (is_word b) (list_all is_word bs) h in (word b both.0, words bs both.1)

is-name : (x : List ℕ) → is_c_name x ≡ true → IsName x
is-name [] h = absurd (let f : ◌≡◌ {A = Bool} false true = h in cc)
is-name (b ∷ bs) h = let both = and_parts (is_ascii_alphabetic b) (list_all is_word bs) h in (letter b both.0, words bs both.1)

-- ---- a name that is not reserved is no keyword

module _ {A : Type 0} where
  abbrev pub AreReserved : List (List ℕ × A) → Type 0
  AreReserved es = AllByRecursion (λ (e : List ℕ × A). is_reserved e.0 ≡ true) es

  pub all-reserved : (es : List (List ℕ × A)) → list_all (λ (e : List ℕ × A). is_reserved e.0) es ≡ true → AreReserved es
  all-reserved [] h = tt
  all-reserved (e ∷ es) h = let both = and_parts (is_reserved e.0) (list_all (λ (d : List ℕ × A). is_reserved d.0) es) h in (both.0, all-reserved es both.1)

  pub not-listed : (x : List ℕ) (es : List (List ℕ × A)) → AreReserved es → is_reserved x ≡ false → look_up x es ≡ None
  not-listed x [] h f = refl
  not-listed x (e ∷ es) h f = by (bytes_eq e.0 x) refl (not-listed x es h.1 f)
    where
      by : (b : Bool) → bytes_eq e.0 x ≡ b → look_up x es ≡ None → cond b (Some e.1) (look_up x es) ≡ None
      by true g k = absurd (both_ways (is_reserved x) f (ap is_reserved (sym ((bytes_eq-Decides e.0 x).0 g)) ∙ h.0))
      by false g k = k

table-reserved : AreReserved keyword_table
unfolding keywords given_names sized_types
table-reserved = all-reserved keyword_table refl

no-keyword : (x : List ℕ) → is_reserved x ≡ false → keyword_in x ≡ None
unfolding keyword_in
no-keyword x f = not-listed x keyword_table table-reserved f

pub is-free : (x : List ℕ) → is_c_name x ≡ true → is_reserved x ≡ false → IsFree x
is-free x h f = (is-name x h, no-keyword x f)

-- ---- the error's name is reserved

error-reserved : is_reserved error_name ≡ true
unfolding keywords given_names sized_types error_name
error-reserved = refl

not-error : (x : List ℕ) → is_reserved x ≡ false → bytes_eq x error_name ≡ false
not-error x h = false_from_ne_true (bytes_eq x error_name) (λ e. both_ways (is_reserved x) h (ap is_reserved ((bytes_eq-Decides x error_name).0 e) ∙ error-reserved))

error-not : (x : List ℕ) → is_reserved x ≡ false → bytes_eq error_name x ≡ false
error-not x h = false_from_ne_true (bytes_eq error_name x) (λ e. both_ways (is_reserved x) h (ap is_reserved (sym ((bytes_eq-Decides error_name x).0 e)) ∙ error-reserved))

-- ---- the macros of messages, in the order of the header

abbrev pub message_macros : Message → MessageNames → List Macro
message_macros m n =
    (n.frame_id, Some (bracket (number m.id 16 true))) ∷ (n.length, Some (bracket (number m.length 10 true))) ∷ (n.extended, Some (bracket (number (cond m.extended 1 0) 10 false))) ∷ []

abbrev pub all_macros : List Message → List MessageNames → List Macro
all_macros [] ns = []
all_macros (m ∷ ms) [] = []
all_macros (m ∷ ms) (n ∷ ns) = message_macros m n ++ all_macros ms ns

abbrev pub names : List Macro → List (List ℕ)
names ds = map (λ d. d.0) ds

-- ---- the macros among the names of the file

abbrev other_names : MessageNames → List (List ℕ)
other_names n = one_or_none n.cycle ++ (n.tag ∷ n.pack ∷ n.unpack ∷ n.init ∷ []) ++ flat_map file_names_of_signal n.signals

abbrev rest_names : List MessageNames → List (List ℕ)
rest_names ns = flat_map file_names_of_message ns

pub either_false : (a b : Bool) → (a || b) ≡ false → (a ≡ false) × (b ≡ false)
either_false false b h = (refl, h)
either_false true b h = absurd (let f : ◌≡◌ {A = Bool} true false = h in cc)

pub both_true : (a b : Bool) → (not a && b) ≡ true → (a ≡ false) × (b ≡ true)
both_true false b h = (refl, h)
both_true true b h = absurd (let f : ◌≡◌ {A = Bool} false true = h in cc)

-- a name that is none of two lists' is none of the second's
pub none_behind : (x : List ℕ) (xs ys : List (List ℕ)) → list_any (bytes_eq x) (xs ++ ys) ≡ false → list_any (bytes_eq x) ys ≡ false
none_behind x [] ys h = h
none_behind x (y ∷ xs) ys h = none_behind x xs ys (either_false (bytes_eq x y) (list_any (bytes_eq x) (xs ++ ys)) h).1

-- a name that is none of the file's is none of the macros'
none_among : (x : List ℕ) (ms : List Message) (ns : List MessageNames) → list_any (bytes_eq x) (rest_names ns) ≡ false → list_any (bytes_eq x) (names (all_macros ms ns)) ≡ false
none_among x [] ns h = refl
none_among x (m ∷ ms) [] h = refl
none_among x (m ∷ ms) (n ∷ ns) h =
    let others : List (List ℕ) = other_names n ++ rest_names ns in
    let a = either_false (bytes_eq x n.frame_id) (list_any (bytes_eq x) (n.length ∷ n.extended ∷ others)) h in
    let b = either_false (bytes_eq x n.length) (list_any (bytes_eq x) (n.extended ∷ others)) a.1 in
    let c = either_false (bytes_eq x n.extended) (list_any (bytes_eq x) others) b.1 in
    rw (a.0, b.0, c.0) (none_among x ms ns (none_behind x (other_names n) (rest_names ns) c.1))

pub distinct_behind : (xs ys : List (List ℕ)) → are_distinct (xs ++ ys) ≡ true → are_distinct ys ≡ true
distinct_behind [] ys h = h
distinct_behind (x ∷ xs) ys h = distinct_behind xs ys (both_true (list_any (bytes_eq x) (xs ++ ys)) (are_distinct (xs ++ ys)) h).1

macros_distinct : (ms : List Message) (ns : List MessageNames) → are_distinct (rest_names ns) ≡ true → are_distinct (names (all_macros ms ns)) ≡ true
macros_distinct [] ns h = refl
macros_distinct (m ∷ ms) [] h = refl
macros_distinct (m ∷ ms) (n ∷ ns) h =
    let others : List (List ℕ) = other_names n ++ rest_names ns in
    let none : (x : List ℕ) → list_any (bytes_eq x) others ≡ false → list_any (bytes_eq x) (names (all_macros ms ns)) ≡ false = λ x k. none_among x ms ns (none_behind x (other_names n) (rest_names ns) k) in
    let p = both_true (list_any (bytes_eq n.frame_id) (n.length ∷ n.extended ∷ others)) (are_distinct (n.length ∷ n.extended ∷ others)) h in
    let q = both_true (list_any (bytes_eq n.length) (n.extended ∷ others)) (are_distinct (n.extended ∷ others)) p.1 in
    let r = both_true (list_any (bytes_eq n.extended) others) (are_distinct others) q.1 in
    let a = either_false (bytes_eq n.frame_id n.length) (list_any (bytes_eq n.frame_id) (n.extended ∷ others)) p.0 in
    let b = either_false (bytes_eq n.frame_id n.extended) (list_any (bytes_eq n.frame_id) others) a.1 in
    let c = either_false (bytes_eq n.length n.extended) (list_any (bytes_eq n.length) others) q.0 in
    rw (a.0, b.0, none n.frame_id b.1, c.0, none n.length c.1, none n.extended r.0) (macros_distinct ms ns (distinct_behind (other_names n) (rest_names ns) r.1))

-- what is so of all names of the file is so of the macros'
pub all_behind : (P : List ℕ → Type 0) (xs ys : List (List ℕ)) → AllByRecursion P (xs ++ ys) → AllByRecursion P ys
all_behind P [] ys h = h
all_behind P (x ∷ xs) ys h = all_behind P xs ys h.1

all_among : (P : List ℕ → Type 0) (ms : List Message) (ns : List MessageNames) → AllByRecursion P (rest_names ns) → AllByRecursion (λ (d : Macro). P d.0) (all_macros ms ns)
all_among P [] ns h = tt
all_among P (m ∷ ms) [] h = tt
all_among P (m ∷ ms) (n ∷ ns) h = (h.0, (h.1.0, (h.1.1.0, all_among P ms ns (all_behind P (other_names n) (rest_names ns) h.1.1.1))))

-- ---- of a table

-- the guard is free, and is not the error's name
pub record GuardIsFree (g : List ℕ) : Type 0 where
  pub free : IsFree g
  pub not_error : bytes_eq g error_name ≡ false

pub guard-is_free : (t : SymbolTable) → AreApart is_reserved (file_names t) → GuardIsFree t.guard
guard-is_free t h = record { free = is-free t.guard h.words.0 h.free.0; not_error = not-error t.guard h.free.0 }

-- the macros of messages are free, differ, and are neither the guard nor the error's name
pub record AreOwn (g : List ℕ) (ds : List Macro) : Type 0 where
  pub free : AllByRecursion (λ (d : Macro). IsFree d.0) ds
  pub distinct : are_distinct (names ds) ≡ true
  pub no_guard : list_any (bytes_eq g) (names ds) ≡ false
  pub no_error : AllByRecursion (λ (d : Macro). bytes_eq error_name d.0 ≡ false) ds

both-all : (P Q R : List ℕ → Type 0) → ((x : List ℕ) → P x → Q x → R x) → (ds : List Macro) → AllByRecursion (λ (d : Macro). P d.0) ds → AllByRecursion (λ (d : Macro). Q d.0) ds → AllByRecursion (λ (d : Macro). R d.0) ds
both-all P Q R f [] h k = tt
both-all P Q R f (d ∷ ds) h k = (f d.0 h.0 k.0, both-all P Q R f ds h.1 k.1)

each-all : (P R : List ℕ → Type 0) → ((x : List ℕ) → P x → R x) → (ds : List Macro) → AllByRecursion (λ (d : Macro). P d.0) ds → AllByRecursion (λ (d : Macro). R d.0) ds
each-all P R f [] h = tt
each-all P R f (d ∷ ds) h = (f d.0 h.0, each-all P R f ds h.1)

pub macros-are_own : (ms : List Message) (t : SymbolTable) → AreApart is_reserved (file_names t) → AreOwn t.guard (all_macros ms t.messages)
macros-are_own ms t h =
    let p = both_true (list_any (bytes_eq t.guard) (rest_names t.messages)) (are_distinct (rest_names t.messages)) h.distinct in
    let free = all_among (λ x. is_reserved x ≡ false) ms t.messages h.free.1 in
    record {
      free = both-all (λ x. is_c_name x ≡ true) (λ x. is_reserved x ≡ false) IsFree is-free (all_macros ms t.messages) (all_among (λ x. is_c_name x ≡ true) ms t.messages h.words.1) free;
      distinct = macros_distinct ms t.messages p.1;
      no_guard = none_among t.guard ms t.messages p.0;
      no_error = each-all (λ x. is_reserved x ≡ false) (λ x. bytes_eq error_name x ≡ false) error-not (all_macros ms t.messages) free;
    }
