-- Of all names of the file those of one kind of item are apart: structs' tags, and pack functions.
use Rattle.std.proofs.Common.{◌≡◌, ℕ, true, false, not, ◌||◌, ◌&&◌, List, [], ◌∷◌, ◌++◌, map, Option, Some, None, inl, inr, refl, sym, ap, subst, ◌∙◌}
use Rattle.std.specs.List.{AllByRecursion, list_any, flat_map}
use Rattle.std.specs.Str.{bytes_eq}
use Rattle.can_model.specs.declared.database.Message.{Message}
use Rattle.name_rules.specs.declared.table.SymbolTable.{SymbolTable}
use Rattle.name_rules.specs.declared.table.MessageNames.{MessageNames}
use Rattle.name_rules.specs.Distinct.{are_distinct}
use Rattle.name_rules.specs.Reserved.{is_reserved, is_reserved_local}
use Rattle.name_rules.specs.Names.{is_c_name, AreApart, HasNamesApart}
use Rattle.name_rules.specs.Symbols.{one_or_none, file_names_of_signal, file_names_of_message, file_names, field_names, local_names, AllPairs, HasNamesOfMessage}
use Rattle.gen_pack.specs.Named.{IsNamed}
use Rattle.gen_pack.proofs.Members.{Among, all-among}
use Rattle.gen_items.specs.ItemNames.{IsNoHelper, AreNamed}
use Rattle.gen_unit.proofs.Letters.{HasLetters, AllHaveLetters}
use Rattle.gen_unit.proofs.Names.{either_false, both_true, none_behind, distinct_behind, all_behind}
use Rattle.gen_unit.proofs.HelperNames.{no-helper}

-- ---- a name of each message, among those of the file

-- a name that is none of a list's is not any one of them
none-is : (x y : List ℕ) (xs : List (List ℕ)) → Among y xs → list_any (bytes_eq x) xs ≡ false → bytes_eq x y ≡ false
none-is x y [] a h = absurd a
none-is x y (z ∷ zs) (inl e) h = ap (bytes_eq x) e ∙ (either_false (bytes_eq x z) (list_any (bytes_eq x) zs) h).0
none-is x y (z ∷ zs) (inr a) h = none-is x y zs a (either_false (bytes_eq x z) (list_any (bytes_eq x) zs) h).1

among-front : (y : List ℕ) (xs ys : List (List ℕ)) → Among y xs → Among y (xs ++ ys)
among-front y [] ys a = absurd a
among-front y (x ∷ xs) ys (inl e) = inl e
among-front y (x ∷ xs) ys (inr a) = inr (among-front y xs ys a)

-- one of the first list's is none of the second's, where all differ
first-apart : (y : List ℕ) (xs ys : List (List ℕ)) → Among y xs → are_distinct (xs ++ ys) ≡ true → list_any (bytes_eq y) ys ≡ false
first-apart y [] ys a h = absurd a
first-apart y (x ∷ xs) ys (inl e) h =
    subst (λ (z : List ℕ). list_any (bytes_eq z) ys ≡ false) (sym e) (none_behind x xs ys (both_true (list_any (bytes_eq x) (xs ++ ys)) (are_distinct (xs ++ ys)) h).0)
first-apart y (x ∷ xs) ys (inr a) h = first-apart y xs ys a (both_true (list_any (bytes_eq x) (xs ++ ys)) (are_distinct (xs ++ ys)) h).1

module _ (of : MessageNames → List ℕ) (is : (n : MessageNames) → Among (of n) (file_names_of_message n)) where
  none-of : (x : List ℕ) (ns : List MessageNames) → list_any (bytes_eq x) (flat_map file_names_of_message ns) ≡ false → list_any (bytes_eq x) (map of ns) ≡ false
  none-of x [] h = refl
  none-of x (n ∷ ns) h =
      let own : Among (of n) (file_names_of_message n ++ flat_map file_names_of_message ns) = among-front (of n) (file_names_of_message n) (flat_map file_names_of_message ns) (is n) in
      let here = none-is x (of n) (file_names_of_message n ++ flat_map file_names_of_message ns) own h in
      let rest = none-of x ns (none_behind x (file_names_of_message n) (flat_map file_names_of_message ns) h) in
      λ i. here i || rest i

  distinct-of : (ns : List MessageNames) → are_distinct (flat_map file_names_of_message ns) ≡ true → are_distinct (map of ns) ≡ true
  distinct-of [] h = refl
  distinct-of (n ∷ ns) h =
      let here = none-of (of n) ns (first-apart (of n) (file_names_of_message n) (flat_map file_names_of_message ns) (is n) h) in
      let rest = distinct-of ns (distinct_behind (file_names_of_message n) (flat_map file_names_of_message ns) h) in
      λ i. not (here i) && rest i

  all-of : (P : List ℕ → Type 0) (ns : List MessageNames) → AllByRecursion P (flat_map file_names_of_message ns) → AllByRecursion P (map of ns)
  all-of P [] h = tt
  all-of P (n ∷ ns) h =
      let own : Among (of n) (file_names_of_message n ++ flat_map file_names_of_message ns) = among-front (of n) (file_names_of_message n) (flat_map file_names_of_message ns) (is n) in
      (all-among P (of n) (file_names_of_message n ++ flat_map file_names_of_message ns) h own, all-of P ns (all_behind P (file_names_of_message n) (flat_map file_names_of_message ns) h))

  apart-of : (t : SymbolTable) → AreApart is_reserved (file_names t) → AreApart is_reserved (map of t.messages)
  apart-of t h = record {
    distinct = distinct-of t.messages (both_true (list_any (bytes_eq t.guard) (flat_map file_names_of_message t.messages)) (are_distinct (flat_map file_names_of_message t.messages)) h.distinct).1;
    free = all-of (λ x. is_reserved x ≡ false) t.messages h.free.1;
    words = all-of (λ x. is_c_name x ≡ true) t.messages h.words.1;
  }

-- ---- tags and pack functions

behind-cycle : (y : List ℕ) (o : Option (List ℕ)) (xs rest : List (List ℕ)) → Among y xs → Among y ((one_or_none o ++ xs) ++ rest)
behind-cycle y None xs rest a = among-front y xs rest a
behind-cycle y (Some c) xs rest a = inr (among-front y xs rest a)

tag-is : (n : MessageNames) → Among n.tag (file_names_of_message n)
tag-is n = inr (inr (inr (behind-cycle n.tag n.cycle (n.tag ∷ n.pack ∷ n.unpack ∷ n.init ∷ []) (flat_map file_names_of_signal n.signals) (inl refl))))

pack-is : (n : MessageNames) → Among n.pack (file_names_of_message n)
pack-is n = inr (inr (inr (behind-cycle n.pack n.cycle (n.tag ∷ n.pack ∷ n.unpack ∷ n.init ∷ []) (flat_map file_names_of_signal n.signals) (inr (inl refl)))))

-- ---- all names

each-named : (ms : List Message) (ns : List MessageNames) → AllPairs HasNamesOfMessage ms ns → AllByRecursion (λ n. AreApart is_reserved (field_names n)) ns
    → AllByRecursion (λ n. AreApart is_reserved_local (local_names n)) ns → AllPairs IsNamed ms ns
each-named [] ns h fields locals = h
each-named (m ∷ ms) [] h fields locals = h
each-named (m ∷ ms) (n ∷ ns) h fields locals = (record { signals = h.0.signals; fields = fields.0; locals = locals.0 }, each-named ms ns h.1 fields.1 locals.1)

no-helpers : (ns : List MessageNames) → AllByRecursion HasLetters ns → AllByRecursion (λ n. IsNoHelper (MessageNames.pack n)) ns
no-helpers [] h = tt
no-helpers (n ∷ ns) h = (no-helper n.pack h.0.pack_end, no-helpers ns h.1)

pub are-named : (ms : List Message) (t : SymbolTable) → AllPairs HasNamesOfMessage ms t.messages → HasNamesApart t → AllHaveLetters t → AreNamed ms t.messages
are-named ms t each apart letters = record {
  each = each-named ms t.messages each apart.fields apart.locals;
  tags = apart-of (λ n. n.tag) tag-is t apart.file;
  functions = apart-of (λ n. n.pack) pack-is t apart.file;
  no_helpers = no-helpers t.messages letters.messages;
}
