-- Names that can stand side by side in one place of a C text (ISO/IEC 9899:1999, 6.2.1 and 6.4.2.1).
use Rattle.std.specs.Prelude.{◌≡◌, ℕ, Bool, true, false, ◌||◌, ◌&&◌, ◌==◌, List, [], ◌∷◌}
use Rattle.std.specs.List.{list_all, AllByRecursion}
use Rattle.std.specs.Char.{is_ascii_alphabetic, is_ascii_alphanumeric}
use Rattle.name_rules.specs.declared.table.SymbolTable.{SymbolTable}
use Rattle.name_rules.specs.Distinct.{are_distinct}
use Rattle.name_rules.specs.Reserved.{is_reserved, is_reserved_local}
use Rattle.name_rules.specs.Symbols.{file_names, field_names, local_names}

-- a letter, and then letters, digits and `_`
abbrev pub is_c_name : List ℕ → Bool
is_c_name [] = false
is_c_name (b ∷ bs) = is_ascii_alphabetic b && list_all (λ c. is_ascii_alphanumeric c || c == 95) bs

-- names of C of which no two are equal and none is reserved
pub record AreApart (is_reserved : List ℕ → Bool) (names : List (List ℕ)) : Type 0 where
  pub distinct : are_distinct names ≡ true
  pub free : AllByRecursion (λ x. is_reserved x ≡ false) names
  pub words : AllByRecursion (λ x. is_c_name x ≡ true) names

-- the file, each struct, and the local variables of each message's functions
pub record HasNamesApart (t : SymbolTable) : Type 0 where
  pub file : AreApart is_reserved (file_names t)
  pub fields : AllByRecursion (λ m. AreApart is_reserved (field_names m)) t.messages
  pub locals : AllByRecursion (λ m. AreApart is_reserved_local (local_names m)) t.messages
