-- The header's parts may be printed, and leave its items and its macros.
use Rattle.std.proofs.Common.{◌≡◌, ℕ, true, false, List, [], ◌∷◌, ◌++◌, map, Some, None, refl, ap, subst, arith, length-append}
use Rattle.std.specs.Prelude.{codes}
use Rattle.std.specs.List.{AllByRecursion, flat_map, zip}
use Rattle.std.proofs.lemmas.Bool.Decides.{nat_tests}
use Rattle.can_model.specs.declared.database.Message.{Message}
use Rattle.name_rules.specs.declared.table.SymbolTable.{SymbolTable}
use Rattle.name_rules.specs.declared.table.MessageNames.{MessageNames}
use Rattle.name_rules.specs.IsIdentifier.{is_identifier_byte, IsIdentifier}
use Rattle.name_rules.specs.Names.{HasNamesApart}
use Rattle.name_rules.proofs.NamesApart.{identifier-bytes}
use Rattle.c_text.specs.Characters.{goes_on, Pass}
use Rattle.c_text.specs.Splice.{is_plain}
use Rattle.c_text.specs.Piece.{in_string}
use Rattle.c_text.specs.StandardHeader.{Header}
use Rattle.c_text.proofs.Boundary.{pass-all, pass-append}
use Rattle.c_text.proofs.PrintedLines.{bytes-in_string, bytes-plain}
use Rattle.c_tree.specs.BareUnit.{BareItem}
use Rattle.c_printed.specs.PrintedUnit.{end_if}
use Rattle.c_printed.specs.Within.{ItemWithin}
use Rattle.c_printed.specs.PrintableUnit.{IsBeside, Balanced, IsHeaderAt}
use Rattle.c_printed.specs.Reread.{macro_tokens}
use Rattle.gen_pack.specs.PackTree.{error_name}
use Rattle.gen_unit.specs.Header.{number, all_message_parts, header_parts, header_name}
use Rattle.gen_unit.specs.Macros.{Macro, constants_of, macros_of}
use Rattle.gen_items.specs.UnitItems.{message_items, declared_items}
use Rattle.gen_unit.specs.Small.{AreSmall}
use Rattle.gen_unit.proofs.Letters.{AllHaveLetters}
use Rattle.gen_unit.proofs.OwnNames.{GiveTypes}
use Rattle.gen_unit.proofs.MessageItems.{own-names}
use Rattle.gen_unit.proofs.Names.{all_macros, guard-is_free, macros-are_own}
use Rattle.gen_unit.proofs.NewMacros.{Prints, front, knowing, all_items, with_includes, prints-header}

-- ---- the name of the header

byte-goes_on : (b : ℕ) → is_identifier_byte b ≡ true → goes_on b ≡ true
byte-goes_on b h = grind (arith, nat_tests)

bytes-go_on : (bs : List ℕ) → AllByRecursion (λ b. is_identifier_byte b ≡ true) bs → Pass goes_on bs
bytes-go_on [] h = tt
bytes-go_on (b ∷ bs) h = (byte-goes_on b h.0, bytes-go_on bs h.1)

pub name-beside : (name : List ℕ) → IsIdentifier name → IsBeside (Some (header_name name)) (header_name name)
name-beside name h =
    let go = bytes-go_on name (identifier-bytes name h) in
    record {
      is = refl;
      not_empty = omega (arith, length-append name (codes ".h"));
      shown = pass-append in_string name (codes ".h") (bytes-in_string name go) (pass-all in_string (codes ".h") refl);
      plain = pass-append is_plain name (codes ".h") (bytes-plain name go) (pass-all is_plain (codes ".h") refl);
    }

-- ---- conditionals

messages-balanced : (ms : List Message) (ns : List MessageNames) → Balanced 1 (all_message_parts ms ns ++ end_if ∷ [])
messages-balanced [] ns = refl
messages-balanced (m ∷ ms) [] = refl
messages-balanced (m ∷ ms) (n ∷ ns) = messages-balanced ms ns

-- ---- the macros

constants-are : (ms : List Message) (ns : List MessageNames) → map macro_tokens (all_macros ms ns) ≡ flat_map (λ p. constants_of p.0 p.1) (zip ms ns)
constants-are [] ns = refl
constants-are (m ∷ ms) [] = refl
constants-are (m ∷ ms) (n ∷ ns) = ap (λ (rest : List Macro). constants_of m n ++ rest) (constants-are ms ns)

pub macros-are : (ms : List Message) (t : SymbolTable) → map macro_tokens ((t.guard, None) ∷ (error_name, Some (number 22 10 false)) ∷ all_macros ms t.messages) ≡ macros_of ms t
unfolding error_name
macros-are ms t = ap (λ (rest : List Macro). map macro_tokens ((t.guard, None) ∷ (error_name, Some (number 22 10 false)) ∷ []) ++ rest) (constants-are ms t.messages)

-- ---- the items

all-items-are : (ms : List Message) (ns : List MessageNames) → all_items ms ns ≡ flat_map (λ p. message_items p.0 p.1) (zip ms ns)
all-items-are [] ns = refl
all-items-are (m ∷ ms) [] = refl
all-items-are (m ∷ ms) (n ∷ ns) = ap (λ (rest : List BareItem). message_items m n ++ rest) (all-items-are ms ns)

pub items-are-within : (ps : List (Message × MessageNames)) → AllByRecursion ItemWithin (flat_map (λ p. message_items p.0 p.1) ps)
items-are-within [] = tt
items-are-within (p ∷ ps) = (tt, (tt, items-are-within ps))

-- ---- a header

-- the names of a pair are its own
pub record HasItsNames (t : SymbolTable) : Type 0 where
  pub apart : HasNamesApart t
  pub letters : AllHaveLetters t

at-all : (hs : List Header) (ms : List Message) (t : SymbolTable) → GiveTypes (with_includes hs) → AreSmall ms → HasItsNames t
    → Prints (knowing hs) (header_parts ms t) (all_items ms t.messages) (front t.guard ++ all_macros ms t.messages)
at-all hs ms t types small names =
    let file = names.apart.file in
    let own = own-names t.messages file.words.1 file.free.1 names.apart.fields names.apart.locals names.letters.messages in
    prints-header hs ms t types names.letters own small (guard-is_free t file) (macros-are_own ms t file)

pub at-headers : (hs : List Header) (ms : List Message) (t : SymbolTable) → GiveTypes (with_includes hs) → AreSmall ms → HasItsNames t
    → Prints (knowing hs) (header_parts ms t) (declared_items (zip ms t.messages)) (front t.guard ++ all_macros ms t.messages)
at-headers hs ms t types small names =
    subst (λ (is : List BareItem). Prints (knowing hs) (header_parts ms t) is (front t.guard ++ all_macros ms t.messages)) (all-items-are ms t.messages) (at-all hs ms t types small names)

pub header-may-be-printed : (hs : List Header) (ms : List Message) (t : SymbolTable) → GiveTypes (with_includes hs) → AreSmall ms → HasItsNames t → IsHeaderAt (knowing hs) (header_parts ms t)
header-may-be-printed hs ms t types small names =
    let x = at-headers hs ms t types small names in
    record { right = x.right; balanced = messages-balanced ms t.messages }
