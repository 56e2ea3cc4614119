-- What is known behind a header: its macros, and the headers that it includes.
use Rattle.std.proofs.Common.{◌≡◌, List, [], ◌∷◌, ◌++◌, refl, sym, ap, ◌∙◌, append-nil, append_assoc}
use Rattle.can_model.specs.declared.database.Message.{Message}
use Rattle.name_rules.specs.declared.table.SymbolTable.{SymbolTable}
use Rattle.name_rules.specs.declared.table.MessageNames.{MessageNames}
use Rattle.c_text.specs.StandardHeader.{Header}
use Rattle.c_printed.specs.PrintedUnit.{Part, comment, blank, include, include_beside, define, if_not_defined, end_if, structure, routine}
use Rattle.c_printed.specs.State.{State, header_named, listed, new_macros, with_macros, with_headers, header_state}
use Rattle.c_printed.specs.Reread.{header_macros}
use Rattle.gen_unit.specs.Header.{bool_header, size_header, integer_header, all_message_parts, header_parts}
use Rattle.gen_unit.proofs.NewMacros.{knowing, with_includes}

-- the standard headers that parts include
abbrev included : List Part → List Header
included [] = []
included (include n ∷ ps) = listed (header_named n) ++ included ps
included (p ∷ ps) = included ps

-- ---- macros

pub macros-behind : (ps : List Part) (s : State) → (header_state ps s).macros ≡ s.macros ++ header_macros ps s
macros-behind [] s = sym (append-nil s.macros)
macros-behind (comment t ∷ ps) s = macros-behind ps s
macros-behind (blank ∷ ps) s = macros-behind ps s
macros-behind (include n ∷ ps) s = macros-behind ps (with_headers s (listed (header_named n)))
macros-behind (include_beside n ∷ ps) s = macros-behind ps s
macros-behind (define n body ∷ ps) s =
    let more = new_macros s (n, body) in
    macros-behind ps (with_macros s more) ∙ append_assoc s.macros more (header_macros ps (with_macros s more))
macros-behind (if_not_defined n ∷ ps) s = macros-behind ps s
macros-behind (end_if ∷ ps) s = macros-behind ps s
macros-behind (structure tag fs ∷ ps) s = macros-behind ps s
macros-behind (routine h body ∷ ps) s = macros-behind ps s

-- ---- headers

headers-behind : (ps : List Part) (s : State) → (header_state ps s).headers ≡ s.headers ++ included ps
headers-behind [] s = sym (append-nil s.headers)
headers-behind (comment t ∷ ps) s = headers-behind ps s
headers-behind (blank ∷ ps) s = headers-behind ps s
headers-behind (include n ∷ ps) s =
    let more = listed (header_named n) in
    headers-behind ps (with_headers s more) ∙ append_assoc s.headers more (included ps)
headers-behind (include_beside n ∷ ps) s = headers-behind ps s
headers-behind (define n body ∷ ps) s = headers-behind ps (with_macros s (new_macros s (n, body)))
headers-behind (if_not_defined n ∷ ps) s = headers-behind ps s
headers-behind (end_if ∷ ps) s = headers-behind ps s
headers-behind (structure tag fs ∷ ps) s = headers-behind ps s
headers-behind (routine h body ∷ ps) s = headers-behind ps s

none-included : (ms : List Message) (ns : List MessageNames) → included (all_message_parts ms ns ++ end_if ∷ []) ≡ []
none-included [] ns = refl
none-included (m ∷ ms) [] = refl
none-included (m ∷ ms) (n ∷ ns) = none-included ms ns

pub headers-of_header : (hs : List Header) (ms : List Message) (t : SymbolTable) → (header_state (header_parts ms t) (knowing hs)).headers ≡ with_includes hs
unfolding bool_header size_header integer_header
headers-of_header hs ms t =
    headers-behind (header_parts ms t) (knowing hs)
    ∙ ap (λ (r : List Header). hs ++ (listed (header_named bool_header) ++ (listed (header_named size_header) ++ (listed (header_named integer_header) ++ r)))) (none-included ms t.messages)
    ∙ sym (append_assoc (hs ++ listed (header_named bool_header)) (listed (header_named size_header)) (listed (header_named integer_header))
    ∙ append_assoc hs (listed (header_named bool_header)) (listed (header_named size_header) ++ listed (header_named integer_header)))
