-- The parts of a header may be printed, leave its items, and define their macros, each of which is new.
use Rattle.std.proofs.Common.{◌≡◌, ℕ, ◌^◌, ◌<◌, Bool, true, false, cond, List, [], ◌∷◌, ◌++◌, map, Option, Some, None, refl, sym, ap, subst, ◌∙◌, arith}
use Rattle.std.specs.List.{AllByRecursion, list_any}
use Rattle.std.specs.Str.{bytes_eq}
use Rattle.cg_out.specs.Words.{look_up}
use Rattle.can_model.specs.declared.database.Message.{Message}
use Rattle.name_rules.specs.declared.table.SymbolTable.{SymbolTable}
use Rattle.name_rules.specs.declared.table.MessageNames.{MessageNames}
use Rattle.name_rules.specs.Distinct.{are_distinct}
use Rattle.c_text.specs.StandardHeader.{Header, stdbool_h, stddef_h, stdint_h}
use Rattle.c_tree.specs.Symbol.{keyword_in}
use Rattle.c_tree.specs.BareExpression.{Tree, bracket}
use Rattle.c_tree.specs.BareUnit.{BareItem, struct, function}
use Rattle.c_printed.specs.PrintedUnit.{Part, comment, blank, include, define, if_not_defined, end_if, routine}
use Rattle.c_printed.specs.Printable.{IsFree, IsConstant, sixteen}
use Rattle.c_printed.specs.PrintableItem.{IsShown}
use Rattle.c_printed.specs.State.{Macro, State, header_named, listed, unless_known, with_macros, with_headers}
use Rattle.c_printed.specs.PrintableUnit.{IsBody, IsSame, IsKnown, AllRight, no_header}
use Rattle.c_printed.specs.Reread.{header_items, header_macros}
use Rattle.c_printed.proofs.UnitFits.{decimal-fits}
use Rattle.gen_unit.specs.Header.{bool_header, size_header, integer_header, about, number, all_message_parts, include_parts, error_parts, header_parts}
use Rattle.gen_unit.specs.Comments.{opening_text, shown_byte}
use Rattle.gen_pack.specs.StructFields.{struct_fields}
use Rattle.gen_pack.specs.PackTree.{error_name, pack_head}
use Rattle.gen_unit.specs.HeaderStruct.{struct_part}
use Rattle.gen_items.specs.UnitItems.{message_items}
use Rattle.gen_unit.specs.Small.{AreSmall}
use Rattle.gen_unit.proofs.Comments.{shown}
use Rattle.gen_unit.proofs.Letters.{begins_large, HasLetters, AllHaveLetters}
use Rattle.gen_unit.proofs.OwnNames.{GiveTypes, Knows, knows-more}
use Rattle.gen_unit.proofs.MessageItems.{HasOwnNames, same-fields, struct-settles, prototype-settles, struct-fields-right, struct-is-some, head-right}
use Rattle.gen_unit.proofs.Names.{all_macros, names, either_false, both_true, GuardIsFree, AreOwn}

-- ---- parts in a row

-- where this is known, the parts may be printed, leave these items, and define these macros
pub record Prints (s : State) (ps : List Part) (items : List BareItem) (ms : List Macro) : Type 0 where
  pub right : AllRight None no_header (λ t. t) s ps
  pub items_are : header_items ps s ≡ items
  pub macros : header_macros ps s ≡ ms

prints-comment : (s : State) (t : List ℕ) (ps : List Part) (is : List BareItem) (ms : List Macro) → IsShown t → Prints s ps is ms → Prints s (comment t ∷ ps) is ms
prints-comment s t ps is ms h x = record { right = (h, x.right); items_are = x.items_are; macros = x.macros }

prints-blank : (s : State) (ps : List Part) (is : List BareItem) (ms : List Macro) → Prints s ps is ms → Prints s (blank ∷ ps) is ms
prints-blank s ps is ms x = record { right = (tt, x.right); items_are = x.items_are; macros = x.macros }

prints-end : (s : State) (ps : List Part) (is : List BareItem) (ms : List Macro) → Prints s ps is ms → Prints s (end_if ∷ ps) is ms
prints-end s ps is ms x = record { right = (tt, x.right); items_are = x.items_are; macros = x.macros }

prints-ifndef : (s : State) (n : List ℕ) (ps : List Part) (is : List BareItem) (ms : List Macro) → IsFree n → look_up n s.macros ≡ None → Prints s ps is ms → Prints s (if_not_defined n ∷ ps) is ms
prints-ifndef s n ps is ms f e x = record { right = ((f, e), x.right); items_are = x.items_are; macros = x.macros }

prints-include : (s : State) (n : List ℕ) (ps : List Part) (is : List BareItem) (ms : List Macro) → IsKnown (header_named n) → Prints (with_headers s (listed (header_named n))) ps is ms → Prints s (include n ∷ ps) is ms
prints-include s n ps is ms h x = record { right = (h, x.right); items_are = x.items_are; macros = x.macros }

-- a macro that is new
prints-define : (s : State) (n : List ℕ) (body : Option Tree) (ps : List Part) (is : List BareItem) (ms : List Macro) → IsFree n → IsBody body → look_up n s.macros ≡ None
    → Prints (with_macros s ((n, body) ∷ [])) ps is ms → Prints s (define n body ∷ ps) is ((n, body) ∷ ms)
prints-define s n body ps is ms f b e x = record {
  right = ((f, b, subst (λ o. IsSame o body) (sym e) tt), subst (λ o. AllRight None no_header (λ t. t) (with_macros s (unless_known o (n, body))) ps) (sym e) x.right);
  items_are = ap (λ o. header_items ps (with_macros s (unless_known o (n, body)))) e ∙ x.items_are;
  macros = (λ i. unless_known (e i) (n, body) ++ header_macros ps (with_macros s (unless_known (e i) (n, body)))) ∙ ap (λ r. (n, body) ∷ r) x.macros;
}

-- a message's struct and the prototype of its pack function
prints-struct : (s : State) (m : Message) (n : MessageNames) (ps : List Part) (is : List BareItem) (ms : List Macro) → Knows s → HasOwnNames n → Prints s ps is ms
    → Prints s (struct_part m n ∷ ps) (struct n.tag (struct_fields m n) ∷ is) ms
prints-struct s m n ps is ms k own x = record {
  right = ((own.tag.free, struct-is-some m.signals n, struct-fields-right m.signals n own, struct-settles s k m.signals n own), x.right);
  items_are = λ i. struct n.tag (same-fields m.signals n.signals i) ∷ x.items_are i;
  macros = x.macros;
}

prints-prototype : (s : State) (n : MessageNames) (ps : List Part) (is : List BareItem) (ms : List Macro) → Knows s → HasOwnNames n → Prints s ps is ms
    → Prints s (routine (pack_head n) None ∷ ps) (function (pack_head n) None ∷ is) ms
prints-prototype s n ps is ms k own x = record {
  right = ((head-right n own, tt, prototype-settles s k n own), x.right);
  items_are = ap (λ (rest : List BareItem). function (pack_head n) None ∷ rest) x.items_are;
  macros = x.macros;
}

-- ---- new names

-- none of these is a macro there
abbrev AreNone : List Macro → List Macro → Type 0
AreNone known ds = AllByRecursion (λ (d : Macro). look_up d.0 known ≡ None) ds

look-behind : (x : List ℕ) (known : List Macro) (n : List ℕ) (body : Option Tree) → look_up x known ≡ None → bytes_eq n x ≡ false → look_up x (known ++ (n, body) ∷ []) ≡ None
look-behind x [] n body h e = ap (λ b. cond b (Some body) None) e
look-behind x (k ∷ known) n body h e = by (bytes_eq k.0 x) h (λ g. look-behind x known n body g e)
  where
    by : (b : Bool) → cond b (Some k.1) (look_up x known) ≡ None → (look_up x known ≡ None → look_up x (known ++ (n, body) ∷ []) ≡ None) → cond b (Some k.1) (look_up x (known ++ (n, body) ∷ [])) ≡ None
    by true g f = cc
    by false g f = f g

none_more : (known : List Macro) (n : List ℕ) (body : Option Tree) (ds : List Macro) → AreNone known ds → list_any (bytes_eq n) (names ds) ≡ false → AreNone (known ++ (n, body) ∷ []) ds
none_more known n body [] h k = tt
none_more known n body (d ∷ ds) h k =
    let p = either_false (bytes_eq n d.0) (list_any (bytes_eq n) (names ds)) k in
    (look-behind d.0 known n body h.0 p.0, none_more known n body ds h.1 p.1)

-- ---- messages

bracket-body : (v base : ℕ) (u : Bool) → IsConstant (record { value = v; base = base; unsigned = u; longs = 0 }) → IsBody (Some (bracket (number v base u)))
bracket-body v base u h = (h, tt)

flag-small : (b : Bool) → cond b 1 0 < 2 ^ 64
flag-small true = omega arith
flag-small false = omega arith

-- the items of messages, in the order of the header
abbrev pub all_items : List Message → List MessageNames → List BareItem
all_items [] ns = []
all_items (m ∷ ms) [] = []
all_items (m ∷ ms) (n ∷ ns) = message_items m n ++ all_items ms ns

prints-messages : (s : State) (ms : List Message) (ns : List MessageNames) → Knows s → AllByRecursion HasLetters ns → AllByRecursion HasOwnNames ns → AreSmall ms
    → AllByRecursion (λ (d : Macro). IsFree d.0) (all_macros ms ns) → are_distinct (names (all_macros ms ns)) ≡ true → AreNone s.macros (all_macros ms ns)
    → Prints s (all_message_parts ms ns ++ end_if ∷ []) (all_items ms ns) (all_macros ms ns)
prints-messages s [] ns k letters own small free apart new = prints-end s [] [] [] (record { right = tt; items_are = refl; macros = refl })
prints-messages s (m ∷ ms) [] k letters own small free apart new = prints-end s [] [] [] (record { right = tt; items_are = refl; macros = refl })
prints-messages s (m ∷ ms) (n ∷ ns) k letters own small free apart new =
    let rest = all_macros ms ns in
    let behind = names rest in
    let id : Option Tree = Some (bracket (number m.id 16 true)) in
    let size : Option Tree = Some (bracket (number m.length 10 true)) in
    let flag : Option Tree = Some (bracket (number (cond m.extended 1 0) 10 false)) in
    let p = both_true (list_any (bytes_eq n.frame_id) (n.length ∷ n.extended ∷ behind)) (are_distinct (n.length ∷ n.extended ∷ behind)) apart in
    let q = both_true (list_any (bytes_eq n.length) (n.extended ∷ behind)) (are_distinct (n.extended ∷ behind)) p.1 in
    let r = both_true (list_any (bytes_eq n.extended) behind) (are_distinct behind) q.1 in
    let one = with_macros s ((n.frame_id, id) ∷ []) in
    let two = with_macros one ((n.length, size) ∷ []) in
    let three = with_macros two ((n.extended, flag) ∷ []) in
    let new1 : AreNone one.macros ((n.length, size) ∷ (n.extended, flag) ∷ rest) = none_more s.macros n.frame_id id ((n.length, size) ∷ (n.extended, flag) ∷ rest) new.1 p.0 in
    let new2 : AreNone two.macros ((n.extended, flag) ∷ rest) = none_more one.macros n.length size ((n.extended, flag) ∷ rest) new1.1 q.0 in
    let new3 : AreNone three.macros rest = none_more two.macros n.extended flag rest new2.1 r.0 in
    let known : Knows three = knows-more two n.extended flag (knows-more one n.length size (knows-more s n.frame_id id k letters.0.frame_id) letters.0.length) letters.0.extended in
    let tail = all_message_parts ms ns ++ end_if ∷ [] in
    let items = all_items ms ns in
    prints-comment s (map shown_byte (about m)) _ _ _ (shown (about m))
    (prints-define s n.frame_id id _ _ _ free.0 (record { small = small.0.id; base = sixteen; longs = omega arith }, tt) new.0
    (prints-define one n.length size _ _ _ free.1.0 (decimal-fits m.length true small.0.length, tt) new1.0
    (prints-define two n.extended flag (blank ∷ struct_part m n ∷ blank ∷ routine (pack_head n) None ∷ blank ∷ tail) (message_items m n ++ items) rest free.1.1.0 (decimal-fits (cond m.extended 1 0) false (flag-small m.extended), tt) new2.0
    (prints-blank three _ _ _
    (prints-struct three m n (blank ∷ routine (pack_head n) None ∷ blank ∷ tail) (function (pack_head n) None ∷ items) rest known own.0
    (prints-blank three _ _ _
    (prints-prototype three n (blank ∷ tail) items rest known own.0
    (prints-blank three tail items rest (prints-messages three ms ns known letters.1 own.1 small.1 free.1.1.1 r.1 new3)))))))))

-- ---- the whole

pub error-free : IsFree error_name
unfolding error_name keyword_in
error-free = ((refl, (refl, (refl, (refl, (refl, (refl, tt)))))), refl)

pub error-large : begins_large error_name ≡ true
unfolding error_name
error-large = refl

abbrev pub front : List ℕ → List Macro
front g = (g, None) ∷ (error_name, Some (number 22 10 false)) ∷ []

none-in-front : (g : List ℕ) (ds : List Macro) → list_any (bytes_eq g) (names ds) ≡ false → AllByRecursion (λ (d : Macro). bytes_eq error_name d.0 ≡ false) ds → AreNone (front g) ds
none-in-front g [] h k = tt
none-in-front g (d ∷ ds) h k =
    let p = either_false (bytes_eq g d.0) (list_any (bytes_eq g) (names ds)) h in
    ((λ i. cond (p.0 i) (Some None) (cond (k.0 i) (Some (Some (number 22 10 false))) None)), none-in-front g ds p.1 k.1)

-- behind these headers, and no macro
abbrev pub knowing : List Header → State
knowing hs = record { macros = []; headers = hs }

-- behind its own includes a header knows these
abbrev pub with_includes : List Header → List Header
with_includes hs = ((hs ++ (stdbool_h ∷ [])) ++ (stddef_h ∷ [])) ++ (stdint_h ∷ [])

pub prints-header : (hs : List Header) (ms : List Message) (t : SymbolTable) → GiveTypes (with_includes hs) → AllHaveLetters t → AllByRecursion HasOwnNames t.messages → AreSmall ms → GuardIsFree t.guard
    → AreOwn t.guard (all_macros ms t.messages) → Prints (knowing hs) (header_parts ms t) (all_items ms t.messages) (front t.guard ++ all_macros ms t.messages)
unfolding bool_header size_header integer_header
prints-header hs ms t types letters names small g own =
    let guard = t.guard in
    let ds = all_macros ms t.messages in
    let is = all_items ms t.messages in
    let no_error : look_up error_name ((guard, None) ∷ []) ≡ None = ap (λ b. cond b (Some None) None) g.not_error in
    let messages = all_message_parts ms t.messages ++ end_if ∷ [] in
    let s1 = with_macros (knowing hs) ((guard, None) ∷ []) in
    let s2 = with_headers (with_headers (with_headers s1 (listed (header_named bool_header))) (listed (header_named size_header))) (listed (header_named integer_header)) in
    let s3 = with_macros s2 ((error_name, Some (number 22 10 false)) ∷ []) in
    let known : Knows s3 = record { large = (letters.guard, (error-large, tt)); types = types } in
    let body = prints-messages s3 ms t.messages known letters.messages names small own.free own.distinct (none-in-front guard ds own.no_guard own.no_error) in
    let error : Prints s2 (error_parts ++ messages) is ((error_name, Some (number 22 10 false)) ∷ ds) =
    prints-ifndef s2 error_name _ _ _ error-free no_error
    (prints-define s2 error_name (Some (number 22 10 false)) (end_if ∷ blank ∷ messages) is ds error-free (decimal-fits 22 false (omega arith), tt) no_error
    (prints-end s3 (blank ∷ messages) is ds (prints-blank s3 messages is ds body))) in
    let includes : Prints s1 (include_parts ++ (error_parts ++ messages)) is ((error_name, Some (number 22 10 false)) ∷ ds) =
    prints-include s1 bool_header _ _ _ tt
    (prints-include _ size_header _ _ _ tt
    (prints-include _ integer_header _ _ _ tt (prints-blank s2 (error_parts ++ messages) _ _ error))) in
    prints-comment (knowing hs) (map shown_byte opening_text) _ _ _ (shown opening_text)
    (prints-blank (knowing hs) _ _ _
    (prints-ifndef (knowing hs) guard _ _ _ g.free refl
    (prints-define (knowing hs) guard None (blank ∷ (include_parts ++ (error_parts ++ messages))) _ _ g.free tt refl (prints-blank s1 _ _ _ includes))))
