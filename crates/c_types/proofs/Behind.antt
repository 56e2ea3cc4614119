-- What a place in a unit knows, item by item.
use Rattle.std.proofs.Common.{◌≡◌, ℕ, ◌+◌, ◌<◌, Bool, List, [], ◌∷◌, ◌++◌, length, drop, get_or, refl, sym, ap, ◌∙◌, append_assoc, append-nil}
use Rattle.c_tree.specs.declared.item.Item.{Item}
use Rattle.c_tree.specs.declared.item.Item.TheVariants as item
use Rattle.cg_out.specs.Words.{or_else, look_up}
use Rattle.cg_out.proofs.WordLaws.{or_else-assoc}
use Rattle.name_table.specs.Adds.{Adds}
use Rattle.name_table.proofs.Adding.{look_up-append}
use Rattle.c_widths.specs.DataModel.{DataModel}
use Rattle.c_types.specs.Setting.{Setting, setting, structs, functions, definitions, definition, callings, calling}
use Rattle.c_types.specs.Behind.{behind_item}

-- ---- the names of items in a row

structs-append : (xs : List Item) (i : Item) → structs (xs ++ i ∷ []) ≡ structs xs ++ structs (i ∷ [])
structs-append [] i = refl
structs-append (item.Struct s ∷ xs) i = ap (λ r. (s.tag, s.fields) ∷ r) (structs-append xs i)
structs-append (item.Function f ∷ xs) i = structs-append xs i

functions-append : (xs : List Item) (i : Item) → functions (xs ++ i ∷ []) ≡ functions xs ++ functions (i ∷ [])
functions-append [] i = refl
functions-append (item.Struct s ∷ xs) i = functions-append xs i
functions-append (item.Function f ∷ xs) i = ap (λ r. (f.name, f) ∷ r) (functions-append xs i)

definitions-append : (xs : List Item) (i : Item) → definitions (xs ++ i ∷ []) ≡ definitions xs ++ definitions (i ∷ [])
definitions-append [] i = refl
definitions-append (item.Struct s ∷ xs) i = definitions-append xs i
definitions-append (item.Function f ∷ xs) i =
    ap (λ r. definition f.body f ++ r) (definitions-append xs i)
    ∙ sym (append_assoc (definition f.body f) (definitions xs) (definitions (i ∷ [])))

callings-cons : (i : Item) (xs : List Item) → callings (i ∷ xs) ≡ callings (i ∷ []) ++ callings xs
callings-cons (item.Struct s) xs = refl
callings-cons (item.Function f) xs = ap (λ r. r ++ callings xs) (sym (append-nil (calling f.body f.name)))

-- one more item
pub calls-step : (items : List Item) (i : ℕ) (x : Item) (old new : List (List ℕ × Bool)) → i < length items → x ≡ get_or items i x
    → drop i items ≡ x ∷ drop (i + 1) items → Adds old (callings (x ∷ [])) new
    → ((name : List ℕ) → or_else (look_up name old) (look_up name (callings (drop i items))) ≡ look_up name (callings items))
    → (name : List ℕ) → or_else (look_up name new) (look_up name (callings (drop (i + 1) items))) ≡ look_up name (callings items)
calls-step items i x old new h is front adds left name =
    let rest = drop (i + 1) items in
    ap (λ o. or_else o (look_up name (callings rest))) (adds name)
    ∙ or_else-assoc (look_up name old) (look_up name (callings (x ∷ []))) (look_up name (callings rest))
    ∙ ap (or_else (look_up name old)) (sym (look_up-append name (callings (x ∷ [])) (callings rest)))
    ∙ ap (λ cs. or_else (look_up name old) (look_up name cs)) (sym (callings-cons x rest))
    ∙ ap (λ ys. or_else (look_up name old) (look_up name (callings ys))) (sym front)
    ∙ left name

-- ---- settings

pub same_setting : (s t : Setting) → s.model ≡ t.model → ((n : List ℕ) → s.fields n ≡ t.fields n) → ((n : List ℕ) → s.function n ≡ t.function n)
    → ((n : List ℕ) → s.defined n ≡ t.defined n) → ((n : List ℕ) → s.calls n ≡ t.calls n) → s ≡ t
same_setting s t m f g d c = λ p. record { model = m p; fields = λ n. f n p; function = λ n. g n p; defined = λ n. d n p; calls = λ n. c n p }

pub setting-behind : (m : DataModel) (items before : List Item) (i : Item) → setting m items (before ++ i ∷ []) ≡ behind_item i (setting m items before)
setting-behind m items before i = same_setting (setting m items (before ++ i ∷ [])) (behind_item i (setting m items before)) refl
    (λ n. ap (look_up n) (structs-append before i) ∙ look_up-append n (structs before) (structs (i ∷ [])))
    (λ n. ap (look_up n) (functions-append before i) ∙ look_up-append n (functions before) (functions (i ∷ [])))
    (λ n. ap (look_up n) (definitions-append before i) ∙ look_up-append n (definitions before) (definitions (i ∷ [])))
    (λ n. refl)
