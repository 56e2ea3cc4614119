-- What preprocessing leaves of the parts of a unit: the tokens of its items with names replaced, and its macros.
use Rattle.std.proofs.Common.{◌≡◌, ℕ, Bool, true, false, cond, List, [], ◌∷◌, ◌++◌, map, bytes_eq, Option, Some, None, option_map, is_some, ◌&&◌, ◌==◌, refl, sym, ap, subst, ◌∙◌, append_assoc, append-nil, arith}
use Rattle.std.specs.List.{AllByRecursion}
use Rattle.std.proofs.lemmas.Bool.{false≢true}
use Rattle.std.proofs.lemmas.List.{map-append}
use Rattle.std.proofs.lemmas.Slice.Eq.{bytes_eq-Decides}
use Rattle.c_text.specs.declared.token.TokenKind.{TokenKind}
use Rattle.c_text.specs.declared.token.TokenKind.TheVariants.{Word, Constant as Number, Quoted, Mark, TypeName, Null, Memset}
use Rattle.c_text.specs.declared.token.Spelled.{Spelled}
use Rattle.c_text.specs.declared.token.Spelled.TheVariants.{Exact, Size, Plain}
use Rattle.c_text.specs.declared.refusal.CKind.TheVariants.{Redefined}
use Rattle.c_tree.specs.BareExpression.{Tree}
use Rattle.std.proofs.lemmas.Bool.Decides.{nat_tests}
use Rattle.c_tree.specs.declared.symbol.Keyword.{Keyword}
use Rattle.c_text.specs.SeenToken.{Bare}
use Rattle.cg_out.specs.Words.{look_up, or_else, same_bool}
use Rattle.c_tree.specs.Symbol.{keyword_in}
use Rattle.c_text.specs.StandardHeader.{Header, stdbool_h, stddef_h, stdint_h, string_h, names_of, kind_in}
use Rattle.c_text.specs.Directive.{text, standard, define as define_line}
use Rattle.c_text.specs.MacroDefinition.{first_by, body_by, body_of, order_of, same_spelled, same_kind, same_body}
use Rattle.c_text.specs.Preprocessing.{each_behind, kind_by, unless_same, faults_at, macros_at, tokens_at}
use Rattle.c_text.specs.BarePreprocessing.{seen_kinds, named_kinds}
use Rattle.c_tree.specs.BareUnit.{BareItem, struct, function}
use Rattle.c_text.proofs.Group.{first_by-append, each_behind-append}
use Rattle.c_printed.specs.Spelling.{left, written}
use Rattle.c_printed.specs.PrintedUnit.{Part, comment, blank, include, include_beside, define, if_not_defined, end_if, structure, routine}
use Rattle.c_printed.specs.PrintedItem.{struct_text, function_text, struct_tokens, head_tokens, item_tokens, field_of, body_tokens as function_body_tokens}
use Rattle.c_printed.specs.Expanded.{expanded_item}
use Rattle.c_printed.specs.Settled.{settled, SettlesItem}
use Rattle.c_printed.specs.State.{State, kind_by_headers, macro_body, word_by, becomes, meaning, header_named, listed, unless_known, with_macros, with_headers, behind_part, behind_all, Macro}
use Rattle.c_printed.specs.Reread.{items_at, items_of, macros_of, macros_at as part_macros, macro_tokens}
use Rattle.c_printed.specs.PrintableUnit.{IsBody, IsSame, Right, AllRight}
use Rattle.cg_out.proofs.WordLaws.{or_else-none, or_else-assoc, or_else-map}
use Rattle.c_printed.proofs.SmallLaws.{some-of, kinds-append}
use Rattle.c_printed.proofs.ItemLines.{flat}
use Rattle.c_printed.proofs.ItemLaw.{reads-struct, reads-function}
use Rattle.c_printed.proofs.SettledLaw.{chosen, word_behind, KeywordsStand, item-settled, texts-settled}
use Rattle.c_printed.proofs.PartLines.{BareLine, groups_of, body_bares, body-kinds, item-kinds}
use Rattle.c_printed.proofs.ReadLines.{kept_part, kept, Unasked, AllUnasked}

-- ---- first entries

entry-append : {A : Type 0} (w : List ℕ) (xs ys : List (List ℕ × A)) → look_up w (xs ++ ys) ≡ or_else (look_up w xs) (look_up w ys)
entry-append w [] ys = refl
entry-append w (x ∷ xs) ys = first (bytes_eq x.0 w) (entry-append w xs ys)
  where
    first : (b : Bool) → look_up w (xs ++ ys) ≡ or_else (look_up w xs) (look_up w ys) → cond b (Some x.1) (look_up w (xs ++ ys)) ≡ or_else (cond b (Some x.1) (look_up w xs)) (look_up w ys)
    first true e = refl
    first false e = e

headers-append : (w : List ℕ) (xs ys : List Header) → kind_by_headers w (xs ++ ys) ≡ or_else (kind_by_headers w xs) (kind_by_headers w ys)
headers-append w [] ys = refl
headers-append w (h ∷ hs) ys = ap (or_else (kind_in h w)) (headers-append w hs ys) ∙ sym (or_else-assoc (kind_in h w) (kind_by_headers w hs) (kind_by_headers w ys))

-- ---- what is known of names, by lines and by the state

pub record Agrees (before : List BareLine) (s : State) : Type 0 where
  pub bodies : (w : List ℕ) → option_map seen_kinds (body_of w before) ≡ option_map macro_body (look_up w s.macros)
  pub kinds : (w : List ℕ) → first_by (kind_by w) before ≡ kind_by_headers w s.headers
  pub keywords : (w : List ℕ) → is_some (keyword_in w) ≡ true → look_up w s.macros ≡ None

choose-word : (w : List ℕ) (x : Option (List Bare)) (y : Option (Option Tree)) (k : Option TokenKind) → option_map seen_kinds x ≡ option_map macro_body y → chosen w x k ≡ word_by w y k
choose-word w (Some b) (Some t) k e = some-of e
choose-word w (Some b) None k e = cc
choose-word w None (Some t) k e = cc
choose-word w None None (Some k) e = refl
choose-word w None None None e = refl

pub agree-words : (before : List BareLine) (s : State) → Agrees before s → word_behind before ≡ becomes s
agree-words before s a = λ i w. (ap (λ k. chosen w (body_of w before) k) (a.kinds w) ∙ choose-word w (body_of w before) (look_up w s.macros) (kind_by_headers w s.headers) (a.bodies w)) i

still-some : (x : Option (List Bare)) (y : Option (Option Tree)) → option_map seen_kinds x ≡ option_map macro_body y → y ≡ None → x ≡ None
still-some None y e f = refl
still-some (Some x) (Some y) e f = cc
still-some (Some x) None e f = cc

no-macro : (before : List BareLine) (s : State) (n : List ℕ) → Agrees before s → look_up n s.macros ≡ None → body_of n before ≡ None
no-macro before s n a e = still-some (body_of n before) (look_up n s.macros) (a.bodies n) e

-- lines that give nothing
agree-texts : (before : List BareLine) (s : State) (gs : List (List Bare)) → Agrees before s → Agrees (before ++ map text gs) s
agree-texts before s gs a = record {
  bodies = λ w. ap (option_map seen_kinds) (first_by-append (body_by w) before (map text gs) ∙ ap (or_else (body_of w before)) (nothing-by (body_by w) (λ g. refl) gs) ∙ or_else-none (body_of w before)) ∙ a.bodies w;
  kinds = λ w. first_by-append (kind_by w) before (map text gs) ∙ ap (or_else (first_by (kind_by w) before)) (nothing-by (kind_by w) (λ g. refl) gs) ∙ or_else-none (first_by (kind_by w) before) ∙ a.kinds w;
  keywords = a.keywords;
}
  where
    nothing-by : {X : Type 0} (f : BareLine → Option X) → ((g : List Bare) → f (text g) ≡ None) → (hs : List (List Bare)) → first_by f (map text hs) ≡ None
    nothing-by f e [] = refl
    nothing-by f e (g ∷ hs) = ap (λ x. or_else x (first_by f (map text hs))) (e g) ∙ nothing-by f e hs

agree-header : (before : List BareLine) (s : State) (h : Option Header) → Agrees before s → Agrees (before ++ map standard (listed h)) (with_headers s (listed h))
agree-header before s None a = record {
  bodies = λ w. ap (λ b. option_map seen_kinds (body_of w b)) (append-nil before) ∙ a.bodies w;
  kinds = λ w. ap (first_by (kind_by w)) (append-nil before) ∙ a.kinds w ∙ ap (kind_by_headers w) (sym (append-nil s.headers));
  keywords = a.keywords;
}
agree-header before s (Some h) a = record {
  bodies = λ w. ap (option_map seen_kinds) (first_by-append (body_by w) before (standard h ∷ []) ∙ or_else-none (body_of w before)) ∙ a.bodies w;
  kinds = λ w. first_by-append (kind_by w) before (standard h ∷ []) ∙ ap (λ x. or_else x (or_else (kind_in h w) None)) (a.kinds w) ∙ sym (headers-append w s.headers (h ∷ []));
  keywords = a.keywords;
}

agree-new : (before : List BareLine) (s : State) (n : List ℕ) (body : Option Tree) → Agrees before s → keyword_in n ≡ None → IsBody body → Agrees (before ++ define_line tt n (body_bares body) ∷ []) (with_macros s ((n, body) ∷ []))
agree-new before s n body a free h = record {
  bodies = λ w.
      ap (option_map seen_kinds) (first_by-append (body_by w) before (define_line tt n (body_bares body) ∷ []))
      ∙ sym (or_else-map seen_kinds (body_of w before) (or_else (cond (bytes_eq n w) (Some (body_bares body)) None) None))
      ∙ (λ i. or_else (a.bodies w i) (one (bytes_eq n w) i))
      ∙ or_else-map macro_body (look_up w s.macros) (cond (bytes_eq n w) (Some body) None)
      ∙ ap (option_map macro_body) (sym (entry-append w s.macros ((n, body) ∷ [])));
  kinds = λ w. first_by-append (kind_by w) before (define_line tt n (body_bares body) ∷ []) ∙ or_else-none (first_by (kind_by w) before) ∙ a.kinds w;
  keywords = λ w e. entry-append w s.macros ((n, body) ∷ []) ∙ ap (λ x. or_else x (cond (bytes_eq n w) (Some body) None)) (a.keywords w e) ∙ other w e (bytes_eq n w) refl;
}
  where
    one : (b : Bool) → option_map seen_kinds (or_else (cond b (Some (body_bares body)) None) None) ≡ option_map macro_body (cond b (Some body) None)
    one true = ap Some (body-kinds body h)
    one false = refl

    other : (w : List ℕ) → is_some (keyword_in w) ≡ true → (b : Bool) → bytes_eq n w ≡ b → cond b (Some body) None ≡ None
    other w e true f = absurd (no-keyword w e (sym (ap keyword_in ((bytes_eq-Decides n w).0 f)) ∙ free))
      where
        no-keyword : (w : List ℕ) → is_some (keyword_in w) ≡ true → keyword_in w ≡ None → ⊥
        no-keyword w e f = false≢true (ap (λ (o : Option Keyword). is_some o) (sym f) ∙ e)
    other w e false f = refl

-- a name that has a body keeps it
some-first : {X : Type 0} (x y : Option X) (z : Option X) → is_some x ≡ true → or_else x z ≡ x
some-first (Some x) y z e = refl
some-first None y z e = cc

keeps-body : (before : List BareLine) (n w : List ℕ) (bs : List Bare) (b : Bool) → bytes_eq n w ≡ b → is_some (body_of n before) ≡ true → or_else (body_of w before) (or_else (cond b (Some bs) None) None) ≡ body_of w before
keeps-body before n w bs true e h = some-first (body_of w before) None (Some bs) (subst (λ v. is_some (body_of v before) ≡ true) ((bytes_eq-Decides n w).0 e) h)
keeps-body before n w bs false e h = or_else-none (body_of w before)

both-some : {X Y Z : Type 0} (f : X → Z) (g : Y → Z) (x : Option X) (y : Y) → option_map f x ≡ option_map g (Some y) → is_some x ≡ true
both-some f g (Some x) y e = refl
both-some f g None y e = cc

agree-again : (before : List BareLine) (s : State) (n : List ℕ) (body first : Option Tree) → Agrees before s → look_up n s.macros ≡ Some first → Agrees (before ++ define_line tt n (body_bares body) ∷ []) (with_macros s [])
agree-again before s n body first a e =
    let has : is_some (body_of n before) ≡ true = both-some seen_kinds macro_body (body_of n before) first (a.bodies n ∙ ap (option_map macro_body) e) in
    record {
      bodies = λ w.
          ap (option_map seen_kinds) (first_by-append (body_by w) before (define_line tt n (body_bares body) ∷ []) ∙ keeps-body before n w (body_bares body) (bytes_eq n w) refl has)
          ∙ a.bodies w ∙ ap (λ ms. option_map macro_body (look_up w ms)) (sym (append-nil s.macros));
      kinds = λ w. first_by-append (kind_by w) before (define_line tt n (body_bares body) ∷ []) ∙ or_else-none (first_by (kind_by w) before) ∙ a.kinds w;
      keywords = λ w k. ap (look_up w) (append-nil s.macros) ∙ a.keywords w k;
    }

agree-define : (before : List BareLine) (s : State) (n : List ℕ) (body : Option Tree) (o : Option (Option Tree)) → Agrees before s → keyword_in n ≡ None → IsBody body → look_up n s.macros ≡ o
    → Agrees (before ++ define_line tt n (body_bares body) ∷ []) (with_macros s (unless_known o (n, body)))
agree-define before s n body None a free h e = agree-new before s n body a free h
agree-define before s n body (Some first) a free h e = agree-again before s n body first a e

-- ---- keywords stand

apart : (w : List ℕ) (es : List (List ℕ × TokenKind)) → AllByRecursion (λ (e : List ℕ × TokenKind). keyword_in e.0 ≡ None) es → is_some (keyword_in w) ≡ true → look_up w es ≡ None
apart w [] h k = refl
apart w (e ∷ es) h k = by (bytes_eq e.0 w) refl (apart w es h.1 k)
  where
    by : (b : Bool) → bytes_eq e.0 w ≡ b → look_up w es ≡ None → cond b (Some e.1) (look_up w es) ≡ None
    by true f g = clash (ap (λ (o : Option Keyword). is_some o) (sym (ap keyword_in ((bytes_eq-Decides e.0 w).0 f)) ∙ h.0))
      where
        clash : is_some (keyword_in w) ≡ false → Some e.1 ≡ None
        clash g = absurd (false≢true (sym g ∙ k))
    by false f g = g

abbrev NoKeywords : List (List ℕ × TokenKind) → Type 0
NoKeywords es = AllByRecursion (λ (e : List ℕ × TokenKind). keyword_in e.0 ≡ None) es

header-names : (h : Header) → NoKeywords (names_of h)
unfolding keyword_in
header-names stdbool_h = (refl, (refl, (refl, tt)))
header-names stddef_h = (refl, (refl, tt))
header-names stdint_h = (refl, (refl, (refl, (refl, (refl, (refl, (refl, (refl, tt))))))))
header-names string_h = (refl, (refl, (refl, tt)))

no-kind : (h : Header) (w : List ℕ) → is_some (keyword_in w) ≡ true → kind_in h w ≡ None
unfolding kind_in
no-kind h w k = apart w (names_of h) (header-names h) k

no-kinds : (hs : List Header) (w : List ℕ) → is_some (keyword_in w) ≡ true → kind_by_headers w hs ≡ None
no-kinds [] w k = refl
no-kinds (h ∷ hs) w k = ap (λ x. or_else x (kind_by_headers w hs)) (no-kind h w k) ∙ no-kinds hs w k

keywords-stand : (before : List BareLine) (s : State) → Agrees before s → KeywordsStand (becomes s)
keywords-stand before s a = λ w k. (λ i. word_by w (a.keywords w k i) (no-kinds s.headers w k i))

-- ---- lines that are read behind others

-- the tokens of items, with names as they are left
abbrev pub items_tokens : List BareItem → List TokenKind
items_tokens [] = []
items_tokens (i ∷ is) = item_tokens left i ++ items_tokens is

-- they have no fault, leave the tokens of these items, and define these macros
pub record Gives (before new : List BareLine) (items : List BareItem) (macros : List Macro) : Type 0 where
  pub faults : each_behind faults_at before new ≡ []
  pub tokens : seen_kinds (each_behind tokens_at before new) ≡ items_tokens items
  pub defined : map named_kinds (each_behind macros_at before new) ≡ map macro_tokens macros

pub gives-nothing : (before : List BareLine) → Gives before [] [] []
gives-nothing before = record { faults = refl; tokens = refl; defined = refl }

items-append : (is js : List BareItem) → items_tokens (is ++ js) ≡ items_tokens is ++ items_tokens js
items-append [] js = refl
items-append (i ∷ is) js = ap (λ ks. item_tokens left i ++ ks) (items-append is js) ∙ sym (append_assoc (item_tokens left i) (items_tokens is) (items_tokens js))

pub gives-append : (before a b : List BareLine) (is js : List BareItem) (ms ns : List Macro) → Gives before a is ms → Gives (before ++ a) b js ns → Gives before (a ++ b) (is ++ js) (ms ++ ns)
gives-append before a b is js ms ns x y = record {
  faults = each_behind-append faults_at before a b ∙ (λ i. x.faults i ++ y.faults i);
  tokens =
      ap seen_kinds (each_behind-append tokens_at before a b) ∙ kinds-append (each_behind tokens_at before a) (each_behind tokens_at (before ++ a) b)
      ∙ (λ i. x.tokens i ++ y.tokens i) ∙ sym (items-append is js);
  defined =
      ap (map named_kinds) (each_behind-append macros_at before a b) ∙ map-append named_kinds (each_behind macros_at before a) (each_behind macros_at (before ++ a) b)
      ∙ (λ i. x.defined i ++ y.defined i) ∙ sym (map-append macro_tokens ms ns);
}

-- ---- the parts

texts-give : (before : List BareLine) (s : State) (i : BareItem) (x : List ℕ) → Agrees before s → seen_kinds (flat (groups_of x)) ≡ item_tokens written i → SettlesItem (becomes s) (meaning s) i
    → Gives before (map text (groups_of x)) (expanded_item (meaning s) i ∷ []) []
texts-give before s i x a are h = record {
  faults = none-by faults_at (λ b g. refl) before (groups_of x);
  tokens =
      texts-settled before (groups_of x) ∙ ap (settled (word_behind before)) are ∙ ap (λ env. settled env (item_tokens written i)) (agree-words before s a)
      ∙ (item-settled (becomes s) (meaning s) (keywords-stand before s a) i h).is ∙ sym (append-nil (item_tokens left (expanded_item (meaning s) i)));
  defined = ap (map named_kinds) (none-by macros_at (λ b g. refl) before (groups_of x));
}
  where
    none-by : {X : Type 0} (f : List BareLine → BareLine → List X) → ((b : List BareLine) (g : List Bare) → f b (text g) ≡ []) → (b : List BareLine) (gs : List (List Bare)) → each_behind f b (map text gs) ≡ []
    none-by f e b [] = refl
    none-by f e b (g ∷ gs) = ap (λ r. r ++ each_behind f (b ++ text g ∷ []) (map text gs)) (e b g) ∙ none-by f e (b ++ text g ∷ []) gs

-- a body is equal to one of the same kinds

same-number : (x : ℕ) → x == x ≡ true
same-number x = grind (arith, nat_tests)

same-flag : (b : Bool) → same_bool b b ≡ true
same-flag true = refl
same-flag false = refl

same-bytes : (w : List ℕ) → bytes_eq w w ≡ true
same-bytes w = (bytes_eq-Decides w w).1 refl

same-spelled : (s : Spelled) → same_spelled s s ≡ true
same-spelled (Exact width signed) = rw (same-number width, same-flag signed) refl
same-spelled Size = refl
same-spelled (Plain t) = same-number (order_of t)

same-kind : (k : TokenKind) → same_kind k k ≡ true
same-kind (Word w) = same-bytes w
same-kind (Number c) = rw (same-number c.value, same-number c.base, same-flag c.unsigned, same-number c.longs) refl
same-kind (Quoted q) = same-bytes q
same-kind (Mark m) = same-bytes m
same-kind (TypeName s) = same-spelled s
same-kind Null = refl
same-kind Memset = refl

same-bodies : (xs ys : List Bare) → seen_kinds xs ≡ seen_kinds ys → same_body xs ys ≡ true
same-bodies [] [] e = refl
same-bodies [] (y ∷ ys) e = cc
same-bodies (x ∷ xs) [] e = cc
same-bodies (x ∷ xs) (y ∷ ys) e =
    let k : x.kind ≡ y.kind = cc in
    let rest : seen_kinds xs ≡ seen_kinds ys = cc in
    ap (λ l. same_kind x.kind l && same_body xs ys) (sym k) ∙ (λ i. same-kind x.kind i && same-bodies xs ys rest i)

-- ---- what a define gives

new-gives : (before : List BareLine) (n : List ℕ) (body : Option Tree) → body_of n before ≡ None → IsBody body → Gives before (define_line tt n (body_bares body) ∷ []) [] ((n, body) ∷ [])
new-gives before n body none h = record {
  faults = ap (λ o. unless_same tt o (body_bares body) ++ []) none;
  tokens = refl;
  defined = ap (λ o. map named_kinds (cond (is_some o) [] ((n, body_bares body) ∷ []) ++ [])) none ∙ ap (λ ks. (n, ks) ∷ []) (body-kinds body h);
}

again-gives : (before : List BareLine) (n : List ℕ) (body : Option Tree) (bs : List Bare) → body_of n before ≡ Some bs → seen_kinds bs ≡ seen_kinds (body_bares body) → Gives before (define_line tt n (body_bares body) ∷ []) [] []
again-gives before n body bs some same = record {
  faults = ap (λ o. unless_same tt o (body_bares body) ++ []) some ∙ ap (λ b. cond b [] ((Redefined, tt) ∷ []) ++ []) (same-bodies bs (body_bares body) same);
  tokens = refl;
  defined = ap (λ o. map named_kinds (cond (is_some o) [] ((n, body_bares body) ∷ []) ++ [])) some;
}

-- a body whose kinds are these
record HasKinds (o : Option (List Bare)) (ks : List TokenKind) : Type 0 where
  body : List Bare
  is : o ≡ Some body
  kinds : seen_kinds body ≡ ks

has-kinds : (o : Option (List Bare)) (ks : List TokenKind) → option_map seen_kinds o ≡ Some ks → HasKinds o ks
has-kinds (Some bs) ks e = record { body = bs; is = refl; kinds = cc }
has-kinds None ks e = cc

define-gives : (before : List BareLine) (s : State) (n : List ℕ) (body : Option Tree) (o : Option (Option Tree)) → Agrees before s → look_up n s.macros ≡ o → IsBody body → IsSame o body
    → Gives before (define_line tt n (body_bares body) ∷ []) [] (unless_known o (n, body))
define-gives before s n body None a e h q = new-gives before n body (no-macro before s n a e) h
define-gives before s n body (Some first) a e h q =
    let x = has-kinds (body_of n before) (macro_body first) (a.bodies n ∙ ap (option_map macro_body) e) in
    again-gives before n body x.body x.is (x.kinds ∙ ap macro_body q ∙ sym (body-kinds body h))

header-gives : (before : List BareLine) (h : Option Header) → Gives before (map standard (listed h)) [] []
header-gives before None = gives-nothing before
header-gives before (Some h) = record { faults = refl; tokens = refl; defined = refl }

-- the header beside a source, where it may be read
pub record Beside (given : State → Type 0) (header : List BareLine → List BareLine) (behind : State → State) (items : State → List BareItem) (macros : State → List Macro) : Type 0 where
  pub agrees : (before : List BareLine) (s : State) → Agrees before s → given s → Agrees (before ++ header before) (behind s)
  pub gives : (before : List BareLine) (s : State) → Agrees before s → given s → Gives before (header before) (items s) (macros s)

module _ (beside : Option (List ℕ)) (given : State → Type 0) (header : List BareLine → List BareLine) (behind : State → State) (items : State → List BareItem) (macros : State → List Macro) (x : Beside given header behind items macros) where
  same : (before : List BareLine) (s : State) → Agrees before s → Agrees (before ++ []) s
  same before s a = subst (λ b. Agrees b s) (sym (append-nil before)) a

  part-agrees : (before : List BareLine) (s : State) (p : Part) → Agrees before s → Right beside given s p → Agrees (before ++ kept_part header before p) (behind_part behind s p)
  part-agrees before s (comment t) a h = same before s a
  part-agrees before s blank a h = same before s a
  part-agrees before s (include n) a h = agree-header before s (header_named n) a
  part-agrees before s (include_beside n) a h = x.agrees before s a h.1
  part-agrees before s (define n body) a h = agree-define before s n body (look_up n s.macros) a h.0.1 h.1 refl
  part-agrees before s (if_not_defined n) a h = same before s a
  part-agrees before s end_if a h = same before s a
  part-agrees before s (structure tag fs) a h = agree-texts before s (groups_of (struct_text tag fs)) a
  part-agrees before s (routine f body) a h = agree-texts before s (groups_of (function_text f body)) a

  part-gives : (before : List BareLine) (s : State) (p : Part) → Agrees before s → Right beside given s p → Gives before (kept_part header before p) (items_at items s p) (part_macros macros s p)
  part-gives before s (comment t) a h = gives-nothing before
  part-gives before s blank a h = gives-nothing before
  part-gives before s (include n) a h = header-gives before (header_named n)
  part-gives before s (include_beside n) a h = x.gives before s a h.1
  part-gives before s (define n body) a h = define-gives before s n body (look_up n s.macros) a refl h.1 h.2
  part-gives before s (if_not_defined n) a h = gives-nothing before
  part-gives before s end_if a h = gives-nothing before
  part-gives before s (structure tag fs) a h =
      texts-give before s (struct tag (map field_of fs)) (struct_text tag fs) a (item-kinds (struct_text tag fs) (struct_tokens written tag (map field_of fs)) (reads-struct tag fs h.0 h.2)) h.3
  part-gives before s (routine f body) a h =
      texts-give before s (function f body) (function_text f body) a (item-kinds (function_text f body) (head_tokens written f ++ function_body_tokens written body) (reads-function f body h.0 h.1)) h.2

  part-unasked : (before : List BareLine) (s : State) (p : Part) → Agrees before s → Right beside given s p → Unasked before p
  part-unasked before s (if_not_defined n) a h = ap (λ (o : Option (List Bare)). is_some o) (no-macro before s n a h.1)
  part-unasked before s (comment t) a h = tt
  part-unasked before s blank a h = tt
  part-unasked before s (include n) a h = tt
  part-unasked before s (include_beside n) a h = tt
  part-unasked before s (define n body) a h = tt
  part-unasked before s end_if a h = tt
  part-unasked before s (structure tag fs) a h = tt
  part-unasked before s (routine f body) a h = tt

  pub parts-unasked : (before : List BareLine) (s : State) (ps : List Part) → Agrees before s → AllRight beside given behind s ps → AllUnasked header before ps
  parts-unasked before s [] a h = tt
  parts-unasked before s (p ∷ ps) a h = (part-unasked before s p a h.0, parts-unasked (before ++ kept_part header before p) (behind_part behind s p) ps (part-agrees before s p a h.0) h.1)

  pub parts-agree : (before : List BareLine) (s : State) (ps : List Part) → Agrees before s → AllRight beside given behind s ps → Agrees (before ++ kept header before ps) (behind_all behind s ps)
  parts-agree before s [] a h = same before s a
  parts-agree before s (p ∷ ps) a h =
      let new = kept_part header before p in
      subst (λ b. Agrees b (behind_all behind (behind_part behind s p) ps)) (append_assoc before new (kept header (before ++ new) ps))
      (parts-agree (before ++ new) (behind_part behind s p) ps (part-agrees before s p a h.0) h.1)

  pub parts-give : (before : List BareLine) (s : State) (ps : List Part) → Agrees before s → AllRight beside given behind s ps → Gives before (kept header before ps) (items_of behind items s ps) (macros_of behind macros s ps)
  parts-give before s [] a h = gives-nothing before
  parts-give before s (p ∷ ps) a h =
      let new = kept_part header before p in
      gives-append before new (kept header (before ++ new) ps) (items_at items s p) _ (part_macros macros s p) _ (part-gives before s p a h.0)
      (parts-give (before ++ new) (behind_part behind s p) ps (part-agrees before s p a h.0) h.1)
