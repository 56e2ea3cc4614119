-- What preprocessing leaves of the tokens of a tree are the tokens of the tree expanded.
use Rattle.std.proofs.Common.{◌≡◌, ℕ, Bool, true, false, List, [], ◌∷◌, ◌++◌, map, Option, Some, None, is_some, refl, sym, ap, ◌∙◌, append_assoc, append-nil}
use Rattle.std.specs.Prelude.{codes}
use Rattle.std.specs.List.{AllByRecursion}
use Rattle.c_text.specs.declared.token.TokenKind.{TokenKind}
use Rattle.c_text.specs.declared.token.TokenKind.TheVariants.{Word, Constant as Number, Quoted, Mark, TypeName, Null, Memset}
use Rattle.c_tree.specs.declared.item.CType.{CType}
use Rattle.c_tree.specs.declared.item.CType.TheVariants.{Void, Integer, Pointer}
use Rattle.c_tree.specs.declared.item.Target.{Target}
use Rattle.c_tree.specs.declared.item.Target.TheVariants.{Byte, Struct}
use Rattle.c_text.specs.SeenToken.{Seen, Bare}
use Rattle.c_tree.specs.Symbol.{keyword_in}
use Rattle.c_text.specs.Directive.{Line, text, word_of}
use Rattle.c_text.specs.MacroDefinition.{first_by, body_by, body_of}
use Rattle.c_text.specs.Preprocessing.{each_behind, put_for, body_for, kind_by, replaced_by, replaced_word, replaced, tokens_at}
use Rattle.c_text.specs.BarePreprocessing.{seen_kinds}
use Rattle.c_tree.specs.BareExpression.{Tree, Trees, constant, name, null, member, element, call, unary, cast, binary, bracket, none, more}
use Rattle.c_tree.specs.BareStatement.{Action, Actions, Parts, declare, assign, discard, empty, block, when, choose, return, break, switch, no_more, then, done, label, statement}
use Rattle.c_tree.specs.BareUnit.{BareField, BareHead, BareItem, struct, function}
use Rattle.c_text.proofs.Group.{first_by-append}
use Rattle.c_printed.specs.Spelling.{sign_text, operator_text, assign_text, type_words, words, left_type, left_callee, callee_text, left, written}
use Rattle.c_printed.specs.PrintedExpression.{comma, tokens_of, all_tokens}
use Rattle.c_printed.specs.PrintedStatement.{value_tokens, result_tokens, label_tokens, action_tokens, actions_tokens, parts_tokens}
use Rattle.c_printed.specs.PrintedItem.{const_tokens, target_tokens, named_tokens, fields_tokens, params_tokens, all_params_tokens, static_tokens, head_tokens, body_tokens, item_tokens}
use Rattle.c_printed.specs.Expanded.{Meaning, expanded, expanded_all, expanded_option, expanded_action, expanded_actions, expanded_parts, expanded_body, expanded_item}
use Rattle.c_printed.specs.Settled.{Becomes, settle, settled, Stands, Settles, SettleAll, SettlesOption, SettlesAction, SettleActions, SettleParts, TargetStands, KindStands, NamedStands, SettlesBody, SettlesHead, SettlesItem}
use Rattle.cg_out.proofs.WordLaws.{or_else-none}
use Rattle.c_printed.proofs.SmallLaws.{kinds-append}
use Rattle.c_printed.proofs.ItemLines.{flat}
use Rattle.c_tree.specs.BareStatement as a

-- ---- what becomes of a word

-- by the body of a macro, or by the kind that a header gives
abbrev pub chosen : {P : Type 0} → List ℕ → Option (List (Seen P)) → Option TokenKind → List TokenKind
chosen w (Some body) k = seen_kinds body
chosen w None (Some k) = k ∷ []
chosen w None None = Word w ∷ []

-- behind the lines that were read
abbrev pub word_behind : {P : Type 0} → List (Line P) → Becomes
word_behind before w = chosen w (body_of w before) (first_by (kind_by w) before)

-- keywords are no macros
abbrev pub KeywordsStand : Becomes → Type 0
KeywordsStand env = (w : List ℕ) → is_some (keyword_in w) ≡ true → Stands env w

-- ---- replaced tokens, by their kinds

module _ {P : Type 0} where
  rest-kinds : (t : Seen P) (bs : List (Seen P)) → seen_kinds (map (λ c. put_for t false c.kind) bs) ≡ seen_kinds bs
  rest-kinds t [] = refl
  rest-kinds t (b ∷ bs) = ap (λ ks. b.kind ∷ ks) (rest-kinds t bs)

  body-kinds : (t : Seen P) (body : List (Seen P)) → seen_kinds (body_for t body) ≡ seen_kinds body
  body-kinds t [] = refl
  body-kinds t (b ∷ bs) = ap (λ ks. b.kind ∷ ks) (rest-kinds t bs)

  by-kinds : (t : Seen P) (w : List ℕ) (o : Option (List (Seen P))) (k : Option TokenKind) → t.kind ≡ Word w → seen_kinds (replaced_by t o k) ≡ chosen w o k
  by-kinds t w (Some body) k e = body-kinds t body
  by-kinds t w None (Some k) e = refl
  by-kinds t w None None e = ap (λ k. k ∷ []) e

  one-kinds : (before : List (Line P)) (t : Seen P) (k : TokenKind) → t.kind ≡ k → seen_kinds (replaced_word before t (word_of k)) ≡ settle (word_behind before) k
  one-kinds before t (Word w) e = by-kinds t w (body_of w before) (first_by (kind_by w) before) e
  one-kinds before t (Number c) e = ap (λ k. k ∷ []) e
  one-kinds before t (Quoted q) e = ap (λ k. k ∷ []) e
  one-kinds before t (Mark m) e = ap (λ k. k ∷ []) e
  one-kinds before t (TypeName s) e = ap (λ k. k ∷ []) e
  one-kinds before t Null e = ap (λ k. k ∷ []) e
  one-kinds before t Memset e = ap (λ k. k ∷ []) e

  pub replaced-kinds : (before : List (Line P)) (ts : List (Seen P)) → seen_kinds (replaced before ts) ≡ settled (word_behind before) (seen_kinds ts)
  replaced-kinds before [] = refl
  replaced-kinds before (t ∷ ts) =
      kinds-append (replaced_word before t (word_of t.kind)) (replaced before ts)
      ∙ (λ i. one-kinds before t t.kind refl i ++ replaced-kinds before ts i)

-- ---- lines of text change no name

text-body : (before : List (Line (Unit {0}))) (ts : List Bare) (w : List ℕ) → body_of w (before ++ text ts ∷ []) ≡ body_of w before
text-body before ts w = first_by-append (body_by w) before (text ts ∷ []) ∙ or_else-none (body_of w before)

text-kind : (before : List (Line (Unit {0}))) (ts : List Bare) (w : List ℕ) → first_by (kind_by w) (before ++ text ts ∷ []) ≡ first_by (kind_by w) before
text-kind before ts w = first_by-append (kind_by w) before (text ts ∷ []) ∙ or_else-none (first_by (kind_by w) before)

text-word : (before : List (Line (Unit {0}))) (ts : List Bare) → word_behind (before ++ text ts ∷ []) ≡ word_behind before
text-word before ts = λ i w. chosen w (text-body before ts w i) (text-kind before ts w i)

-- ---- lists

pub settled-append : (env : Becomes) (ks ls : List TokenKind) → settled env (ks ++ ls) ≡ settled env ks ++ settled env ls
settled-append env [] ls = refl
settled-append env (k ∷ ks) ls = ap (λ r. settle env k ++ r) (settled-append env ks ls) ∙ sym (append_assoc (settle env k) (settled env ks) (settled env ls))

-- all tokens of an item, over its lines
pub texts-settled : (before : List (Line (Unit {0}))) (groups : List (List Bare)) → seen_kinds (each_behind tokens_at before (map text groups)) ≡ settled (word_behind before) (seen_kinds (flat groups))
texts-settled before [] = refl
texts-settled before (g ∷ gs) =
    kinds-append (replaced before g) (each_behind tokens_at (before ++ text g ∷ []) (map text gs))
    ∙ (λ i. replaced-kinds before g i ++ (texts-settled (before ++ text g ∷ []) gs ∙ ap (λ env. settled env (seen_kinds (flat gs))) (text-word before g)) i)
    ∙ sym (settled-append (word_behind before) (seen_kinds g) (seen_kinds (flat gs)))
    ∙ ap (settled (word_behind before)) (sym (kinds-append g (flat gs)))

-- ---- trees

-- preprocessing leaves these tokens of those
pub record Leaves (env : Becomes) (ks ls : List TokenKind) : Type 0 where
  pub is : settled env ks ≡ ls

module _ (env : Becomes) (m : Meaning) where
  -- tokens in a row, of which each part settles
  row : (ks bs cs ds : List TokenKind) → Leaves env ks cs → Leaves env bs ds → Leaves env (ks ++ bs) (cs ++ ds)
  row ks bs cs ds e f = record { is = settled-append env ks bs ∙ (λ i. e.is i ++ f.is i) }

  none-left : Leaves env [] []
  none-left = record { is = refl }

  -- a word that becomes one token, and a punctuator
  word : (w : List ℕ) (k : TokenKind) (bs ds : List TokenKind) → env w ≡ k ∷ [] → Leaves env bs ds → Leaves env (Word w ∷ bs) (k ∷ ds)
  word w k bs ds e f = record { is = λ i. e i ++ f.is i }

  mark : (w : List ℕ) (bs ds : List TokenKind) → Leaves env bs ds → Leaves env (Mark w ∷ bs) (Mark w ∷ ds)
  mark w bs ds f = record { is = ap (λ ks. Mark w ∷ ks) f.is }

  comma-settled : (b : Bool) → Leaves env (comma b) (comma b)
  comma-settled true = record { is = refl }
  comma-settled false = record { is = refl }

  mutual
    pub tree-settled : (t : Tree) → Settles env m t → Leaves env (tokens_of written t) (tokens_of left (expanded m t))
    tree-settled (constant c) h = record { is = refl }
    tree-settled (name n) h = record { is = append-nil (env n) ∙ h.0 }
    tree-settled null h = record { is = append-nil (env (codes "NULL")) ∙ h }
    tree-settled (member base field) h = word base (Word base) _ _ h.0 (mark (codes "->") _ _ (word field (Word field) [] [] h.1 (record { is = refl })))
    tree-settled (element base i) h =
        word base (Word base) _ _ h.0 (mark (codes "[") _ _ (row (tokens_of written i) (Mark (codes "]") ∷ []) _ _ (tree-settled i h.1) (record { is = refl })))
    tree-settled (call f ts) h =
        word (callee_text f) (left_callee f) _ _ h.0 (mark (codes "(") _ _ (row (all_tokens written true ts) (Mark (codes ")") ∷ []) _ _ (trees-settled true ts h.1) (record { is = refl })))
    tree-settled (unary u x) h = mark (sign_text u) _ _ (tree-settled x h)
    tree-settled (cast to x) h = mark (codes "(") _ _ (row (words (type_words to)) _ (left_type to) _ (record { is = h.0 }) (mark (codes ")") _ _ (tree-settled x h.1)))
    tree-settled (binary o l r) h = row (tokens_of written l) _ _ _ (tree-settled l h.0) (mark (operator_text o) _ _ (tree-settled r h.1))
    tree-settled (bracket x) h = mark (codes "(") _ _ (row (tokens_of written x) (Mark (codes ")") ∷ []) _ _ (tree-settled x h) (record { is = refl }))

    pub trees-settled : (first : Bool) (ts : Trees) → SettleAll env m ts → Leaves env (all_tokens written first ts) (all_tokens left first (expanded_all m ts))
    trees-settled first none h = record { is = refl }
    trees-settled first (more t ts) h =
        row (comma first) _ (comma first) _ (comma-settled first) (row (tokens_of written t) (all_tokens written false ts) _ _ (tree-settled t h.0) (trees-settled false ts h.1))

  -- ---- statements

  module _ (kw : KeywordsStand env) where
    keyword : (w : List ℕ) (bs ds : List TokenKind) → is_some (keyword_in w) ≡ true → Leaves env bs ds → Leaves env (Word w ∷ bs) (Word w ∷ ds)
    keyword w bs ds e f = word w (Word w) bs ds (kw w e) f

    value-settled : (v : Option Tree) → SettlesOption env m v → Leaves env (value_tokens written v) (value_tokens left (expanded_option m v))
    value-settled None h = record { is = refl }
    value-settled (Some t) h = mark (codes "=") _ _ (tree-settled t h)

    result-settled : (v : Option Tree) → SettlesOption env m v → Leaves env (result_tokens written v) (result_tokens left (expanded_option m v))
    result-settled None h = record { is = refl }
    result-settled (Some t) h = tree-settled t h

    label-settled : (v : Option Tree) → SettlesOption env m v → Leaves env (label_tokens written v) (label_tokens left (expanded_option m v))
    unfolding keyword_in
    label-settled None h = keyword (codes "default") [] [] refl none-left
    label-settled (Some t) h = keyword (codes "case") _ _ refl (tree-settled t h)

    mutual
      unfolding keyword_in

      pub action-settled : (x : Action) → SettlesAction env m x → Leaves env (action_tokens written x) (action_tokens left (expanded_action m x))
      action-settled (declare s x v) h =
          row (words (type_words s)) _ (left_type s) _ (record { is = h.0 }) (word x (Word x) _ _ h.1 (row (value_tokens written v) (Mark (codes ";") ∷ []) _ _ (value-settled v h.2) (record { is = refl })))
      action-settled (assign t o v) h =
          row (tokens_of written t) _ _ _ (tree-settled t h.1) (mark (assign_text o) _ _ (row (tokens_of written v) (Mark (codes ";") ∷ []) _ _ (tree-settled v h.2) (record { is = refl })))
      action-settled (a.call f ts) h =
          word (callee_text f) (left_callee f) _ _ h.0 (mark (codes "(") _ _ (row (all_tokens written true ts) (Mark (codes ")") ∷ Mark (codes ";") ∷ []) _ _ (trees-settled true ts h.1) (record { is = refl })))
      action-settled (discard x) h =
          mark (codes "(") _ _ (keyword (codes "void") _ _ refl (mark (codes ")") _ _ (word x (Word x) (Mark (codes ";") ∷ []) _ h (record { is = refl }))))
      action-settled empty h = record { is = refl }
      action-settled (block list) h = mark (codes "{") _ _ (row (actions_tokens written list) (Mark (codes "}") ∷ []) _ _ (actions-settled list h) (record { is = refl }))
      action-settled (when c x) h =
          keyword (codes "if") _ _ refl (mark (codes "(") _ _ (row (tokens_of written c) _ _ _ (tree-settled c h.0) (mark (codes ")") _ _ (action-settled x h.1))))
      action-settled (choose c x y) h =
          keyword (codes "if") _ _ refl (mark (codes "(") _ _ (row (tokens_of written c) _ _ _ (tree-settled c h.0)
          (mark (codes ")") _ _ (row (action_tokens written x) _ _ _ (action-settled x h.1) (keyword (codes "else") _ _ refl (action-settled y h.2))))))
      action-settled (return v) h = keyword (codes "return") _ _ refl (row (result_tokens written v) (Mark (codes ";") ∷ []) _ _ (result-settled v h) (record { is = refl }))
      action-settled break h = keyword (codes "break") (Mark (codes ";") ∷ []) _ refl (record { is = refl })
      action-settled (switch v ps) h =
          keyword (codes "switch") _ _ refl (mark (codes "(") _ _ (row (tokens_of written v) _ _ _ (tree-settled v h.0)
          (mark (codes ")") _ _ (mark (codes "{") _ _ (row (parts_tokens written ps) (Mark (codes "}") ∷ []) _ _ (parts-settled ps h.1) (record { is = refl }))))))

      pub actions-settled : (list : Actions) → SettleActions env m list → Leaves env (actions_tokens written list) (actions_tokens left (expanded_actions m list))
      actions-settled no_more h = record { is = refl }
      actions-settled (then x rest) h = row (action_tokens written x) (actions_tokens written rest) _ _ (action-settled x h.0) (actions-settled rest h.1)

      parts-settled : (ps : Parts) → SettleParts env m ps → Leaves env (parts_tokens written ps) (parts_tokens left (expanded_parts m ps))
      parts-settled done h = record { is = refl }
      parts-settled (label v ps) h = row (label_tokens written v) _ _ _ (label-settled v h.0) (mark (codes ":") _ _ (parts-settled ps h.1))
      parts-settled (statement x ps) h = row (action_tokens written x) (parts_tokens written ps) _ _ (action-settled x h.0) (parts-settled ps h.1)

    -- ---- items

    const-settled : (c : Bool) → Leaves env (const_tokens c) (const_tokens c)
    unfolding keyword_in
    const-settled true = keyword (codes "const") [] [] refl none-left
    const-settled false = record { is = refl }

    static-settled : (c : Bool) → Leaves env (static_tokens c) (static_tokens c)
    unfolding keyword_in
    static-settled true = keyword (codes "static") [] [] refl none-left
    static-settled false = record { is = refl }

    target-settled : (t : Target) → TargetStands env t → Leaves env (target_tokens written t) (target_tokens left t)
    unfolding keyword_in
    target-settled Byte h = record { is = h }
    target-settled (Struct tag) h = keyword (codes "struct") _ _ refl (word tag (Word tag) [] [] h (record { is = refl }))

    named-settled : (t : CType) (n : List ℕ) → KindStands env t → Stands env n → Leaves env (named_tokens written t n) (named_tokens left t n)
    unfolding keyword_in
    named-settled Void n h k = keyword (codes "void") _ _ refl (word n (Word n) [] [] k (record { is = refl }))
    named-settled (Integer s) n h k = row (words (type_words s)) (Word n ∷ []) (left_type s) _ (record { is = h }) (word n (Word n) [] [] k (record { is = refl }))
    named-settled (Pointer to c) n h k =
        row (const_tokens c) _ (const_tokens c) _ (const-settled c)
        (row (target_tokens written to) _ _ _ (target-settled to h) (mark (codes "*") _ _ (word n (Word n) [] [] k (record { is = refl }))))

    fields-settled : (fs : List BareField) → AllByRecursion (NamedStands env) fs → Leaves env (fields_tokens written fs) (fields_tokens left fs)
    fields-settled [] h = record { is = refl }
    fields-settled (f ∷ fs) h = row (named_tokens written f.kind f.name) _ _ _ (named-settled f.kind f.name h.0.0 h.0.1) (mark (codes ";") _ _ (fields-settled fs h.1))

    params-settled : (first : Bool) (ps : List BareField) → AllByRecursion (NamedStands env) ps → Leaves env (params_tokens written first ps) (params_tokens left first ps)
    params-settled first [] h = record { is = refl }
    params-settled first (p ∷ ps) h =
        row (comma first) _ (comma first) _ (comma-settled first)
        (row (named_tokens written p.kind p.name) _ _ _ (named-settled p.kind p.name h.0.0 h.0.1) (params-settled false ps h.1))

    all-params-settled : (ps : List BareField) → AllByRecursion (NamedStands env) ps → Leaves env (all_params_tokens written ps) (all_params_tokens left ps)
    unfolding keyword_in
    all-params-settled [] h = keyword (codes "void") [] [] refl none-left
    all-params-settled (p ∷ ps) h = params-settled true (p ∷ ps) h

    head-settled : (f : BareHead) → SettlesHead env f → Leaves env (head_tokens written f) (head_tokens left f)
    head-settled f h =
        row (static_tokens f.fixed) _ (static_tokens f.fixed) _ (static-settled f.fixed)
        (row (named_tokens written f.returns f.name) _ _ _ (named-settled f.returns f.name h.0 h.1)
        (mark (codes "(") _ _ (row (all_params_tokens written f.params) (Mark (codes ")") ∷ []) _ _ (all-params-settled f.params h.2) (record { is = refl }))))

    body-settled : (body : Option Actions) → SettlesBody env m body → Leaves env (body_tokens written body) (body_tokens left (expanded_body m body))
    body-settled None h = record { is = refl }
    body-settled (Some list) h = mark (codes "{") _ _ (row (actions_tokens written list) (Mark (codes "}") ∷ []) _ _ (actions-settled list h) (record { is = refl }))

    pub item-settled : (i : BareItem) → SettlesItem env m i → Leaves env (item_tokens written i) (item_tokens left (expanded_item m i))
    unfolding keyword_in
    item-settled (struct tag fs) h =
        keyword (codes "struct") _ _ refl (word tag (Word tag) _ _ h.0 (mark (codes "{") _ _ (row (fields_tokens written fs) (Mark (codes "}") ∷ Mark (codes ";") ∷ []) _ _ (fields-settled fs h.1) (record { is = refl }))))
    item-settled (function f body) h = row (head_tokens written f) (body_tokens written body) _ _ (head-settled f h.0) (body-settled body h.1)
