-- Lines that are merged, one at a time.
use Rattle.std.proofs.Common.{◌≡◌, ℕ, ◌+◌, ◌-◌, ◌<◌, Bool, true, false, cond, ◌&&◌, not, codes, List, [], ◌∷◌, ◌++◌, length, get_or, take, drop, refl, sym, ap, ◌∙◌, arith, length-drop}
use Rattle.std.proofs.lemmas.List.{take_all}
use Rattle.std.specs.List.{prefix_len}
use Rattle.c_text.specs.declared.token.Token.{Token}
use Rattle.c_text.specs.StandardHeader.{is_mark}
use Rattle.c_pre.specs.Shown.{before_cut, cut}
use Rattle.c_pre.specs.Merging.{begins_directive, is_directive, with_text, merged}
use Rattle.c_pre.proofs.Cut.{more, one-more, cut-first}

-- the slice behind the first token
pub behind-first : (ts : List Token) → take (length ts - 1) (drop 1 ts) ≡ drop 1 ts
behind-first ts = take_all (length ts - 1) (drop 1 ts) (omega (arith, length-drop 1 ts))

-- ---- a directive

directive-line : (t : Token) (ts : List Token) → begins_directive t ≡ true → merged (cut (t ∷ ts)) ≡ (t ∷ take (more ts) ts) ∷ merged (cut (drop (more ts) ts))
directive-line t ts b =
    let rest = merged (cut (drop (more ts) ts)) in
    ap merged (cut-first t ts) ∙ ap (λ c. cond c ((t ∷ take (more ts) ts) ∷ rest) (with_text (t ∷ take (more ts) ts) rest)) b

pub directive-first : (ts : List Token) (x : Token) (n : ℕ) → 0 < length ts → x ≡ get_or ts 0 x → begins_directive x ≡ true → n ≡ prefix_len (λ t. not t.fresh) (drop 1 ts) → merged (cut ts) ≡ take (1 + n) ts ∷ merged (cut (drop (1 + n) ts))
directive-first [] x n h is b e = absurd (omega arith)
directive-first (t ∷ ts) x n h is b e =
    directive-line t ts (ap begins_directive (sym is) ∙ b)
    ∙ ap (λ m. take m (t ∷ ts) ∷ merged (cut (drop m (t ∷ ts)))) (sym (ap (λ m. 1 + m) e ∙ one-more (more ts)))

-- ---- text, token by token

with-one : (t u : Token) (us : List Token) (ls : List (List Token)) → begins_directive u ≡ false → with_text (t ∷ u ∷ us) ls ≡ with_text (t ∷ []) (with_text (u ∷ us) ls)
with-one t u us [] b = sym (ap (λ c. cond c ((t ∷ []) ∷ (u ∷ us) ∷ []) ((t ∷ u ∷ us) ∷ [])) b)
with-one t u us (l ∷ ls) b = by (is_directive l)
  where
    by : (c : Bool) → cond c ((t ∷ u ∷ us) ∷ l ∷ ls) (((t ∷ u ∷ us) ++ l) ∷ ls) ≡ with_text (t ∷ []) (cond c ((u ∷ us) ∷ l ∷ ls) (((u ∷ us) ++ l) ∷ ls))
    by true = sym (ap (λ d. cond d ((t ∷ []) ∷ (u ∷ us) ∷ l ∷ ls) ((t ∷ u ∷ us) ∷ l ∷ ls)) b)
    by false = sym (ap (λ d. cond d ((t ∷ []) ∷ ((u ∷ us) ++ l) ∷ ls) ((t ∷ ((u ∷ us) ++ l)) ∷ ls)) b)

text-token : (t : Token) (ts : List Token) → begins_directive t ≡ false → merged (cut (t ∷ ts)) ≡ with_text (t ∷ []) (merged (cut ts))
text-token t [] b = ap (λ c. cond c ((t ∷ []) ∷ []) ((t ∷ []) ∷ [])) b
text-token t (u ∷ us) b = by u.fresh refl
  where
    rest : List (List Token)
    rest = merged (cut (drop (more us) us))

    chosen : (l : List Token) (v : Token) → begins_directive v ≡ false → cond (begins_directive v) (l ∷ rest) (with_text l rest) ≡ with_text l rest
    chosen l v e = ap (λ c. cond c (l ∷ rest) (with_text l rest)) e

    by : (f : Bool) → u.fresh ≡ f → merged (cut (t ∷ u ∷ us)) ≡ with_text (t ∷ []) (merged (cut (u ∷ us)))
    by true f =
        ap (λ c. merged (before_cut c t (cut (u ∷ us)))) f
        ∙ ap (λ c. cond c ((t ∷ []) ∷ merged (cut (u ∷ us))) (with_text (t ∷ []) (merged (cut (u ∷ us))))) b
    by false f =
        let not_u : begins_directive u ≡ false = ap (λ c. c && is_mark (codes "#") u.kind) f in
        (λ i. merged (before_cut (f i) t (cut-first u us i)))
        ∙ chosen (t ∷ u ∷ take (more us) us) t b
        ∙ with-one t u (take (more us) us) rest not_u
        ∙ ap (with_text (t ∷ [])) (sym (ap merged (cut-first u us) ∙ chosen (u ∷ take (more us) us) u not_u))

-- ---- the text before a directive

-- how many tokens of the text follow its first
abbrev before : List Token → ℕ
before ts = prefix_len (λ t. not (begins_directive t)) ts

text-line : (t : Token) (ts : List Token) → begins_directive t ≡ false → merged (cut (t ∷ ts)) ≡ (t ∷ take (before ts) ts) ∷ merged (cut (drop (before ts) ts))
text-line t [] b = text-token t [] b
text-line t (u ∷ us) b = text-token t (u ∷ us) b ∙ by (begins_directive u) refl (text-line u us)
  where
    by : (c : Bool) → begins_directive u ≡ c → (begins_directive u ≡ false → merged (cut (u ∷ us)) ≡ (u ∷ take (before us) us) ∷ merged (cut (drop (before us) us)))
        → with_text (t ∷ []) (merged (cut (u ∷ us))) ≡ (t ∷ take (before (u ∷ us)) (u ∷ us)) ∷ merged (cut (drop (before (u ∷ us)) (u ∷ us)))
    by true c behind =
        let front = u ∷ take (more us) us in
        let rest = merged (cut (drop (more us) us)) in
        ap (with_text (t ∷ [])) (directive-line u us c)
        ∙ ap (λ d. cond d ((t ∷ []) ∷ front ∷ rest) ((t ∷ front) ∷ rest)) c
        ∙ ap (λ ls. (t ∷ []) ∷ ls) (sym (directive-line u us c))
        ∙ sym (ap (λ d. (t ∷ take (cond (not d) (1 + before us) 0) (u ∷ us)) ∷ merged (cut (drop (cond (not d) (1 + before us) 0) (u ∷ us)))) c)
    by false c behind =
        let front = u ∷ take (before us) us in
        let rest = merged (cut (drop (before us) us)) in
        ap (with_text (t ∷ [])) (behind c)
        ∙ ap (λ d. cond d ((t ∷ []) ∷ front ∷ rest) ((t ∷ front) ∷ rest)) c
        ∙ ap (λ n. (t ∷ take n (u ∷ us)) ∷ merged (cut (drop n (u ∷ us)))) (sym (one-more (before us)))
        ∙ sym (ap (λ d. (t ∷ take (cond (not d) (1 + before us) 0) (u ∷ us)) ∷ merged (cut (drop (cond (not d) (1 + before us) 0) (u ∷ us)))) c)

pub text-first : (ts : List Token) (x : Token) (n : ℕ) → 0 < length ts → x ≡ get_or ts 0 x → begins_directive x ≡ false → n ≡ prefix_len (λ t. not (begins_directive t)) (drop 1 ts) → merged (cut ts) ≡ take (1 + n) ts ∷ merged (cut (drop (1 + n) ts))
text-first [] x n h is b e = absurd (omega arith)
text-first (t ∷ ts) x n h is b e =
    text-line t ts (ap begins_directive (sym is) ∙ b)
    ∙ ap (λ m. take m (t ∷ ts) ∷ merged (cut (drop m (t ∷ ts)))) (sym (ap (λ m. 1 + m) e ∙ one-more (before ts)))
